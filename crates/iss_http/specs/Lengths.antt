-- What the headers of a message tell of its body.
use Rattle.std.specs.Prelude.{ℕ, Bool, ◌&&◌, nat_lt, nat_le, List, [], ◌∷◌, length, codes, Option, Some, None, if◌then◌else◌}
use Rattle.std.specs.List.{list_any, filter_map}
use Rattle.std.specs.Str.{all_ascii_digits, str_eq_ignore_ascii_case}
use Rattle.std.specs.Str.Parse.{digits_value_after}
use Rattle.iss_http.specs.declared.limits.TheConstants.{MOST_DIGITS}
use Rattle.iss_http.specs.declared.lengths.ContentLength.{ContentLength}
use Rattle.iss_http.specs.declared.lengths.ContentLength.TheVariants.{Absent, Bad, Good}
use Rattle.iss_http.specs.Heads.{Header}

-- the header has this name, whose letters may be of either case
abbrev pub is_named : List ℕ → Header → Bool
is_named name h = str_eq_ignore_ascii_case h.name name

-- the values of the headers of this name
abbrev pub named : List ℕ → List Header → List (List ℕ)
named name headers = filter_map (λ h. if is_named name h then Some h.value else None) headers

-- there is a header of this name
abbrev pub has : List ℕ → List Header → Bool
has name headers = list_any (λ h. is_named name h) headers

-- the number that these digits write after those of n, if they are digits
abbrev pub number_after : ℕ → List ℕ → Option ℕ
number_after n text = if all_ascii_digits text then Some (digits_value_after 10 n text) else None

-- a length as a header spells it: 1 to 10 digits
unfoldable pub length_of : List ℕ → Option ℕ
length_of text = if nat_lt 0 (length text) && nat_le (length text) MOST_DIGITS then number_after 0 text else None

-- a length that is good, or a bad one
abbrev pub good_length : Option ℕ → ContentLength
good_length None = Bad
good_length (Some size) = Good size

-- one value alone is a length
abbrev pub lone_length : List (List ℕ) → ContentLength
lone_length [] = Absent
lone_length (text ∷ []) = good_length (length_of text)
lone_length (text ∷ other ∷ texts) = Bad

-- the body's length by the headers
unfoldable pub content_length : List Header → ContentLength
content_length headers = lone_length (named (codes "content-length") headers)
