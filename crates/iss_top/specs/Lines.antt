-- The lines of a list of bytes.
use Rattle.std.specs.Prelude.{ℕ, ◌-◌, Bool, not, ◌==◌, ◌||◌, nat_lt, List, [], ◌∷◌, ◌++◌, length, take, filter, if◌then◌else◌}
use Rattle.iss_top.specs.declared.buffer.TheConstants.{KEPT}
use Rattle.std.specs.List.{list_all, list_any}

-- a space, a tab or a carriage return
abbrev pub is_blank_byte : ℕ → Bool
is_blank_byte b = b == 32 || b == 9 || b == 13

abbrev pub is_blank : List ℕ → Bool
is_blank line = list_all is_blank_byte line

-- whether a line ends in these bytes
abbrev pub has_line_feed : List ℕ → Bool
has_line_feed bytes = list_any (λ b. b == 10) bytes

-- these bytes before the first part
abbrev pub onto_first : List ℕ → List (List ℕ) → List (List ℕ)
onto_first prefix [] = prefix ∷ []
onto_first prefix (part ∷ parts) = (prefix ++ part) ∷ parts

-- the bytes up to each line feed, and those after the last one
abbrev pub line_parts : List ℕ → List (List ℕ)
line_parts [] = [] ∷ []
line_parts (b ∷ bs) = if b == 10 then [] ∷ line_parts bs else onto_first (b ∷ []) (line_parts bs)

-- the parts that are not blank
abbrev pub lines_of : List ℕ → List (List ℕ)
lines_of bytes = filter (λ part. not (is_blank part)) (line_parts bytes)

-- all but the last of these
abbrev pub all_but_last : List (List ℕ) → List (List ℕ)
all_but_last [] = []
all_but_last (part ∷ []) = []
all_but_last (part ∷ next ∷ parts) = part ∷ all_but_last (next ∷ parts)

-- the lines that ended within these bytes, by their line feeds
abbrev pub ended_lines : List ℕ → List (List ℕ)
ended_lines bytes = filter (λ part. not (is_blank part)) (all_but_last (line_parts bytes))

-- What a buffer keeps of a line with one more byte. A line of more than 16384 bytes is told the same whatever it holds. So once it has
-- more, a blank is left out and any other byte takes the place of the last.
abbrev pub kept_with : List ℕ → ℕ → List ℕ
kept_with line b =
    if nat_lt (length line) KEPT then line ++ b ∷ []
    else if is_blank_byte b then line
    else take (length line - 1) line ++ b ∷ []
