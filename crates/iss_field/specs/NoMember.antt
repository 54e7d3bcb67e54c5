-- What doesn't stand at the front of bytes that are read member by member.
use Rattle.std.specs.Prelude.{ℕ, ◌++◌, ◌∷◌, ◌≡◌, ◌≤◌, List, Bool, true, length, get_or, option_and_then, IsSome}
use Rattle.std.specs.Char.{is_ascii_digit}
use Rattle.std.specs.List.{list_all, prefix_len}
use Rattle.json.specs.Json.{boolean, number, string}
use Rattle.json.specs.Print.{quoted}
use Rattle.serde_json.specs.Find.{as_u64}
use Rattle.serde_json.specs.Read.{number_of}
use Rattle.iss_field.specs.PlainObjects.{is_plain_ascii, flag_text, member_text}

-- each byte is of ASCII, and JSON escapes none
abbrev pub IsPlainAscii : List ℕ → Type 0
IsPlainAscii text = list_all is_plain_ascii text ≡ true

-- digits of which the first isn't 0, with no digit after them
pub record AreAllDigits (digits after : List ℕ) : Type 0 where
  pub low : 49 ≤ get_or digits 0 0
  pub high : get_or digits 0 0 ≤ 57
  pub all : prefix_len is_ascii_digit (digits ++ after) ≡ length digits

-- the whole number that digits spell, if 64 bits hold it
abbrev pub FitsWhole : List ℕ → Type 0
FitsWhole digits = IsSome (option_and_then as_u64 (number_of digits))

-- no plain text in quotes comes first
abbrev pub NoTextFirst : List ℕ → Type 0
NoTextFirst rest = (text after : List ℕ) → IsPlainAscii text → rest ≡ quoted text ++ after → ⊥

-- no digits come first of which the first isn't 0
abbrev pub NoNumberFirst : List ℕ → Type 0
NoNumberFirst rest = (digits after : List ℕ) → AreAllDigits digits after → rest ≡ digits ++ after → ⊥

-- no flag comes first
abbrev pub NoFlagFirst : List ℕ → Type 0
NoFlagFirst rest = (flag : Bool) (after : List ℕ) → rest ≡ flag_text flag ++ after → ⊥

-- no member of that name stands after this byte
abbrev pub HasNoValue : ℕ → List ℕ → List ℕ → Type 0
HasNoValue first name rest = (value : List ℕ) → rest ≡ first ∷ (quoted name ++ (58 ∷ value)) → ⊥

-- no member of that name and of a plain text stands after this byte
abbrev pub HasNoText : ℕ → List ℕ → List ℕ → Type 0
HasNoText first name rest = (text after : List ℕ) → IsPlainAscii text → rest ≡ member_text first name (string text) after → ⊥

-- no member of that name and of a whole number of 64 bits, which isn't 0, stands after this byte
abbrev pub HasNoNumber : ℕ → List ℕ → List ℕ → Type 0
HasNoNumber first name rest =
    (digits after : List ℕ) → AreAllDigits digits after → FitsWhole digits → rest ≡ member_text first name (number digits) after → ⊥

-- no member of that name and of a flag stands after this byte
abbrev pub HasNoFlag : ℕ → List ℕ → List ℕ → Type 0
HasNoFlag first name rest = (flag : Bool) (after : List ℕ) → rest ≡ member_text first name (boolean flag) after → ⊥
