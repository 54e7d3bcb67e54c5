-- Objects as most lines spell them: members of plain texts, whole numbers and flags, with nothing between them.
use Rattle.std.specs.Prelude.{ℕ, ◌&&◌, ◌∷◌, ◌++◌, [], List, Bool, true, false, cond, nat_lt, is_some, ◌≡◌, ⊤}
use Rattle.json.specs.Json.{Json, null, boolean, number, string, array, object, Members, no_members, member}
use Rattle.json.specs.Print.{IsNumber, quoted, token_text}
use Rattle.json.specs.Token as token
use Rattle.serde_json.specs.Read.{number_of}
use Rattle.iss_field.specs.Plain.{is_plain_byte}

-- the byte is of ASCII, and JSON doesn't escape it
abbrev pub is_plain_ascii : ℕ → Bool
is_plain_ascii b = is_plain_byte b && nat_lt b 128

-- how JSON spells a flag
abbrev pub flag_text : Bool → List ℕ
flag_text b = token_text (token.boolean b)

-- the value is a text, a number or a flag
abbrev pub IsPlainValue : Json → Type 0
IsPlainValue null = ⊥
IsPlainValue (boolean b) = ⊤
IsPlainValue (number s) = IsNumber s
IsPlainValue (string s) = ⊤
IsPlainValue (array js) = ⊥
IsPlainValue (object ms) = ⊥

-- how JSON spells such a value
abbrev pub plain_text : Json → List ℕ
plain_text null = []
plain_text (boolean b) = flag_text b
plain_text (number s) = s
plain_text (string s) = quoted s
plain_text (array js) = []
plain_text (object ms) = []

-- each member's value is such a one
abbrev pub ArePlain : Members → Type 0
ArePlain no_members = ⊤
ArePlain (member name value ms) = IsPlainValue value × ArePlain ms

-- the byte before a member: a brace before the first, and a comma before the others
abbrev pub opener : Bool → ℕ
opener first = cond first 123 44

-- a member after the byte before it, and what follows it
abbrev pub member_text : ℕ → List ℕ → Json → List ℕ → List ℕ
member_text first name value rest = first ∷ (quoted name ++ (58 ∷ (plain_text value ++ rest)))

-- these members, each after the byte before it
abbrev pub spelled : Bool → Members → List ℕ
spelled first no_members = []
spelled first (member name value ms) = member_text (opener first) name value (spelled false ms)

-- these members, each after a comma, and the brace that closes their object
abbrev pub ended : Members → List ℕ
ended no_members = 125 ∷ []
ended (member name value ms) = member_text 44 name value (ended ms)

-- a text, a flag, or a number that data has
abbrev pub IsReadable : Json → Type 0
IsReadable null = ⊥
IsReadable (boolean b) = ⊤
IsReadable (number s) = IsNumber s × (is_some (number_of s) ≡ true)
IsReadable (string s) = ⊤
IsReadable (array js) = ⊥
IsReadable (object ms) = ⊥

-- each member's value is such a one
abbrev pub AreReadable : Members → Type 0
AreReadable no_members = ⊤
AreReadable (member name value ms) = IsReadable value × AreReadable ms
