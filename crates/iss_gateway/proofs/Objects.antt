-- A text of members in braces is read as the object of these members.
use Rattle.std.proofs.Common.{◌≡◌, ℕ, suc, max, ◌^◌, ◌<◌, ◌≤◌, Bool, true, false, cond, List, [], ◌∷◌, ◌++◌, map, refl, sym, ap, ap₂, ◌∙◌, append_assoc, subst, arith, decimal}
use Rattle.std.specs.Prelude.{Some, None, option_and_then, option_map, codes}
use Rattle.std.specs.List.{join_with_byte}
use Rattle.std.proofs.lemmas.List.{append-nil}
use Rattle.json.specs.Json as json
use Rattle.json.specs.Print.{print, print_from}
use Rattle.json.specs.Token.{Token}
use Rattle.json.specs.Tree.{HasNumbers, MembersHaveNumbers, depth, json_tokens, members_depth, members_tokens}
use Rattle.json.proofs.Printed.Decimals.{IsNumber-decimal}
use Rattle.json.proofs.Printed.Tokens.{tokens-print}
use Rattle.json.proofs.Printed.Trees.{ArePrintable-json_tokens, value-json_tokens}
use Rattle.json.specs.Lex.{tokens}
use Rattle.serde_json.specs.Data.{Data, Members, no_members, boolean, number, object, put, string, unsigned}
use Rattle.serde_json.specs.Read.{of_json, of_members, read}
use Rattle.serde_json.proofs.Numbers.{number_of-decimal}
use Rattle.iss_model.specs.texts.Wordings.{Member, Value, counted, in_quotes, member_text, object_text, value_text, worded, affirmed}
use Rattle.iss_jit.specs.Outcomes.{json_of}
use Rattle.iss_gateway.proofs.Plain.{AreBare, AreAscii, bare_quoted, bare_ascii, ascii_more, ascii_utf8, decimal_bare, all_bare}

abbrev pub value_json : Value → json.Json
value_json (worded text) = json.string text
value_json (counted n) = json.number (decimal n)
value_json affirmed = json.boolean true

abbrev pub members_json : List Member → json.Members
members_json [] = json.no_members
members_json (m ∷ ms) = json.member m.name (value_json m.value) (members_json ms)

-- a value is written as it is: a text of which nothing is escaped, a number that fits 64 bits, or true
abbrev pub IsAsIs : Value → Type 0
IsAsIs (worded text) = AreBare text
IsAsIs (counted n) = n < 2 ^ 64
IsAsIs affirmed = Unit {0}

-- each member is so
abbrev pub AreAsIs : List Member → Type 0
AreAsIs [] = Unit {0}
AreAsIs (m ∷ ms) = AreBare m.name × (IsAsIs m.value × AreAsIs ms)

-- ---- the text of tokens

value_printed : (v : Value) (us : List Token) → IsAsIs v → print_from false (json_tokens (value_json v) ++ us) ≡ value_text v ++ print_from true us
unfolding print_from
value_printed (worded text) us h = ap (λ (s : List ℕ). s ++ print_from true us) (bare_quoted text h)
value_printed (counted n) us h = refl
value_printed affirmed us h = refl

-- what follows a member
abbrev tail_text : List Member → List ℕ
tail_text [] = 125 ∷ []
tail_text (m ∷ ms) = 44 ∷ member_text m ++ tail_text ms

member_first : (name value rest : List ℕ) → (in_quotes name ++ 58 ∷ []) ++ (value ++ rest) ≡ (in_quotes name ++ 58 ∷ value) ++ rest
member_first name value rest = append_assoc (in_quotes name) (58 ∷ []) (value ++ rest) ∙ sym (append_assoc (in_quotes name) (58 ∷ value) rest)

tail_printed : (ms : List Member) → AreAsIs ms → print_from true (members_tokens (members_json ms)) ≡ tail_text ms
unfolding print_from
tail_printed [] h = refl
tail_printed (m ∷ ms) h =
    ap₂ (λ (a b : List ℕ). 44 ∷ (a ++ 58 ∷ []) ++ b) (bare_quoted m.name h.0)
    (value_printed m.value (members_tokens (members_json ms)) h.1.0 ∙ ap (λ (s : List ℕ). value_text m.value ++ s) (tail_printed ms h.1.1))
    ∙ ap (λ (s : List ℕ). 44 ∷ s) (member_first m.name (value_text m.value) (tail_text ms))

joined : (m : Member) (ms : List Member) → join_with_byte 44 (map member_text (m ∷ ms)) ++ 125 ∷ [] ≡ member_text m ++ tail_text ms
joined m [] = refl
joined m (n ∷ ns) = append_assoc (member_text m) (44 ∷ join_with_byte 44 (map member_text (n ∷ ns))) (125 ∷ []) ∙ ap (λ (s : List ℕ). member_text m ++ 44 ∷ s) (joined n ns)

object_printed : (ms : List Member) → AreAsIs ms → print (json_tokens (json.object (members_json ms))) ≡ object_text ms
unfolding print_from
object_printed [] h = refl
object_printed (m ∷ ms) h =
    ap₂ (λ (a b : List ℕ). 123 ∷ (a ++ 58 ∷ []) ++ b) (bare_quoted m.name h.0)
    (value_printed m.value (members_tokens (members_json ms)) h.1.0 ∙ ap (λ (s : List ℕ). value_text m.value ++ s) (tail_printed ms h.1.1))
    ∙ ap (λ (s : List ℕ). 123 ∷ s) (member_first m.name (value_text m.value) (tail_text ms) ∙ sym (joined m ms))

-- ---- the value of members

abbrev pub value_data : Value → Data
value_data (worded text) = string text
value_data (counted n) = number (unsigned n)
value_data affirmed = boolean true

-- members put in one after the other
abbrev pub data_with : List Member → Members → Members
data_with [] found = found
data_with (m ∷ ms) found = data_with ms (put m.name (value_data m.value) found)

value_read : (v : Value) → IsAsIs v → of_json (value_json v) ≡ Some (value_data v)
value_read (worded text) h = refl
value_read (counted n) h = ap (option_map number) (number_of-decimal n h)
value_read affirmed h = refl

members_read : (ms : List Member) (found : Members) → AreAsIs ms → of_members (members_json ms) found ≡ Some (data_with ms found)
members_read [] found h = refl
members_read (m ∷ ms) found h =
    ap (option_and_then (λ (d : Data). of_members (members_json ms) (put m.name d found))) (value_read m.value h.1.0)
    ∙ members_read ms (put m.name (value_data m.value) found) h.1.1

value_has : (v : Value) → IsAsIs v → HasNumbers (value_json v)
value_has (worded text) h = tt
value_has (counted n) h = IsNumber-decimal n h
value_has affirmed h = tt

have_numbers : (ms : List Member) → AreAsIs ms → MembersHaveNumbers (members_json ms)
have_numbers [] h = tt
have_numbers (m ∷ ms) h = (value_has m.value h.1.0, have_numbers ms h.1.1)

value_flat : (v : Value) → depth (value_json v) ≡ 0
value_flat (worded text) = refl
value_flat (counted n) = refl
value_flat affirmed = refl

flat : (ms : List Member) → members_depth (members_json ms) ≡ 0
flat [] = refl
flat (m ∷ ms) = ap₂ (λ (a b : ℕ). max a b) (value_flat m.value) (flat ms)

-- a text of these tokens is read as the object
pub read_by_tokens : (text : List ℕ) (ms : List Member) → AreAsIs ms → tokens text ≡ json_tokens (json.object (members_json ms)) ++ []
    → read text ≡ Some (object (data_with ms no_members))
read_by_tokens text ms h lexed =
    let j : json.Json = json.object (members_json ms) in
    ap (option_and_then of_json)
    (ap (λ (ts : List Token). option_and_then (λ p. json.if_last p.0 p.1) (json.value 127 ts)) lexed
    ∙ ap (option_and_then (λ p. json.if_last p.0 p.1)) (value-json_tokens j 127 [] (shallow (members_depth (members_json ms)) (flat ms))))
    ∙ ap (option_map object) (members_read ms no_members h)
  where
    shallow : (n : ℕ) → n ≡ 0 → suc n ≤ 127
    shallow n e = omega (arith, e)

object_read : (ms : List Member) → AreAsIs ms → read (object_text ms) ≡ Some (object (data_with ms no_members))
object_read ms h =
    let j : json.Json = json.object (members_json ms) in
    read_by_tokens (object_text ms) ms h
    (ap tokens (sym (object_printed ms h)) ∙ tokens-print (json_tokens j) (ArePrintable-json_tokens j (have_numbers ms h)) ∙ sym (append-nil (json_tokens j)))

-- ---- the text is ASCII

value_ascii : (v : Value) → IsAsIs v → AreAscii (value_text v)
value_ascii (worded text) h = (omega arith, ascii_more text (34 ∷ []) (bare_ascii text h) (omega arith, tt))
value_ascii (counted n) h = bare_ascii (decimal n) (decimal_bare n h)
value_ascii affirmed h = bare_ascii (codes "true") (all_bare (codes "true") refl)

member_ascii : (m : Member) → AreBare m.name → IsAsIs m.value → AreAscii (member_text m)
member_ascii m h k =
    ascii_more (in_quotes m.name) (58 ∷ value_text m.value) (omega arith, ascii_more m.name (34 ∷ []) (bare_ascii m.name h) (omega arith, tt)) (omega arith, value_ascii m.value k)

tail_ascii : (ms : List Member) → AreAsIs ms → AreAscii (tail_text ms)
tail_ascii [] h = (omega arith, tt)
tail_ascii (m ∷ ms) h = (omega arith, ascii_more (member_text m) (tail_text ms) (member_ascii m h.0 h.1.0) (tail_ascii ms h.1.1))

object_ascii : (ms : List Member) → AreAsIs ms → AreAscii (object_text ms)
object_ascii [] h = (omega arith, (omega arith, tt))
object_ascii (m ∷ ms) h =
    (omega arith, subst AreAscii (sym (joined m ms)) (ascii_more (member_text m) (tail_text ms) (member_ascii m h.0 h.1.0) (tail_ascii ms h.1.1)))

pub object_json : (ms : List Member) → AreAsIs ms → json_of (object_text ms) ≡ Some (object (data_with ms no_members))
unfolding json_of
object_json ms h =
    ap (λ (b : Bool). cond b (read (object_text ms)) None) (ascii_utf8 (object_text ms) (object_ascii ms h)) ∙ object_read ms h
