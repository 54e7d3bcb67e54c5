-- Members that are read in the order in which they stand are those of the object that the text is.
use Rattle.std.proofs.Common.{◌≡◌, ℕ, Bool, true, false, cond, List, ◌∷◌, ◌++◌, is_some, Option, Some, None, option_map, option_and_then, refl, sym, ap, ◌∙◌, arith}
use Rattle.std.specs.Str.{IsAscii}
use Rattle.std.proofs.lemmas.Str.{IsUtf8-from_ascii}
use Rattle.json.specs.Find as find
use Rattle.json.specs.Json.{Json, null, boolean, number, string, array, object, Members, no_members, member}
use Rattle.json.specs.Print.{quoted, print, print_from}
use Rattle.json.specs.Tree.{json_tokens, members_tokens}
use Rattle.serde_json.specs.Data as plain
use Rattle.serde_json.specs.Data.{Data}
use Rattle.serde_json.specs.Find.{as_null, as_number, as_u64}
use Rattle.serde_json.specs.Read.{number_of, of_json}
use Rattle.iss_field.specs.declared.name.Name.{Name}
use Rattle.iss_field.specs.Names.{name_text}
use Rattle.iss_field.specs.Fields.{unless_null, field}
use Rattle.iss_field.specs.Objects.{if_object, object_of}
use Rattle.iss_field.specs.PlainObjects.{IsPlainValue, plain_text, ArePlain, member_text, ended, IsReadable, AreReadable}
use Rattle.iss_field.specs.Seen.{data_of, fits, members_fit, is_fit_object, json_text}
use Rattle.iss_field.proofs.Fits.{object_fits, member_fits, no_members_fit, number_fits}
use Rattle.iss_field.proofs.ObjectLemmas.{of_text}
use Rattle.iss_field.proofs.PlainRead.{value_printed, colon_apart, read_back, have_numbers, members_flat}
use Rattle.iss_field.proofs.Views.{get_seen, null_seen, object_taken, whole_seen}

readable_plain : (j : Json) → IsReadable j → IsPlainValue j
readable_plain null h = absurd h
readable_plain (boolean b) h = tt
readable_plain (number s) h = h.0
readable_plain (string s) h = tt
readable_plain (array js) h = absurd h
readable_plain (object ms) h = absurd h

readable_fits : (j : Json) → IsReadable j → fits j ≡ true
unfolding fits
readable_fits null h = absurd h
readable_fits (boolean b) h = refl
readable_fits (number s) h = number_fits s ∙ h.1
readable_fits (string s) h = refl
readable_fits (array js) h = absurd h
readable_fits (object ms) h = absurd h

all_plain : (ms : Members) → AreReadable ms → ArePlain ms
all_plain no_members h = tt
all_plain (member k j ms) h = (readable_plain j h.0, all_plain ms h.1)

all_fit : (ms : Members) → AreReadable ms → members_fit ms ≡ true
all_fit no_members h = no_members_fit
all_fit (member k j ms) h = member_fits k j ms (readable_fits j h.0) ∙ all_fit ms h.1

pub readable_object_fits : (ms : Members) → AreReadable ms → fits (object ms) ≡ true
readable_object_fits ms h = object_fits ms ∙ all_fit ms h

ended_printed : (ms : Members) → ArePlain ms → print_from true (members_tokens ms) ≡ ended ms
unfolding print_from
ended_printed no_members h = refl
ended_printed (member k j ms) h =
    ap (λ l. 44 ∷ l) (colon_apart k (print_from false (json_tokens j ++ members_tokens ms))
    ∙ ap (λ l. quoted k ++ (58 ∷ l)) (value_printed j (members_tokens ms) h.0 ∙ ap (λ l. plain_text j ++ l) (ended_printed ms h.1)))

object_printed : (k : List ℕ) (j : Json) (ms : Members) → ArePlain (member k j ms) → print (json_tokens (object (member k j ms))) ≡ member_text 123 k j (ended ms)
unfolding print_from
object_printed k j ms h =
    ap (λ l. 123 ∷ l) (colon_apart k (print_from false (json_tokens j ++ members_tokens ms))
    ∙ ap (λ l. quoted k ++ (58 ∷ l)) (value_printed j (members_tokens ms) h.0 ∙ ap (λ l. plain_text j ++ l) (ended_printed ms h.1)))

text_read : (text k : List ℕ) (j : Json) (ms : Members) → AreReadable (member k j ms) → text ≡ member_text 123 k j (ended ms) → json_text text ≡ Some (object (member k j ms))
text_read text k j ms h is =
    let all = member k j ms in
    let simple = all_plain all h in
    ap json_text (is ∙ sym (object_printed k j ms simple)) ∙ read_back (object all) (have_numbers all simple) (omega (arith, members_flat all simple))

fit_object : (ms : Members) → AreReadable ms → is_fit_object (object ms) ≡ true
unfolding is_fit_object
fit_object ms h = readable_object_fits ms h

-- a text of ASCII that is spelled so is the object of these members
pub object_read : (text k : List ℕ) (j : Json) (ms : Members) → IsAscii text → AreReadable (member k j ms) → text ≡ member_text 123 k j (ended ms) → object_of text ≡ Some (data_of (object (member k j ms)))
object_read text k j ms ascii h is =
    sym (of_text text (IsUtf8-from_ascii text ascii)) ∙ ap (λ o. option_and_then if_object (option_and_then of_json o)) (text_read text k j ms h is)
    ∙ sym (object_taken (object (member k j ms)) (fit_object (member k j ms) h))

not_null : (b : Bool) (v : Json) → is_some (as_null (data_of v)) ≡ b → b ≡ false → unless_null (data_of v) ≡ Some (data_of v)
not_null true v e is = absurd (cc)
not_null false v e is = ap (λ b. cond b None (Some (data_of v))) e

-- a member that isn't null is its field
pub found_field : (name : Name) (j v : Json) → fits j ≡ true → find.get (name_text name) j ≡ Some v → find.is_null v ≡ false → field name (data_of j) ≡ Some (data_of v)
unfolding field
found_field name j v fit is other =
    ap (option_and_then unless_null) (sym (get_seen j (name_text name) fit) ∙ ap (option_map data_of) is) ∙ not_null (find.is_null v) v (sym (null_seen v)) other

-- a member that isn't there is no field
pub absent_field : (name : Name) (j : Json) → fits j ≡ true → find.get (name_text name) j ≡ None → field name (data_of j) ≡ None
unfolding field
absent_field name j fit is = ap (option_and_then unless_null) (sym (get_seen j (name_text name) fit) ∙ ap (option_map data_of) is)

pub text_data : (s : List ℕ) → data_of (string s) ≡ plain.string s
unfolding data_of
text_data s = refl

pub flag_data : (b : Bool) → data_of (boolean b) ≡ plain.boolean b
unfolding data_of
flag_data b = refl

pub number_data : (s : List ℕ) → option_and_then as_u64 (number_of s) ≡ option_and_then as_u64 (as_number (data_of (number s)))
number_data s = whole_seen (number s)

some_number : (o : Option plain.Num) (v : ℕ) → option_and_then as_u64 o ≡ Some v → is_some o ≡ true
some_number None v e = absurd (cc)
some_number (Some n) v e = refl

-- a whole number is one that data has
pub whole_number_fits : (s : List ℕ) (v : ℕ) → option_and_then as_u64 (number_of s) ≡ Some v → is_some (number_of s) ≡ true
whole_number_fits s v e = some_number (number_of s) v e
