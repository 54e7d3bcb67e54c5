-- What fields ask of a value of JSON and of the data that it stands for is the same.
use Rattle.std.proofs.Common.{◌≡◌, ℕ, List, Bool, true, false, cond, is_some, bytes_eq, Option, Some, None, option_map, option_and_then, refl, sym, ap, ◌∙◌}
use Rattle.std.proofs.lemmas.Slice.Eq.{bytes_eq-Decides}
use Rattle.json.specs.Json as json
use Rattle.json.specs.Json.{Json}
use Rattle.json.specs.Find as find
use Rattle.json.specs.Value.{value_view}
use Rattle.json.specs.declared.value.Value.{Value}
use Rattle.std.specs.Borrow.{Bor}
use Rattle.serde_json.specs.Data.{Num, Data, number, array, object, Items, Members, no_members, put}
use Rattle.serde_json.specs.Find.{get, get_member, as_null, as_str, as_bool, as_number, as_u64}
use Rattle.serde_json.specs.Read.{number_of, of_json, of_items, of_members}
use Rattle.serde_json.proofs.Views.{get_member-put, get_member-put_other}
use Rattle.iss_field.specs.Objects.{if_object}
use Rattle.iss_field.specs.Seen.{if_fit, data_of, seen, fits, is_fit_object}

-- ---- what a value is

null_number : (o : Option Num) → false ≡ is_some (as_null (if_fit (option_map number o)))
null_number None = refl
null_number (Some n) = refl

null_array : (o : Option Items) → false ≡ is_some (as_null (if_fit (option_map array o)))
null_array None = refl
null_array (Some ds) = refl

null_object : (o : Option Members) → false ≡ is_some (as_null (if_fit (option_map object o)))
null_object None = refl
null_object (Some ds) = refl

pub null_seen : (j : Json) → find.is_null j ≡ is_some (as_null (data_of j))
unfolding data_of
null_seen json.null = refl
null_seen (json.boolean b) = refl
null_seen (json.number s) = null_number (number_of s)
null_seen (json.string s) = refl
null_seen (json.array js) = null_array (of_items js)
null_seen (json.object ms) = null_object (of_members ms no_members)

text_number : (o : Option Num) → None ≡ as_str (if_fit (option_map number o))
text_number None = refl
text_number (Some n) = refl

text_array : (o : Option Items) → None ≡ as_str (if_fit (option_map array o))
text_array None = refl
text_array (Some ds) = refl

text_object : (o : Option Members) → None ≡ as_str (if_fit (option_map object o))
text_object None = refl
text_object (Some ds) = refl

pub text_seen : (j : Json) → find.as_str j ≡ as_str (data_of j)
unfolding data_of
text_seen json.null = refl
text_seen (json.boolean b) = refl
text_seen (json.number s) = text_number (number_of s)
text_seen (json.string s) = refl
text_seen (json.array js) = text_array (of_items js)
text_seen (json.object ms) = text_object (of_members ms no_members)

flag_number : (o : Option Num) → None ≡ as_bool (if_fit (option_map number o))
flag_number None = refl
flag_number (Some n) = refl

flag_array : (o : Option Items) → None ≡ as_bool (if_fit (option_map array o))
flag_array None = refl
flag_array (Some ds) = refl

flag_object : (o : Option Members) → None ≡ as_bool (if_fit (option_map object o))
flag_object None = refl
flag_object (Some ds) = refl

pub flag_seen : (j : Json) → find.as_bool j ≡ as_bool (data_of j)
unfolding data_of
flag_seen json.null = refl
flag_seen (json.boolean b) = refl
flag_seen (json.number s) = flag_number (number_of s)
flag_seen (json.string s) = refl
flag_seen (json.array js) = flag_array (of_items js)
flag_seen (json.object ms) = flag_object (of_members ms no_members)

abbrev whole : Data → Option ℕ
whole d = option_and_then as_u64 (as_number d)

whole_number : (o : Option Num) → option_and_then as_u64 o ≡ whole (if_fit (option_map number o))
whole_number None = refl
whole_number (Some n) = refl

whole_array : (o : Option Items) → None ≡ whole (if_fit (option_map array o))
whole_array None = refl
whole_array (Some ds) = refl

whole_object : (o : Option Members) → None ≡ whole (if_fit (option_map object o))
whole_object None = refl
whole_object (Some ds) = refl

pub whole_seen : (j : Json) → option_and_then (λ s. option_and_then as_u64 (number_of s)) (find.as_number j) ≡ option_and_then as_u64 (as_number (data_of j))
unfolding data_of
whole_seen json.null = refl
whole_seen (json.boolean b) = refl
whole_seen (json.number s) = whole_number (number_of s)
whole_seen (json.string s) = refl
whole_seen (json.array js) = whole_array (of_items js)
whole_seen (json.object ms) = whole_object (of_members ms no_members)

-- ---- members

abbrev or : Option Data → Option Data → Option Data
or None earlier = earlier
or (Some d) earlier = Some d

put_at : (b : Bool) (name k : List ℕ) (j : Json) (d : Data) (found : Members) → bytes_eq k name ≡ b → data_of j ≡ d
    → get_member name (put k d found) ≡ or (option_map data_of (cond b (Some j) None)) (get_member name found)
put_at true name k j d found same is =
    let here : k ≡ name = (bytes_eq-Decides k name).0 same in
    ap (λ (n : List ℕ). get_member n (put k d found)) (sym here) ∙ get_member-put k d found ∙ ap (λ (e : Data). Some e) (sym is)
put_at false name k j d found other is = get_member-put_other name k d found (λ e. let same = (bytes_eq-Decides k name).1 (sym e) in cc)

later : (r : Option Json) (name k : List ℕ) (j : Json) (d : Data) (found : Members) → data_of j ≡ d
    → or (option_map data_of r) (get_member name (put k d found)) ≡ or (option_map data_of (find.later_or r (cond (bytes_eq k name) (Some j) None))) (get_member name found)
later (Some x) name k j d found is = refl
later None name k j d found is = put_at (bytes_eq k name) name k j d found refl is

pub of_some : (j : Json) (d : Data) → of_json j ≡ Some d → data_of j ≡ d
unfolding data_of
of_some j d is = ap if_fit is

member_seen : (o : Option Data) (k : List ℕ) (j : Json) (ms : json.Members) (name : List ℕ) (found ds : Members) → of_json j ≡ o
    → ((d : Data) → of_members ms (put k d found) ≡ Some ds → get_member name ds ≡ or (option_map data_of (find.get_member name ms)) (get_member name (put k d found)))
    → option_and_then (λ d. of_members ms (put k d found)) o ≡ Some ds
    → get_member name ds ≡ or (option_map data_of (find.get_member name (json.member k j ms))) (get_member name found)
member_seen None k j ms name found ds of more is = absurd (cc)
member_seen (Some d) k j ms name found ds of more is = more d is ∙ later (find.get_member name ms) name k j d found (of_some j d of)

members_seen : (ms : json.Members) (name : List ℕ) (found ds : Members) → of_members ms found ≡ Some ds
    → get_member name ds ≡ or (option_map data_of (find.get_member name ms)) (get_member name found)
members_seen json.no_members name found ds is = let same : found ≡ ds = cc in ap (get_member name) (sym same)
members_seen (json.member k j ms) name found ds is =
    member_seen (of_json j) k j ms name found ds refl (λ d. members_seen ms name (put k d found) ds) is

object_seen : (o : Option Members) (ms : json.Members) (name : List ℕ) → of_members ms no_members ≡ o → is_some (option_map object o) ≡ true
    → option_map data_of (find.get_member name ms) ≡ get name (if_fit (option_map object o))
object_seen None ms name of fit = absurd (cc)
object_seen (Some ds) ms name of fit = sym (members_seen ms name no_members ds of ∙ last (option_map data_of (find.get_member name ms)))
  where
    last : (r : Option Data) → or r None ≡ r
    last None = refl
    last (Some d) = refl

get_number : (o : Option Num) (name : List ℕ) → None ≡ get name (if_fit (option_map number o))
get_number None name = refl
get_number (Some n) name = refl

get_array : (o : Option Items) (name : List ℕ) → None ≡ get name (if_fit (option_map array o))
get_array None name = refl
get_array (Some ds) name = refl

pub get_seen : (j : Json) (name : List ℕ) → fits j ≡ true → option_map data_of (find.get name j) ≡ get name (data_of j)
unfolding data_of fits
get_seen json.null name fit = refl
get_seen (json.boolean b) name fit = refl
get_seen (json.number s) name fit = get_number (number_of s) name
get_seen (json.string s) name fit = refl
get_seen (json.array js) name fit = get_array (of_items js) name
get_seen (json.object ms) name fit = object_seen (of_members ms no_members) ms name refl fit

-- the member that was found
pub found_seen : {A : Type 0} (r : Option (Bor (Value A))) (name : List ℕ) (j : Json) → option_map (λ v. value_view v.now) r ≡ find.get name j → fits j ≡ true
    → option_map (λ v. seen v.now) r ≡ get name (data_of j)
found_seen r name j is fit = by_view r ∙ ap (option_map data_of) is ∙ get_seen j name fit
  where
    by_view : {A : Type 0} (r : Option (Bor (Value A))) → option_map (λ v. seen v.now) r ≡ option_map data_of (option_map (λ v. value_view v.now) r)
    by_view None = refl
    by_view (Some v) = refl

-- ---- objects

of_object : (o : Option Members) → is_some (option_map object o) ≡ true → Some (if_fit (option_map object o)) ≡ option_and_then if_object (option_map object o)
of_object None fit = absurd (cc)
of_object (Some ds) fit = refl

pub object_taken : (j : Json) → is_fit_object j ≡ true → Some (data_of j) ≡ option_and_then if_object (of_json j)
unfolding data_of fits is_fit_object
object_taken json.null fit = absurd (cc)
object_taken (json.boolean b) fit = absurd (cc)
object_taken (json.number s) fit = absurd (cc)
object_taken (json.string s) fit = absurd (cc)
object_taken (json.array js) fit = absurd (cc)
object_taken (json.object ms) fit = of_object (of_members ms no_members) fit

pub object_fits : (j : Json) → is_fit_object j ≡ true → fits j ≡ true
unfolding fits is_fit_object
object_fits json.null fit = absurd (cc)
object_fits (json.boolean b) fit = absurd (cc)
object_fits (json.number s) fit = absurd (cc)
object_fits (json.string s) fit = absurd (cc)
object_fits (json.array js) fit = absurd (cc)
object_fits (json.object ms) fit = fit

no_object : (o : Option Members) → is_some (option_map object o) ≡ false → None ≡ option_and_then if_object (option_map object o)
no_object None other = refl
no_object (Some ds) other = absurd (cc)

no_number : (o : Option Num) → None ≡ option_and_then if_object (option_map number o)
no_number None = refl
no_number (Some n) = refl

no_array : (o : Option Items) → None ≡ option_and_then if_object (option_map array o)
no_array None = refl
no_array (Some ds) = refl

pub object_refused : (j : Json) → is_fit_object j ≡ false → None ≡ option_and_then if_object (of_json j)
unfolding fits is_fit_object
object_refused json.null other = refl
object_refused (json.boolean b) other = refl
object_refused (json.number s) other = no_number (number_of s)
object_refused (json.string s) other = refl
object_refused (json.array js) other = no_array (of_items js)
object_refused (json.object ms) other = no_object (of_members ms no_members) other
