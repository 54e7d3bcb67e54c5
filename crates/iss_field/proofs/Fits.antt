-- The numbers of items and of members fit if those of the first and of the rest do.
use Rattle.std.proofs.Common.{◌≡◌, ℕ, ◌^◌, ◌&&◌, ℤ, nat_lt, nat_le, List, Bool, true, false, cond, Float, is_some, Option, Some, None, option_map, option_and_then, refl}
use Rattle.std.specs.Float.{binary64, float_is_finite}
use Rattle.fast_float.specs.Text.{Parts, digits_of, nearest, with_sign}
use Rattle.serde_json.specs.Find.{as_u64}
use Rattle.json.specs.Json as json
use Rattle.json.specs.Json.{Json}
use Rattle.serde_json.specs.Data.{Num, negative, float, Data, number, array, object, Items, item, Members, no_members, put}
use Rattle.serde_json.specs.Read.{is_integer, float_of, number_of, number_from, of_json, of_items, of_members}
use Rattle.iss_field.specs.Seen.{fits, items_fit, members_fit}

under : {A B : Type 0} (f : A → B) (o : Option A) → is_some (option_map f o) ≡ is_some o
under f None = refl
under f (Some x) = refl

pub array_fits : (js : json.Items) → fits (json.array js) ≡ items_fit js
unfolding fits items_fit
array_fits js = under array (of_items js)

pub object_fits : (ms : json.Members) → fits (json.object ms) ≡ members_fit ms
unfolding fits members_fit
object_fits ms = under object (of_members ms no_members)

item_of : (o : Option Data) (r : Option Items) → is_some o ≡ true → is_some (option_and_then (λ d. option_map (item d) r) o) ≡ is_some r
item_of None r fit = absurd (cc)
item_of (Some d) r fit = under (item d) r

pub item_fits : (j : Json) (js : json.Items) → fits j ≡ true → items_fit (json.item j js) ≡ items_fit js
unfolding fits items_fit
item_fits j js fit = item_of (of_json j) (of_items js) fit

no_item : (o : Option Data) (r : Option Items) → is_some o ≡ false → is_some (option_and_then (λ d. option_map (item d) r) o) ≡ false
no_item None r other = refl
no_item (Some d) r other = absurd (cc)

pub item_refused : (j : Json) (js : json.Items) → fits j ≡ false → items_fit (json.item j js) ≡ false
unfolding fits items_fit
item_refused j js other = no_item (of_json j) (of_items js) other

after_one : (o : Option Data) (k : List ℕ) (ms : json.Members) (a b : Members) → ((d : Data) → is_some (of_members ms (put k d a)) ≡ is_some (of_members ms (put k d b)))
    → is_some (option_and_then (λ d. of_members ms (put k d a)) o) ≡ is_some (option_and_then (λ d. of_members ms (put k d b)) o)
after_one None k ms a b same = refl
after_one (Some d) k ms a b same = same d

-- what was found before plays no part
after : (ms : json.Members) (a b : Members) → is_some (of_members ms a) ≡ is_some (of_members ms b)
after json.no_members a b = refl
after (json.member k j ms) a b = after_one (of_json j) k ms a b (λ d. after ms (put k d a) (put k d b))

member_of : (o : Option Data) (k : List ℕ) (ms : json.Members) → is_some o ≡ true
    → is_some (option_and_then (λ d. of_members ms (put k d no_members)) o) ≡ is_some (of_members ms no_members)
member_of None k ms fit = absurd (cc)
member_of (Some d) k ms fit = after ms (put k d no_members) no_members

pub member_fits : (k : List ℕ) (j : Json) (ms : json.Members) → fits j ≡ true → members_fit (json.member k j ms) ≡ members_fit ms
unfolding fits members_fit
member_fits k j ms fit = member_of (of_json j) k ms fit

no_member : (o : Option Data) (k : List ℕ) (ms : json.Members) → is_some o ≡ false → is_some (option_and_then (λ d. of_members ms (put k d no_members)) o) ≡ false
no_member None k ms other = refl
no_member (Some d) k ms other = absurd (cc)

pub member_refused : (k : List ℕ) (j : Json) (ms : json.Members) → fits j ≡ false → members_fit (json.member k j ms) ≡ false
unfolding fits members_fit
member_refused k j ms other = no_member (of_json j) k ms other

pub number_fits : (s : List ℕ) → fits (json.number s) ≡ is_some (number_of s)
unfolding fits
number_fits s = under number (number_of s)

pub no_items_fit : items_fit json.no_items ≡ true
unfolding items_fit
no_items_fit = refl

pub no_members_fit : members_fit json.no_members ≡ true
unfolding members_fit
no_members_fit = refl

-- a negative number is no whole one
kept_float : (b : Bool) (x : Float) → None ≡ option_and_then as_u64 (cond b (Some (float x)) None)
kept_float true x = refl
kept_float false x = refl

below_or_float : (b : Bool) (n : Option Num) (m : ℤ) → None ≡ option_and_then as_u64 n → None ≡ option_and_then as_u64 (cond b (Some (negative m)) n)
below_or_float true n m other = refl
below_or_float false n m other = other

pub no_negative_whole : (p : Parts) → None ≡ option_and_then as_u64 (number_from true p)
no_negative_whole p =
    let x = nearest binary64 true p in
    below_or_float (is_integer p && nat_lt 0 (digits_of p) && nat_le (digits_of p) (2 ^ 63)) (float_of true p) (with_sign true (digits_of p)) (kept_float (float_is_finite x) x)
