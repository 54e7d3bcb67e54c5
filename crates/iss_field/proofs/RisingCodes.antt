-- The codes of an array: its items are seen one by one, and its codes rise.
use Rattle.std.proofs.Common.{Less, Equal, Greater, ◌≡◌, ℕ, suc, ◌+◌, ◌≤◌, ◌==◌, ◌&&◌, nat_lt, nat_le, Bool, true, false, List, [], ◌∷◌, length, Option, Some, None, IfSome, option_map, option_and_then, cond, refl, sym, ap, ◌∙◌, arith}
use Rattle.std.proofs.lemmas.Bool.Decides.{nat_tests}
use Rattle.std.specs.Ordering.{nat_cmp, match_ordering}
use Rattle.std.specs.BTreeSet.{insert_key}
use Rattle.json.specs.declared.value.Value.{Value}
use Rattle.json.specs.Json as json
use Rattle.json.specs.Json.{Json}
use Rattle.serde_json.specs.Data.{Num, Data, number, array, object, Items, no_items, item, Members, no_members}
use Rattle.json.specs.Find as find
use Rattle.serde_json.specs.Find.{as_array}
use Rattle.serde_json.specs.Read.{of_json, of_items, of_members, number_of}
use Rattle.iss_model.specs.declared.limits.TheConstants.{MOST_MCCS}
use Rattle.iss_model.specs.Forms.{is_mcc, are_rising, are_mccs}
use Rattle.iss_field.specs.Seen.{if_fit, data_of, data_items, seen_items}
use Rattle.iss_field.specs.Values.{mcc_of, item_count, codes_with, mccs_of_items, mccs_of}
use Rattle.iss_field.proofs.Views.{of_some}
use Rattle.iss_field.proofs.ValuesInForm.{mcc_of-meets}

-- ---- an array as it is seen

-- an item that fits is seen by itself
fit_item : (o : Option Data) (r : Option Items) (j : Json) (js : json.Items) (ds : Items) → of_json j ≡ o → of_items js ≡ r
    → option_and_then (λ d. option_map (item d) r) o ≡ Some ds → ((e : Items) → of_items js ≡ Some e → data_items js ≡ e) → item (data_of j) (data_items js) ≡ ds
fit_item None r j js ds one others is more = absurd (cc)
fit_item (Some d) None j js ds one others is more = absurd (cc)
fit_item (Some d) (Some e) j js ds one others is more =
    let same : item d e ≡ ds = cc in
    ap (λ (x : Data). item x (data_items js)) (of_some j d one) ∙ ap (item d) (more e others) ∙ same

-- all items that fit are seen by themselves
fit_items : (js : json.Items) (ds : Items) → of_items js ≡ Some ds → data_items js ≡ ds
fit_items json.no_items ds is = let same : no_items ≡ ds = cc in same
fit_items (json.item j js) ds is = fit_item (of_json j) (of_items js) j js ds refl refl is (λ e. fit_items js e)

then_none : {A B : Type 0} (o : Option A) (f : A → Option B) → ((x : A) → f x ≡ None) → option_and_then f o ≡ None
then_none None f h = refl
then_none (Some x) f h = h x

-- what doesn't fit isn't a code
no_code : (j : Json) → of_json j ≡ None → mcc_of (data_of j) ≡ None
unfolding mcc_of data_of
no_code j none = ap (λ (o : Option Data). mcc_of (if_fit o)) none

none_item : (o : Option Data) (r : Option Items) (j : Json) (js : json.Items) (codes : List ℕ) → of_json j ≡ o → of_items js ≡ r
    → option_and_then (λ d. option_map (item d) r) o ≡ None → ((more : List ℕ) → of_items js ≡ None → codes_with more (data_items js) ≡ None)
    → codes_with codes (item (data_of j) (data_items js)) ≡ None
none_item None r j js codes one others is more =
    ap (λ (o : Option ℕ). option_and_then (λ code. codes_with (insert_key nat_cmp codes code) (data_items js)) o) (no_code j one)
none_item (Some d) None j js codes one others is more =
    then_none (mcc_of (data_of j)) (λ code. codes_with (insert_key nat_cmp codes code) (data_items js)) (λ code. more (insert_key nat_cmp codes code) others)
none_item (Some d) (Some e) j js codes one others is more = absurd (cc)

-- items of which one doesn't fit aren't all codes
none_items : (js : json.Items) (codes : List ℕ) → of_items js ≡ None → codes_with codes (data_items js) ≡ None
none_items json.no_items codes is = absurd (cc)
none_items (json.item j js) codes is = none_item (of_json j) (of_items js) j js codes refl refl is (none_items js)

if_none : (b : Bool) (o : Option (List ℕ)) → o ≡ None → cond b o None ≡ None
if_none true o none = none
if_none false o none = refl

array_as : (js : json.Items) (o : Option Items) → of_items js ≡ o → mccs_of (if_fit (option_map array o)) ≡ mccs_of_items (data_items js)
unfolding mccs_of mccs_of_items
array_as js None is =
    sym (if_none (nat_le 1 (item_count (data_items js)) && nat_le (item_count (data_items js)) MOST_MCCS) (codes_with [] (data_items js)) (none_items js [] is))
array_as js (Some ds) is = ap mccs_of_items (sym (fit_items js ds is))

-- ---- codes in order

three : (a b c : Bool) → a ≡ true → b ≡ true → c ≡ true → (a && b && c) ≡ true
three a b c h g f = rw (h, g, f)

first : (a b : Bool) → (a && b) ≡ true → a ≡ true
first true b h = refl
first false b h = cc

second : (a b : Bool) → (a && b) ≡ true → b ≡ true
second true b h = h
second false b h = cc

at_least : (a b : ℕ) → a ≤ b → nat_le a b ≡ true
at_least a b h = grind (arith, nat_tests)

above : (a b : ℕ) → nat_lt a b ≡ true → a + 1 ≤ b
above a b h = grind (arith, nat_tests)

below : (a b : ℕ) → nat_lt a b ≡ false → (a == b) ≡ false → b + 1 ≤ a
below a b h g = grind (arith, nat_tests)

-- codes rise from a first one on
record Rises (low x : ℕ) (xs : List ℕ) : Type 0 where
  pub least : nat_le low x ≡ true
  pub code : is_mcc x ≡ true
  pub rest : are_rising (x + 1) xs ≡ true

rises : (low x : ℕ) (xs : List ℕ) → are_rising low (x ∷ xs) ≡ true → Rises low x xs
rises low x xs h =
    let start = first (nat_le low x && is_mcc x) (are_rising (x + 1) xs) h in
    record { least = first (nat_le low x) (is_mcc x) start; code = second (nat_le low x) (is_mcc x) start; rest = second (nat_le low x && is_mcc x) (are_rising (x + 1) xs) h }

-- a code at its place among codes that rise
placed : (lt eq : Bool) (low x k : ℕ) (xs : List ℕ) → nat_lt k x ≡ lt → (k == x) ≡ eq → are_rising low (x ∷ xs) ≡ true → low ≤ k → is_mcc k ≡ true
    → (x + 1 ≤ k → are_rising (x + 1) (insert_key nat_cmp xs k) ≡ true)
    → are_rising low (match_ordering (cond lt Less (cond eq Equal Greater)) (k ∷ x ∷ xs) (x ∷ xs) (x ∷ insert_key nat_cmp xs k)) ≡ true
placed true eq low x k xs is other rising least code more =
    let old = rises low x xs rising in
    three (nat_le low k) (is_mcc k) (are_rising (k + 1) (x ∷ xs)) (at_least low k least) code
    (three (nat_le (k + 1) x) (is_mcc x) (are_rising (x + 1) xs) (at_least (k + 1) x (above k x is)) old.code old.rest)
placed false true low x k xs is other rising least code more = rising
placed false false low x k xs is other rising least code more =
    let old = rises low x xs rising in
    three (nat_le low x) (is_mcc x) (are_rising (x + 1) (insert_key nat_cmp xs k)) old.least old.code (more (below k x is other))

-- codes rise with one more at its place
still_rising : (low k : ℕ) (ks : List ℕ) → are_rising low ks ≡ true → low ≤ k → is_mcc k ≡ true → are_rising low (insert_key nat_cmp ks k) ≡ true
still_rising low k [] rising least code = three (nat_le low k) (is_mcc k) true (at_least low k least) code refl
still_rising low k (x ∷ xs) rising least code =
    placed (nat_lt k x) (k == x) low x k xs refl refl rising least code (λ above. still_rising (x + 1) k xs (rises low x xs rising).rest above code)

-- codes with one more are at most one more, not fewer, and not none
record IsOneMore (ks more : List ℕ) : Type 0 where
  pub some : 1 ≤ length more
  pub least : length ks ≤ length more
  pub most : length more ≤ length ks + 1

placed_length : (lt eq : Bool) (x k : ℕ) (xs more : List ℕ) → IsOneMore xs more
    → IsOneMore (x ∷ xs) (match_ordering (cond lt Less (cond eq Equal Greater)) (k ∷ x ∷ xs) (x ∷ xs) (x ∷ more))
placed_length true eq x k xs more h = record { some = omega arith; least = omega arith; most = omega arith }
placed_length false true x k xs more h = record { some = omega arith; least = omega arith; most = omega arith }
placed_length false false x k xs more h = record { some = omega arith; least = omega (arith, h.least); most = omega (arith, h.most) }

one_more : (k : ℕ) (ks : List ℕ) → IsOneMore ks (insert_key nat_cmp ks k)
one_more k [] = record { some = omega arith; least = omega arith; most = omega arith }
one_more k (x ∷ xs) = placed_length (nat_lt k x) (k == x) x k xs (insert_key nat_cmp xs k) (one_more k xs)

-- these codes rise, and there are at least `few` of them and at most `more` more
record AreCodes (few more : ℕ) (codes : List ℕ) : Type 0 where
  pub rise : are_rising 0 codes ≡ true
  pub least : few ≤ length codes
  pub most : length codes ≤ few + more

-- the codes of items with one more before them
then_codes : (o : Option (List ℕ)) (few other more : ℕ) → few ≤ other → other ≤ few + 1 → IfSome o (AreCodes other more) → IfSome o (AreCodes few (suc more))
then_codes None few other more least most h = tt
then_codes (Some codes) few other more least most h =
    record { rise = h.rise; least = omega (arith, h.least); most = omega (arith, h.most) }

code_then : (o : Option ℕ) (codes : List ℕ) (ds : Items) → IfSome o (λ code. is_mcc code ≡ true) → are_rising 0 codes ≡ true
    → ((more : List ℕ) → are_rising 0 more ≡ true → IfSome (codes_with more ds) (AreCodes (length more) (item_count ds)))
    → IfSome (option_and_then (λ code. codes_with (insert_key nat_cmp codes code) ds) o) (AreCodes (length codes) (suc (item_count ds)))
code_then None codes ds form rising more = tt
code_then (Some code) codes ds form rising more =
    let one = one_more code codes in
    then_codes (codes_with (insert_key nat_cmp codes code) ds) (length codes) (length (insert_key nat_cmp codes code)) (item_count ds) one.least one.most
    (more (insert_key nat_cmp codes code) (still_rising 0 code codes rising (omega arith) form))

are_codes : (ds : Items) (codes : List ℕ) → are_rising 0 codes ≡ true → IfSome (codes_with codes ds) (AreCodes (length codes) (item_count ds))
are_codes no_items codes rising = record { rise = rising; least = omega arith; most = omega arith }
are_codes (item d ds) codes rising = code_then (mcc_of d) codes ds (mcc_of-meets d) rising (are_codes ds)

abbrev HasSome : List ℕ → Type 0
HasSome codes = 1 ≤ length codes

grown_then : (o : Option ℕ) (codes : List ℕ) (ds : Items) → ((more : List ℕ) → 1 ≤ length more → IfSome (codes_with more ds) HasSome)
    → IfSome (option_and_then (λ code. codes_with (insert_key nat_cmp codes code) ds) o) HasSome
grown_then None codes ds h = tt
grown_then (Some code) codes ds h = h (insert_key nat_cmp codes code) (one_more code codes).some

grown : (ds : Items) (codes : List ℕ) → 1 ≤ length codes → IfSome (codes_with codes ds) HasSome
grown no_items codes h = h
grown (item d ds) codes h = grown_then (mcc_of d) codes ds (grown ds)

-- there is a code if there is an item
some_codes : (ds : Items) → 1 ≤ item_count ds → IfSome (codes_with [] ds) HasSome
some_codes no_items h = absurd (omega (arith, h))
some_codes (item d ds) h = grown_then (mcc_of d) [] ds (grown ds)

least_of : (a b : ℕ) → nat_le a b ≡ true → a ≤ b
least_of a b h = grind (arith, nat_tests)

within : (b : Bool) (n : ℕ) (o : Option (List ℕ)) → (nat_le 1 n && nat_le n MOST_MCCS) ≡ b → IfSome o (AreCodes 0 n) → (1 ≤ n → IfSome o HasSome)
    → IfSome (cond b o None) (λ codes. are_mccs codes ≡ true)
within false n o is codes some = tt
within true n None is codes some = tt
within true n (Some found) is codes some =
    let least = least_of 1 n (first (nat_le 1 n) (nat_le n MOST_MCCS) is) in
    let most = least_of n MOST_MCCS (second (nat_le 1 n) (nat_le n MOST_MCCS) is) in
    three (nat_le 1 (length found)) (nat_le (length found) MOST_MCCS) (are_rising 0 found)
    (at_least 1 (length found) (some least)) (at_least (length found) MOST_MCCS (omega (arith, codes.most, most))) codes.rise

of_items-meets : (ds : Items) → IfSome (mccs_of_items ds) (λ codes. are_mccs codes ≡ true)
unfolding mccs_of_items
of_items-meets ds =
    within (nat_le 1 (item_count ds) && nat_le (item_count ds) MOST_MCCS) (item_count ds) (codes_with [] ds) refl (are_codes ds [] refl) (some_codes ds)

then_codes_of : (o : Option Items) → IfSome (option_and_then mccs_of_items o) (λ codes. are_mccs codes ≡ true)
then_codes_of None = tt
then_codes_of (Some ds) = of_items-meets ds

-- the codes of a group are of their form
pub mccs_of-meets : (d : Data) → IfSome (mccs_of d) (λ codes. are_mccs codes ≡ true)
unfolding mccs_of
mccs_of-meets d = then_codes_of (as_array d)

-- ---- what the code asks

none_of_number : (o : Option Num) → mccs_of (if_fit (option_map number o)) ≡ None
unfolding mccs_of mccs_of_items
none_of_number None = refl
none_of_number (Some n) = refl

none_of_object : (o : Option Members) → mccs_of (if_fit (option_map object o)) ≡ None
unfolding mccs_of mccs_of_items
none_of_object None = refl
none_of_object (Some ms) = refl

-- the codes of a value are those of its items, if it is an array
pub value_codes : (j : Json) → mccs_of (data_of j) ≡ option_and_then (λ js. mccs_of_items (data_items js)) (find.as_array j)
unfolding data_of mccs_of
value_codes json.null = refl
value_codes (json.boolean b) = refl
value_codes (json.number s) = none_of_number (number_of s)
value_codes (json.string s) = refl
value_codes (json.array js) = array_as js (of_items js) refl
value_codes (json.object ms) = none_of_object (of_members ms no_members)

-- there are as many items as values
seen_count : {A : Type 0} (vs : List (Value A)) → item_count (seen_items vs) ≡ length vs
seen_count [] = refl
seen_count (v ∷ vs) = ap suc (seen_count vs)

-- codes are taken if there are 1 to 1000
pub counted : {A : Type 0} (vs : List (Value A)) (b : Bool) → (nat_le 1 (length vs) && nat_le (length vs) MOST_MCCS) ≡ b
    → mccs_of_items (seen_items vs) ≡ cond b (codes_with [] (seen_items vs)) None
unfolding mccs_of_items
counted vs b is =
    ap (λ (n : ℕ). cond (nat_le 1 n && nat_le n MOST_MCCS) (codes_with [] (seen_items vs)) None) (seen_count vs)
    ∙ ap (λ (c : Bool). cond c (codes_with [] (seen_items vs)) None) is
