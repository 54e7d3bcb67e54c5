-- The rows of all that was counted, in their order, are what each control has counted.
use Rattle.std.proofs.Common.{◌≡◌, ℕ, zero, suc, ◌+◌, ℤ, pos, Bool, true, false, cond, ◌&&◌, ◌==◌, nat_le, nat_lt, T, List, [], ◌∷◌, ◌++◌, map, slice_get, Option, Some, None, refl, sym, ap, ap₂, ◌∙◌, subst, arith}
use Rattle.std.specs.Prelude.{unwrap_or, Result, Ok, Err, IfOk}
use Rattle.std.specs.Option.{option_map}
use Rattle.std.specs.List.{filter_map, cons_option, flat_map, list_all, AllByRecursion}
use Rattle.std.specs.List.Sorted.{IsStrictlySortedBy}
use Rattle.std.specs.Map.{lookup, keys_of}
use Rattle.std.specs.Str.{bytes_eq}
use Rattle.std.specs.declared.cmp.Ordering.{Ordering}
use Rattle.std.specs.declared.cmp.Ordering.TheVariants.{Less, Equal, Greater}
use Rattle.std.specs.Ordering.{nat_cmp, int_cmp, int_eq, is_eq, is_lt, eq_by_cmp, ordering_then}
use Rattle.std.specs.Cmp.Lexicographic.{slice_cmp}
use Rattle.std.specs.BTreeMap as tree
use Rattle.std.specs.BTreeMap.{is_at}
use Rattle.std.specs.FinMap as finite
use Rattle.std.specs.FinMap.Entries.{below_all}
use Rattle.std.proofs.lemmas.Bool.{and_parts}
use Rattle.std.proofs.lemmas.Bool.Decides.{nat_tests}
use Rattle.std.proofs.lemmas.Map.Text.{is_eq-slice_cmp}
use Rattle.iss_model.specs.declared.txn.Used.{Used}
use Rattle.iss_model.specs.rules.Controls.{counter_key}
use Rattle.iss_model.specs.state.Kept.{kept_at}
use Rattle.iss_model.proofs.Names.{one_name, its_name, name-sym}
use Rattle.iss_velocity.specs.declared.counted.Counted.{Counted}
use Rattle.iss_velocity.specs.declared.standing.Standing.{Standing}
use Rattle.iss_velocity.specs.Counting.{Users, Past}
use Rattle.iss_velocity.specs.Keeping.{has_no_zero, sums_in, control_at, controls_from, AreKeyed}
use Rattle.iss_velocity.specs.Showing.{CounterEntry, counted_entry, Rows, by_row, row_entry, entry_of, entries_of_control, AreRowsOf}
use Rattle.iss_velocity.proofs.KeyOrder.{key_order, same_key}
use Rattle.iss_velocity.proofs.Lookups.{IsKey, both_equal, place_test, get_sums, sums_keys}
use Rattle.iss_velocity.proofs.SumsKept.{same_sums}

abbrev order : List ℕ → List ℕ → Ordering
order = slice_cmp nat_cmp

abbrev Key : Type 0
Key = ℕ × (List ℕ × ℤ)

-- what the control at a place has counted in a row, if the row is its own
abbrev pair_at : ℕ → Key × Used → Option (List ℕ × Used)
pair_at i e = cond (e.0.0 == i) (Some (counter_key e.0.1.0 e.0.1.1, e.1)) None

abbrev pairs : ℕ → List (Key × Used) → List (List ℕ × Used)
pairs i es = filter_map (pair_at i) es

abbrev valued : (Used → ℤ) → List ℕ × Used → List ℕ × ℤ
valued worth e = (e.0, worth e.1)

-- a row's control's entry
abbrev shown_by : Standing → List ℕ × Used → CounterEntry
shown_by s e = (s.control.name, (s.control.window, (e.0, (e.1.amount, e.1.count))))

abbrev all_plain : List (Key × Used) → Bool
all_plain es = list_all (λ (k : Key). has_no_zero k.1.0) (keys_of es)

-- places in the order of rows
place_rises : (a b : ℕ) (r : Ordering) → ordering_then (nat_cmp a b) r ≡ Less → nat_le a b ≡ true
place_rises a b r h = by (nat_lt a b) (a == b) refl refl h
  where
    by : (l e : Bool) → nat_lt a b ≡ l → (a == b) ≡ e → ordering_then (cond l Less (cond e Equal Greater)) r ≡ Less → nat_le a b ≡ true
    by true e p q g = grind (arith, nat_tests)
    by false true p q g = grind (arith, nat_tests)
    by false false p q g = cc

all_above : (e : Key) (ks : List (Key × Used)) → AllByRecursion (λ (y : Key). by_row e y ≡ Less) (keys_of ks) → list_all (λ (x : Key × Used). nat_le e.0 x.0.0) ks ≡ true
all_above e [] h = refl
all_above e (k ∷ ks) h =
    ap₂ (λ (a b : Bool). a && b)
    (place_rises e.0 k.0.0 (ordering_then (slice_cmp nat_cmp e.1.0 k.0.1.0) (int_cmp e.1.1 k.0.1.1)) h.0) (all_above e ks h.1)

-- the entries of each control that stands, from a place on, by the rows
abbrev from_place : ℕ → List Standing → List (Key × Used) → List CounterEntry
from_place i [] es = []
from_place i (s ∷ ss) es = map (shown_by s) (pairs i es) ++ from_place (suc i) ss es

-- a row of a place before all isn't shown
passed : (i : ℕ) (ss : List Standing) (e : Key × Used) (es : List (Key × Used)) → nat_lt e.0.0 i ≡ true → from_place i ss (e ∷ es) ≡ from_place i ss es
passed i [] e es h = refl
passed i (s ∷ ss) e es h =
    let other : (e.0.0 == i) ≡ false = grind (arith, nat_tests) in
    let next : nat_lt e.0.0 (suc i) ≡ true = grind (arith, nat_tests) in
    ap₂ (λ (b : Bool) (rest : List CounterEntry). map (shown_by s) (cons_option (cond b (Some (counter_key e.0.1.0 e.0.1.1, e.1)) None) (pairs i es)) ++ rest)
    other (passed (suc i) ss e es next)

-- no row is of a place below all
none_here : (i p : ℕ) (es : List (Key × Used)) → nat_lt i p ≡ true → list_all (λ (x : Key × Used). nat_le p x.0.0) es ≡ true → pairs i es ≡ []
none_here i p [] h above = refl
none_here i p (e ∷ es) h above =
    let parts = and_parts (nat_le p e.0.0) (list_all (λ (x : Key × Used). nat_le p x.0.0) es) above in
    let first : nat_le p e.0.0 ≡ true = parts.0 in
    let other : (e.0.0 == i) ≡ false = grind (arith, nat_tests) in
    ap (λ (b : Bool). cons_option (cond b (Some (counter_key e.0.1.0 e.0.1.1, e.1)) None) (pairs i es)) other ∙ none_here i p es h parts.1

-- a row before all others stands before their entries
put_first : (i d : ℕ) (ss : List Standing) (e : Key × Used) (es : List (Key × Used)) → e.0.0 ≡ i + d → list_all (λ (x : Key × Used). nat_le e.0.0 x.0.0) es ≡ true
    → cons_option (option_map (λ (s : Standing). shown_by s (counter_key e.0.1.0 e.0.1.1, e.1)) (slice_get ss d)) (from_place i ss es) ≡ from_place i ss (e ∷ es)
put_first i d [] e es is above = refl
put_first i zero (s ∷ ss) e es is above =
    let own : (e.0.0 == i) ≡ true = grind (arith, nat_tests) in
    let below : nat_lt e.0.0 (suc i) ≡ true = grind (arith, nat_tests) in
    ap₂ (λ (b : Bool) (rest : List CounterEntry). map (shown_by s) (cons_option (cond b (Some (counter_key e.0.1.0 e.0.1.1, e.1)) None) (pairs i es)) ++ rest)
    (sym own) (sym (passed (suc i) ss e es below))
put_first i (suc d) (s ∷ ss) e es is above =
    let other : (e.0.0 == i) ≡ false = grind (arith, nat_tests) in
    let higher : nat_lt i e.0.0 ≡ true = grind (arith, nat_tests) in
    let next : e.0.0 ≡ suc i + d = omega (arith, is) in
    let none : pairs i es ≡ [] = none_here i e.0.0 es higher above in
    ap (λ (xs : List (List ℕ × Used)). cons_option (option_map (λ (t : Standing). shown_by t (counter_key e.0.1.0 e.0.1.1, e.1)) (slice_get ss d)) (map (shown_by s) xs ++ from_place (suc i) ss es)) none
    ∙ put_first (suc i) d ss e es next above
    ∙ ap (λ (xs : List (List ℕ × Used)). map (shown_by s) xs ++ from_place (suc i) ss (e ∷ es)) (sym none)
    ∙ ap (λ (b : Bool). map (shown_by s) (cons_option (cond b (Some (counter_key e.0.1.0 e.0.1.1, e.1)) None) (pairs i es)) ++ from_place (suc i) ss (e ∷ es)) (sym other)

nothing_from : (i : ℕ) (ss : List Standing) → from_place i ss [] ≡ []
nothing_from i [] = refl
nothing_from i (s ∷ ss) = nothing_from (suc i) ss

rows_by_place : (ss : List Standing) (es : List (Key × Used)) → IsStrictlySortedBy by_row (keys_of es) → filter_map (row_entry ss) es ≡ from_place 0 ss es
unfolding IsStrictlySortedBy
rows_by_place ss [] sorted = sym (nothing_from 0 ss)
rows_by_place ss (e ∷ es) sorted =
    let same : e.0.0 ≡ 0 + e.0.0 = omega arith in
    ap (cons_option (option_map (λ (s : Standing). shown_by s (counter_key e.0.1.0 e.0.1.1, e.1)) (slice_get ss e.0.0))) (rows_by_place ss es sorted.1)
    ∙ put_first 0 e.0.0 ss e es same (all_above e.0 es sorted.0)

-- keys of one control's rows rise
key_rises : (i : ℕ) (a b : Key) → (a.0 == i) ≡ true → (b.0 == i) ≡ true → has_no_zero a.1.0 ≡ true → has_no_zero b.1.0 ≡ true → by_row a b ≡ Less
    → order (counter_key a.1.0 a.1.1) (counter_key b.1.0 b.1.1) ≡ Less
key_rises i a b e f p q h =
    let less : nat_lt a.0 b.0 ≡ false = grind (arith, nat_tests) in
    let same : (a.0 == b.0) ≡ true = grind (arith, nat_tests) in
    key_order a.1.0 b.1.0 a.1.1 b.1.1 p q
    ∙ sym (ap₂ (λ (l m : Bool). ordering_then (cond l Less (cond m Equal Greater)) (ordering_then (slice_cmp nat_cmp a.1.0 b.1.0) (int_cmp a.1.1 b.1.1))) less same)
    ∙ h

both_true : (a b : Bool) → T a → T b → T (a && b)
both_true true b p q = q
both_true false b p q = p

module _ (worth : Used → ℤ) (i : ℕ) where
  values : List (Key × Used) → List (List ℕ × ℤ)
  values es = map (valued worth) (pairs i es)

  below_pairs : (a : Key) (es : List (Key × Used)) → (a.0 == i) ≡ true → has_no_zero a.1.0 ≡ true → all_plain es ≡ true
      → AllByRecursion (λ (y : Key). by_row a y ≡ Less) (keys_of es) → T (below_all order (counter_key a.1.0 a.1.1) (map (valued worth) (pairs i es)))
  below_pairs a [] e p ps above = tt
  below_pairs a (x ∷ es) e p ps above = at (x.0.0 == i) refl (below_pairs a es e p parts.1 above.1)
    where
      parts : (has_no_zero x.0.1.0 ≡ true) × (all_plain es ≡ true)
      parts = and_parts (has_no_zero x.0.1.0) (all_plain es) ps

      at : (b : Bool) → (x.0.0 == i) ≡ b → T (below_all order (counter_key a.1.0 a.1.1) (map (valued worth) (pairs i es)))
          → T (below_all order (counter_key a.1.0 a.1.1) (map (valued worth) (cons_option (cond b (Some (counter_key x.0.1.0 x.0.1.1, x.1)) None) (pairs i es))))
      at true f rest =
          both_true (is_lt (order (counter_key a.1.0 a.1.1) (counter_key x.0.1.0 x.0.1.1))) (below_all order (counter_key a.1.0 a.1.1) (map (valued worth) (pairs i es)))
          (subst (λ (r : Ordering). T (is_lt r)) (sym (key_rises i a x.0 e f p parts.0 above.0)) tt)
          rest
      at false f rest = rest

  pairs_sorted : (es : List (Key × Used)) → IsStrictlySortedBy by_row (keys_of es) → all_plain es ≡ true → T (finite.is_sorted order (map (valued worth) (pairs i es)))
  unfolding IsStrictlySortedBy
  pairs_sorted [] sorted ps = tt
  pairs_sorted (x ∷ es) sorted ps = at (x.0.0 == i) refl (pairs_sorted es sorted.1 parts.1)
    where
      parts : (has_no_zero x.0.1.0 ≡ true) × (all_plain es ≡ true)
      parts = and_parts (has_no_zero x.0.1.0) (all_plain es) ps

      at : (b : Bool) → (x.0.0 == i) ≡ b → T (finite.is_sorted order (map (valued worth) (pairs i es)))
          → T (finite.is_sorted order (map (valued worth) (cons_option (cond b (Some (counter_key x.0.1.0 x.0.1.1, x.1)) None) (pairs i es))))
      at true f rest =
          both_true (below_all order (counter_key x.0.1.0 x.0.1.1) (map (valued worth) (pairs i es))) (finite.is_sorted order (map (valued worth) (pairs i es)))
          (below_pairs x.0 es f parts.0 parts.1 sorted.0) rest
      at false f rest = rest

  -- what they have at a key
  pairs_at : (user : List ℕ) (number : ℤ) → has_no_zero user ≡ true → (es : List (Key × Used)) → all_plain es ≡ true
      → finite.find order (counter_key user number) (map (valued worth) (pairs i es)) ≡ option_map worth (lookup (is_at (by_row (i, (user, number)))) es)
  pairs_at user number plain [] ps = refl
  pairs_at user number plain (e ∷ es) ps =
      at (e.0.0 == i) (pairs_at user number plain es parts.1)
      ∙ ap (λ (b : Bool). option_map worth (cond b (Some e.1) (lookup (is_at (by_row (i, (user, number)))) es))) (sym test)
    where
      parts : (has_no_zero e.0.1.0 ≡ true) × (all_plain es ≡ true)
      parts = and_parts (has_no_zero e.0.1.0) (all_plain es) ps

      test : is_at (by_row (i, (user, number))) e.0 ≡ ((e.0.0 == i) && (bytes_eq user e.0.1.0 && int_eq number e.0.1.1))
      test =
          both_equal (nat_cmp i e.0.0) (ordering_then (slice_cmp nat_cmp user e.0.1.0) (int_cmp number e.0.1.1))
          ∙ ap₂ (λ (x y : Bool). x && y) (place_test i e.0.0)
          (both_equal (slice_cmp nat_cmp user e.0.1.0) (int_cmp number e.0.1.1) ∙ ap (λ (b : Bool). b && int_eq number e.0.1.1) (is_eq-slice_cmp user e.0.1.0))

      known : (b : Bool) (o : Option Used) (z : Option ℤ) → z ≡ option_map worth o → cond b (Some (worth e.1)) z ≡ option_map worth (cond b (Some e.1) o)
      known true o z f = refl
      known false o z f = f

      at : (t : Bool) → finite.find order (counter_key user number) (map (valued worth) (pairs i es)) ≡ option_map worth (lookup (is_at (by_row (i, (user, number)))) es)
          → finite.find order (counter_key user number) (map (valued worth) (cons_option (cond t (Some (counter_key e.0.1.0 e.0.1.1, e.1)) None) (pairs i es)))
          ≡ option_map worth (cond (t && (bytes_eq user e.0.1.0 && int_eq number e.0.1.1)) (Some e.1) (lookup (is_at (by_row (i, (user, number)))) es))
      at true rest =
          ap (λ (b : Bool). cond b (Some (worth e.1)) (finite.find order (counter_key user number) (map (valued worth) (pairs i es))))
          (same_key user e.0.1.0 number e.0.1.1 plain parts.0)
          ∙ known (bytes_eq user e.0.1.0 && int_eq number e.0.1.1) (lookup (is_at (by_row (i, (user, number)))) es)
          (finite.find order (counter_key user number) (map (valued worth) (pairs i es))) rest
      at false rest = rest

  -- nothing else has a value
  pairs_keys : (q : List ℕ) (z : ℤ) (es : List (Key × Used)) → all_plain es ≡ true → finite.find order q (map (valued worth) (pairs i es)) ≡ Some z → IsKey q
  pairs_keys q z [] ps f = cc
  pairs_keys q z (e ∷ es) ps f = at (e.0.0 == i) (pairs_keys q z es parts.1) f
    where
      parts : (has_no_zero e.0.1.0 ≡ true) × (all_plain es ≡ true)
      parts = and_parts (has_no_zero e.0.1.0) (all_plain es) ps

      keyed : (b : Bool) → eq_by_cmp order q (counter_key e.0.1.0 e.0.1.1) ≡ b → (finite.find order q (map (valued worth) (pairs i es)) ≡ Some z → IsKey q)
          → cond b (Some (worth e.1)) (finite.find order q (map (valued worth) (pairs i es))) ≡ Some z → IsKey q
      keyed true g later h =
          record { user = e.0.1.0; number = e.0.1.1; plain = parts.0; is = one_name q (counter_key e.0.1.0 e.0.1.1) (sym (is_eq-slice_cmp q (counter_key e.0.1.0 e.0.1.1)) ∙ g) }
      keyed false g later h = later h

      at : (t : Bool) → (finite.find order q (map (valued worth) (pairs i es)) ≡ Some z → IsKey q)
          → finite.find order q (map (valued worth) (cons_option (cond t (Some (counter_key e.0.1.0 e.0.1.1, e.1)) None) (pairs i es))) ≡ Some z → IsKey q
      at true later g = keyed (eq_by_cmp order q (counter_key e.0.1.0 e.0.1.1)) refl later g
      at false later g = later g

  -- a control's sums are those of its rows
  sums_of_rows : (users : Users) (past : Past) (rows : Rows) → AreKeyed users past → AreRowsOf users past rows → tree.IsOrdered by_row rows
      → sums_in worth users past i ≡ finite.from_sorted (map (valued worth) (pairs i rows.entries))
  sums_of_rows users past rows k r ordered =
      let sorted = pairs_sorted rows.entries ordered r.plain in
      let list = map (valued worth) (pairs i rows.entries) in
      same_sums (sums_in worth users past i) (finite.from_sorted list)
      (λ q z e. sums_keys worth i q users past k z e)
      (λ q z e. pairs_keys q z rows.entries r.plain (sym (finite.get-from_sorted order list q sorted) ∙ e))
      (λ user number p.
      get_sums worth i user number p users past k ∙ ap (option_map worth) (sym (r.at i user number))
      ∙ sym (pairs_at user number p rows.entries r.plain)
      ∙ sym (finite.get-from_sorted order list (counter_key user number) sorted))

-- each key finds its own value in a list in order
abbrev with_found : Standing → (List ℕ → ℤ) → List ℕ × Used → CounterEntry
with_found s times e = (s.control.name, (s.control.window, (e.0, (e.1.amount, times e.0))))

abbrev found_in : List (List ℕ × Used) → List ℕ → ℤ
found_in ps key = unwrap_or (finite.find order key (map (valued (λ (u : Used). u.count)) ps)) (pos 0)

not_first : (s : Standing) (e : List ℕ × Used) (ps xs : List (List ℕ × Used)) → T (below_all order e.0 (map (valued (λ (u : Used). u.count)) xs))
    → map (with_found s (found_in (e ∷ ps))) xs ≡ map (with_found s (found_in ps)) xs
not_first s e ps [] h = refl
not_first s e ps (x ∷ xs) h =
    let parts = T_parts (is_lt (order e.0 x.0)) (below_all order e.0 (map (valued (λ (u : Used). u.count)) xs)) h in
    ap₂ (λ (b : Bool) (rest : List CounterEntry). (s.control.name, (s.control.window, (x.0, (x.1.amount, unwrap_or (cond b (Some e.1.count) (finite.find order x.0 (map (valued (λ (u : Used). u.count)) ps))) (pos 0))))) ∷ rest)
    (apart parts.0) (not_first s e ps xs parts.1)
  where
    T_parts : (a b : Bool) → T (a && b) → T a × T b
    T_parts true b p = (tt, p)
    T_parts false b p = absurd p

    apart : T (is_lt (order e.0 x.0)) → eq_by_cmp order x.0 e.0 ≡ false
    apart l = eq_by_cmp-sym ∙ at (order e.0 x.0) l
      where
        eq_by_cmp-sym : eq_by_cmp order x.0 e.0 ≡ eq_by_cmp order e.0 x.0
        eq_by_cmp-sym = is_eq-slice_cmp x.0 e.0 ∙ name-sym x.0 e.0 ∙ sym (is_eq-slice_cmp e.0 x.0)

        at : (r : Ordering) → T (is_lt r) → is_eq r ≡ false
        at Less m = refl
        at Equal m = absurd m
        at Greater m = refl

own_found : (s : Standing) (ps : List (List ℕ × Used)) → T (finite.is_sorted order (map (valued (λ (u : Used). u.count)) ps)) → map (with_found s (found_in ps)) ps ≡ map (shown_by s) ps
own_found s [] h = refl
own_found s (e ∷ ps) h =
    let parts = T_parts (below_all order e.0 (map (valued (λ (u : Used). u.count)) ps)) (finite.is_sorted order (map (valued (λ (u : Used). u.count)) ps)) h in
    ap₂ (λ (b : Bool) (rest : List CounterEntry). (s.control.name, (s.control.window, (e.0, (e.1.amount, unwrap_or (cond b (Some e.1.count) (finite.find order e.0 (map (valued (λ (u : Used). u.count)) ps))) (pos 0))))) ∷ rest)
    (is_eq-slice_cmp e.0 e.0 ∙ its_name e.0)
    (not_first s e ps ps parts.0 ∙ own_found s ps parts.1)
  where
    T_parts : (a b : Bool) → T (a && b) → T a × T b
    T_parts true b p = (tt, p)
    T_parts false b p = absurd p

map_twice : (s : Standing) (times : List ℕ → ℤ) (ps : List (List ℕ × Used))
    → map (with_found s times) ps ≡ map (λ (e : List ℕ × ℤ). (s.control.name, (s.control.window, (e.0, (e.1, times e.0))))) (map (valued (λ (u : Used). u.amount)) ps)
map_twice s times [] = refl
map_twice s times (e ∷ ps) = ap (λ (rest : List CounterEntry). (s.control.name, (s.control.window, (e.0, (e.1.amount, times e.0)))) ∷ rest) (map_twice s times ps)

times_alike : (s : Standing) (f g : List ℕ → ℤ) (ps : List (List ℕ × Used)) → ((key : List ℕ) → f key ≡ g key) → map (with_found s f) ps ≡ map (with_found s g) ps
times_alike s f g [] e = refl
times_alike s f g (p ∷ ps) e =
    ap₂ (λ (z : ℤ) (rest : List CounterEntry). (s.control.name, (s.control.window, (p.0, (p.1.amount, z)))) ∷ rest) (e p.0) (times_alike s f g ps e)

module _ (users : Users) (past : Past) (rows : Rows) (k : AreKeyed users past) (r : AreRowsOf users past rows) (ordered : tree.IsOrdered by_row rows) where
  -- a control's rows are its counters
  of_control : (i : ℕ) (s : Standing) → map (shown_by s) (pairs i rows.entries) ≡ entries_of_control (control_at users past i s)
  of_control i s =
      let ps = pairs i rows.entries in
      let times = sums_in (λ (u : Used). u.count) users past i in
      let in_order = pairs_sorted (λ (u : Used). u.count) i rows.entries ordered r.plain in
      sym (own_found s ps in_order)
      ∙ times_alike s (found_in ps) (kept_at times) ps (λ key.
      ap (λ (o : Option ℤ). unwrap_or o (pos 0))
      (sym (ap (λ m. finite.get m key) (sums_of_rows (λ (u : Used). u.count) i users past rows k r ordered)
      ∙ finite.get-from_sorted order (map (valued (λ (u : Used). u.count)) ps) key in_order)))
      ∙ map_twice s (kept_at times) ps
      ∙ ap (map (entry_of (control_at users past i s)))
      (sym (ap (λ m. finite.entries m) (sums_of_rows (λ (u : Used). u.amount) i users past rows k r ordered)
      ∙ finite.entries-from_sorted order (map (valued (λ (u : Used). u.amount)) ps) (pairs_sorted (λ (u : Used). u.amount) i rows.entries ordered r.plain)))

  of_controls : (i : ℕ) (ss : List Standing) → from_place i ss rows.entries ≡ flat_map entries_of_control (controls_from users past i ss)
  of_controls i [] = refl
  of_controls i (s ∷ ss) = ap₂ (λ (xs ys : List CounterEntry). xs ++ ys) (of_control i s) (of_controls (suc i) ss)

  -- all rows are all counters
  pub all_counters : (ss : List Standing) → filter_map (row_entry ss) rows.entries ≡ flat_map entries_of_control (controls_from users past 0 ss)
  all_counters ss = rows_by_place ss rows.entries ordered ∙ of_controls 0 ss

-- what follows from two facts of a result that is there
pub if_both : {A E : Type 0} (r : Result A E) {P Q R : A → Type 0} → IfOk r P → IfOk r Q → ((x : A) → P x → Q x → R x) → IfOk r R
if_both (Ok x) p q f = f x p q
if_both (Err e) p q f = tt

-- a walk over the rows
abbrev Shows : List Standing → List (Key × Used) → List CounterEntry → List Counted → Type 0
Shows ss its all v = (map counted_entry v ++ filter_map (row_entry ss) its ≡ all) × (list_all (λ (c : Counted). has_no_zero c.user) v ≡ true)

moved_on : (v : List Counted) (one : Counted) (rest : List CounterEntry) → map counted_entry (v ++ one ∷ []) ++ rest ≡ map counted_entry v ++ counted_entry one ∷ rest
moved_on [] one rest = refl
moved_on (c ∷ v) one rest = ap (λ (xs : List CounterEntry). counted_entry c ∷ xs) (moved_on v one rest)

more_named : (v : List Counted) (one : Counted) → list_all (λ (c : Counted). has_no_zero c.user) v ≡ true → has_no_zero one.user ≡ true
    → list_all (λ (c : Counted). has_no_zero c.user) (v ++ one ∷ []) ≡ true
more_named [] one h p = ap (λ (b : Bool). b && true) p
more_named (c ∷ v) one h p =
    let parts = and_parts (has_no_zero c.user) (list_all (λ (d : Counted). has_no_zero d.user) v) h in
    ap₂ (λ (a b : Bool). a && b) parts.0 (more_named v one parts.1 p)

pub shown_more : (ss : List Standing) (e : Key × Used) (es its : List (Key × Used)) (all : List CounterEntry) (v w : List Counted) (one : Counted) (s : Standing)
    → its ≡ e ∷ es → slice_get ss e.0.0 ≡ Some s
    → one ≡ record { control = s.control.name; user = e.0.1.0; window = s.control.window; number = e.0.1.1; used = e.1 } → has_no_zero one.user ≡ true
    → w ≡ v ++ one ∷ [] → Shows ss its all v → Shows ss es all w
shown_more ss e es its all v w one s f g is plain more h =
    let row : row_entry ss e ≡ Some (counted_entry one) =
    ap (option_map (λ (t : Standing). shown_by t (counter_key e.0.1.0 e.0.1.1, e.1))) g ∙ ap (λ (c : Counted). Some (counted_entry c)) (sym is) in (
      ap (λ (x : List Counted). map counted_entry x ++ filter_map (row_entry ss) es) more
          ∙ moved_on v one (filter_map (row_entry ss) es)
          ∙ ap (λ (o : Option CounterEntry). map counted_entry v ++ cons_option o (filter_map (row_entry ss) es)) (sym row)
          ∙ ap (λ (xs : List (Key × Used)). map counted_entry v ++ filter_map (row_entry ss) xs) (sym f) ∙ h.0,
      ap (list_all (λ (c : Counted). has_no_zero c.user)) more ∙ more_named v one h.1 plain,
    )

pub not_shown : (ss : List Standing) (e : Key × Used) (es its : List (Key × Used)) (all : List CounterEntry) (v : List Counted)
    → its ≡ e ∷ es → slice_get ss e.0.0 ≡ None → Shows ss its all v → Shows ss es all v
not_shown ss e es its all v f g h = (
  ap (λ (o : Option Standing). map counted_entry v ++ cons_option (option_map (λ (t : Standing). shown_by t (counter_key e.0.1.0 e.0.1.1, e.1)) o) (filter_map (row_entry ss) es)) (sym g)
      ∙ ap (λ (xs : List (Key × Used)). map counted_entry v ++ filter_map (row_entry ss) xs) (sym f) ∙ h.0,
  h.1,
)

pub all_shown : (ss : List Standing) (its : List (Key × Used)) (all : List CounterEntry) (v : List Counted) → its ≡ [] → Shows ss its all v → map counted_entry v ≡ all
all_shown ss its all v f h =
    sym (no_rest (map counted_entry v)) ∙ ap (λ (xs : List (Key × Used)). map counted_entry v ++ filter_map (row_entry ss) xs) (sym f) ∙ h.0
  where
    no_rest : (xs : List CounterEntry) → xs ++ [] ≡ xs
    no_rest [] = refl
    no_rest (x ∷ xs) = ap (λ (ys : List CounterEntry). x ∷ ys) (no_rest xs)
