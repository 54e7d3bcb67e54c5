-- The asked calls by number, from their keys in another order.
use Rattle.std.proofs.Common.{◌≡◌, ℕ, suc, ◌+◌, ◌<◌, nat_lt, ◌==◌, Bool, true, false, cond, ◌||◌, List, [], ◌∷◌, map, fold, filter, length, refl, sym, ap, ◌∙◌, subst, arith}
use Rattle.std.proofs.lemmas.Bool.Decides.{nat_tests}
use Rattle.std.specs.List.{AllByRecursion, list_any}
use Rattle.std.specs.List.Sorted.{IsStrictlySortedBy}
use Rattle.std.specs.declared.cmp.Ordering.{Ordering}
use Rattle.std.specs.declared.cmp.Ordering.TheVariants.{Less, Equal, Greater}
use Rattle.std.specs.Ordering.{nat_cmp, match_ordering, is_eq, eq_by_cmp}
use Rattle.std.specs.Cmp.{nat_cmp_total, unsigned_ties, Equal-is}
use Rattle.std.specs.BTreeSet.{BTreeSet, insert_key, IsFromIterResult}
use Rattle.std.proofs.lemmas.Map.Lookups.{btree_set_from_contains}
use Rattle.iss_model.specs.declared.call.CallId.{CallId}
use Rattle.iss_model.specs.declared.call.Opened.{Opened}
use Rattle.iss_model.specs.rules.Activity.{CallNow, is_asked}
use Rattle.iss_model.specs.rules.Due.{DueItem, is_before, items_with}
use Rattle.iss_call.specs.Orders.{AreNumbered, in_order, id_of, asked_keys, deadline_key, by_deadline}
use Rattle.iss_call.proofs.AskedKeys.{then_eq}
use Rattle.iss_call.proofs.DueOrder.{NumbersRise, keys_rise, both_true, item_of, placed_all}

or_twice : (a b : Bool) → (a || b) ≡ (a || (a || b))
or_twice true b = refl
or_twice false b = refl

or_turn : (a b c : Bool) → (b || (a || c)) ≡ (a || (b || c))
or_turn true true c = refl
or_turn true false c = refl
or_turn false b c = refl

or_regroup : (a b c : Bool) → (b || (a || c)) ≡ ((a || b) || c)
or_regroup true true c = refl
or_regroup true false c = refl
or_regroup false b c = refl

-- a number of a key
abbrev number_in : ℕ × ℕ → ℕ
number_in k = k.1

exact : (a b : ℕ) → nat_cmp a b ≡ Equal → a ≡ b
exact a b e = let same : (a == b) ≡ true = unsigned_ties a b ∙ ap is_eq e in grind (arith, nat_tests)

tied_numbers : (k x : ℕ × ℕ) → by_deadline k x ≡ Equal → k.1 ≡ x.1
tied_numbers k x e =
    let both = both_true (is_eq (nat_cmp k.0 x.0)) (is_eq (nat_cmp k.1 x.1)) (sym (then_eq (nat_cmp k.0 x.0) (nat_cmp k.1 x.1)) ∙ ap is_eq e) in
    exact k.1 x.1 (equal (nat_cmp k.1 x.1) both.1)
  where
    equal : (r : Ordering) → is_eq r ≡ true → r ≡ Equal
    equal r h = (Equal-is r).0 h

any_by : (test : ℕ → Bool) (k x : ℕ × ℕ) (ks : List (ℕ × ℕ)) (r : Ordering) → by_deadline k x ≡ r → list_any test (map number_in (insert_key by_deadline ks k)) ≡ (test k.1 || list_any test (map number_in ks))
    → list_any test (map number_in (match_ordering r (k ∷ x ∷ ks) (x ∷ ks) (x ∷ insert_key by_deadline ks k))) ≡ (test k.1 || (test x.1 || list_any test (map number_in ks)))
any_by test k x ks Less e rest = refl
any_by test k x ks Equal e rest = or_twice (test x.1) (list_any test (map number_in ks)) ∙ ap (λ (n : ℕ). test n || (test x.1 || list_any test (map number_in ks))) (sym (tied_numbers k x e))
any_by test k x ks Greater e rest = ap (λ (b : Bool). test x.1 || b) rest ∙ or_turn (test k.1) (test x.1) (list_any test (map number_in ks))

any_insert : (test : ℕ → Bool) (ks : List (ℕ × ℕ)) (k : ℕ × ℕ) → list_any test (map number_in (insert_key by_deadline ks k)) ≡ (test k.1 || list_any test (map number_in ks))
any_insert test [] k = refl
any_insert test (x ∷ ks) k = any_by test k x ks (by_deadline k x) refl (any_insert test ks k)

any_fold : (test : ℕ → Bool) (acc ks : List (ℕ × ℕ)) → list_any test (map number_in (fold (insert_key by_deadline) acc ks)) ≡ (list_any test (map number_in ks) || list_any test (map number_in acc))
any_fold test acc [] = refl
any_fold test acc (k ∷ ks) =
    any_fold test (insert_key by_deadline acc k) ks
    ∙ ap (λ (b : Bool). list_any test (map number_in ks) || b) (any_insert test acc k)
    ∙ or_regroup (test k.1) (list_any test (map number_in ks)) (list_any test (map number_in acc))

or_false : (b : Bool) → (b || false) ≡ b
or_false true = refl
or_false false = refl

less : (a b : ℕ) → a < b → nat_cmp a b ≡ Less
less a b h = ap (λ (t : Bool). cond t Less (cond (a == b) Equal Greater)) (below a b h)
  where
    below : (a b : ℕ) → a < b → nat_lt a b ≡ true
    below a b h = grind (arith, nat_tests)

later : (n m : ℕ) (ks : List (ℕ × ℕ)) → n < m → NumbersRise m ks → AllByRecursion (λ y. nat_cmp n y ≡ Less) (map number_in ks)
later n m [] h r = tt
later n m (k ∷ ks) h r = (less n k.1 (omega (arith, h, r.0)), later n (suc k.1) ks (omega (arith, h, r.0)) r.1)

sorted : (n : ℕ) (ks : List (ℕ × ℕ)) → NumbersRise n ks → IsStrictlySortedBy nat_cmp (map number_in ks)
unfolding IsStrictlySortedBy
sorted n [] r = tt
sorted n (k ∷ ks) r = (later k.1 (suc k.1) ks (omega arith) r.1, sorted (suc k.1) ks r.1)

same_numbers : (set : BTreeSet ℕ) (ks : List (ℕ × ℕ)) → NumbersRise 1 ks → IsFromIterResult nat_cmp (map number_in (in_order by_deadline ks)) set → set.keys ≡ map number_in ks
same_numbers set ks r from =
    let wanted : BTreeSet ℕ = record { keys = map number_in ks } in
    btree_set_from_contains nat_cmp_total set wanted from.1 (sorted 1 ks r)
    (λ q. from.0 q ∙ any_fold (eq_by_cmp nat_cmp q) [] ks ∙ or_false (list_any (eq_by_cmp nat_cmp q) (map number_in ks)))
    exact

asked_ids : (cs : List CallNow) → map id_of (map number_in (asked_keys deadline_key cs)) ≡ map (λ c. c.opened.call) (filter is_asked cs)
asked_ids [] = refl
asked_ids (c ∷ cs) =
    elim (is_asked c) as (λ t. map id_of (map number_in (map (λ x. deadline_key x.opened) (cond t (c ∷ filter is_asked cs) (filter is_asked cs)))) ≡ map (λ x. x.opened.call) (cond t (c ∷ filter is_asked cs) (filter is_asked cs))) [
      | true ↦ ap (λ (ids : List CallId). c.opened.call ∷ ids) (asked_ids cs)
      | false ↦ asked_ids cs
    ]

-- a set of the numbers of all keys lists the asked calls by number
pub by_number : (set : BTreeSet ℕ) (keys : List (ℕ × ℕ)) (cs : List CallNow) → AreNumbered 1 cs → keys ≡ in_order by_deadline (asked_keys deadline_key cs)
    → IsFromIterResult nat_cmp (map (λ k. k.1) keys) set → map id_of set.keys ≡ map (λ c. c.opened.call) (filter is_asked cs)
by_number set keys cs a e from =
    ap (map id_of)
    (same_numbers set (asked_keys deadline_key cs) (keys_rise (λ (o : Opened). o.deadline) 1 cs a)
    (subst (λ (ks : List (ℕ × ℕ)). IsFromIterResult nat_cmp (map number_in ks) set) e from))
    ∙ asked_ids cs
