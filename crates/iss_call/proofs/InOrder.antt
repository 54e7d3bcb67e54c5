-- Keys in their order: one more, one less, and those that pass a test.
use Rattle.std.proofs.Common.{◌≡◌, Bool, true, false, cond, not, ◌||◌, List, [], ◌∷◌, ◌++◌, fold, filter, refl, sym, ap, ◌∙◌}
use Rattle.std.specs.List.{AllByRecursion, list_any}
use Rattle.std.specs.declared.cmp.Ordering.{Ordering}
use Rattle.std.specs.declared.cmp.Ordering.TheVariants.{Less, Equal, Greater}
use Rattle.std.specs.Ordering.{is_eq, match_ordering, ordering_reverse}
use Rattle.std.specs.Cmp.{IsTotalOrder, tied_itself, alike_right, Equal-is}
use Rattle.std.specs.BTreeMap.{is_at}
use Rattle.std.specs.BTreeSet.{insert_key}
use Rattle.std.specs.Set.{remove_key}
use Rattle.iss_call.specs.Orders.{in_order}

fold_push : {S A : Type 0} (f : S → A → S) (s : S) (xs : List A) (x : A) → fold f s (xs ++ x ∷ []) ≡ f (fold f s xs) x
fold_push f s [] x = refl
fold_push f s (a ∷ xs) x = fold_push f (f s a) xs x

-- a further key goes to its place
pub order_more : {K : Type 0} (cmp : K → K → Ordering) (ks : List K) (k : K) → in_order cmp (ks ++ k ∷ []) ≡ insert_key cmp (in_order cmp ks) k
order_more cmp ks k = fold_push (insert_key cmp) [] ks k

-- what holds of all keys and of a further one holds of them in their order
pub all_insert : {K : Type 0} (cmp : K → K → Ordering) (P : K → Type 0) (ks : List K) (k : K) → P k → AllByRecursion P ks → AllByRecursion P (insert_key cmp ks k)
all_insert cmp P [] k own all = (own, tt)
all_insert cmp P (x ∷ ks) k own all =
    elim (cmp k x) as (λ r. AllByRecursion P (match_ordering r (k ∷ x ∷ ks) (x ∷ ks) (x ∷ insert_key cmp ks k))) [
      | Less ↦ (own, all)
      | Equal ↦ all
      | Greater ↦ (all.0, all_insert cmp P ks k own all.1)
    ]

all_fold : {K : Type 0} (cmp : K → K → Ordering) (P : K → Type 0) (acc ks : List K) → AllByRecursion P acc → AllByRecursion P ks → AllByRecursion P (fold (insert_key cmp) acc ks)
all_fold cmp P acc [] had all = had
all_fold cmp P acc (k ∷ ks) had all = all_fold cmp P (insert_key cmp acc k) ks (all_insert cmp P acc k all.0 had) all.1

pub all_order : {K : Type 0} (cmp : K → K → Ordering) (P : K → Type 0) (ks : List K) → AllByRecursion P ks → AllByRecursion P (in_order cmp ks)
all_order cmp P ks all = all_fold cmp P [] ks tt all

-- a key that none ties with isn't among them
pub none_any : {K : Type 0} (test : K → Bool) (ks : List K) → AllByRecursion (λ k. test k ≡ false) ks → list_any test ks ≡ false
none_any test [] none = refl
none_any test (k ∷ ks) none = ap (λ (b : Bool). b || list_any test ks) none.0 ∙ none_any test ks none.1

-- two tests that agree on all keys keep the same ones
pub filter_same : {K : Type 0} (p q : K → Bool) (ks : List K) → AllByRecursion (λ k. p k ≡ q k) ks → filter p ks ≡ filter q ks
filter_same p q [] same = refl
filter_same p q (k ∷ ks) same =
    ap (λ (b : Bool). cond b (k ∷ filter p ks) (filter p ks)) same.0
    ∙ ap (λ (rest : List _). cond (q k) (k ∷ rest) rest) (filter_same p q ks same.1)

-- each key is below those after it
abbrev pub AreRising : {K : Type 0} → (K → K → Ordering) → List K → Type 0
AreRising cmp [] = Unit {0}
AreRising cmp (k ∷ ks) = AllByRecursion (λ y. cmp k y ≡ Less) ks × AreRising cmp ks

module _ {K : Type 0} {cmp : K → K → Ordering} (o : IsTotalOrder cmp) where
  below : (k x : K) → cmp k x ≡ Greater → cmp x k ≡ Less
  below k x h = o.antisymm x k ∙ ap ordering_reverse h

  above : (k x : K) → cmp k x ≡ Less → cmp x k ≡ Greater
  above k x h = o.antisymm x k ∙ ap ordering_reverse h

  all_above : (k x : K) (ks : List K) → cmp k x ≡ Less → AllByRecursion (λ y. cmp x y ≡ Less) ks → AllByRecursion (λ y. cmp k y ≡ Less) ks
  all_above k x [] h all = tt
  all_above k x (y ∷ ks) h all = (o.trans k x y h all.0, all_above k x ks h all.1)

  rising_by : (k x : K) (ks : List K) (r : Ordering) → cmp k x ≡ r → AreRising cmp (x ∷ ks) → AreRising cmp (insert_key cmp ks k)
      → AreRising cmp (match_ordering r (k ∷ x ∷ ks) (x ∷ ks) (x ∷ insert_key cmp ks k))
  rising_by k x ks Less e a rest = ((e, all_above k x ks e a.0), a)
  rising_by k x ks Equal e a rest = a
  rising_by k x ks Greater e a rest = (all_insert cmp (λ y. cmp x y ≡ Less) ks k (below k x e) a.0, rest)

  rising_insert : (ks : List K) (k : K) → AreRising cmp ks → AreRising cmp (insert_key cmp ks k)
  rising_insert [] k a = (tt, tt)
  rising_insert (x ∷ ks) k a = rising_by k x ks (cmp k x) refl a (rising_insert ks k a.1)

  rising_fold : (acc ks : List K) → AreRising cmp acc → AreRising cmp (fold (insert_key cmp) acc ks)
  rising_fold acc [] a = a
  rising_fold acc (k ∷ ks) a = rising_fold (insert_key cmp acc k) ks (rising_insert acc k a)

  pub order_rises : (ks : List K) → AreRising cmp (in_order cmp ks)
  order_rises ks = rising_fold [] ks tt

  goes_first : (k : K) (ks : List K) → AllByRecursion (λ y. cmp k y ≡ Less) ks → insert_key cmp ks k ≡ k ∷ ks
  goes_first k [] all = refl
  goes_first k (y ∷ ks) all = ap (λ (r : Ordering). match_ordering r (k ∷ y ∷ ks) (y ∷ ks) (y ∷ insert_key cmp ks k)) all.0

  above_kept : (p : K → Bool) (k : K) (ks : List K) → AllByRecursion (λ y. cmp k y ≡ Less) ks → AllByRecursion (λ y. cmp k y ≡ Less) (filter p ks)
  above_kept p k [] all = tt
  above_kept p k (y ∷ ks) all =
      elim (p y) as (λ t. AllByRecursion (λ z. cmp k z ≡ Less) (cond t (y ∷ filter p ks) (filter p ks))) [
        | true ↦ (all.0, above_kept p k ks all.1)
        | false ↦ above_kept p k ks all.1
      ]

  filter_by : (p : K → Bool) (k x : K) (ks : List K) (r : Ordering) (u v : Bool) → cmp k x ≡ r → p x ≡ u → p k ≡ v → (r ≡ Equal → u ≡ v)
      → AllByRecursion (λ y. cmp x y ≡ Less) ks → filter p (insert_key cmp ks k) ≡ cond v (insert_key cmp (filter p ks) k) (filter p ks)
      → filter p (match_ordering r (k ∷ x ∷ ks) (x ∷ ks) (x ∷ insert_key cmp ks k)) ≡ cond v (insert_key cmp (cond u (x ∷ filter p ks) (filter p ks)) k) (cond u (x ∷ filter p ks) (filter p ks))
  filter_by p k x ks Less true true e eu ev same a rest = rw (ev, eu, e) refl
  filter_by p k x ks Less false true e eu ev same a rest = rw (ev, eu) (sym (goes_first k (filter p ks) (above_kept p k ks (all_above k x ks e a))))
  filter_by p k x ks Less true false e eu ev same a rest = rw (ev, eu) refl
  filter_by p k x ks Less false false e eu ev same a rest = rw (ev, eu) refl
  filter_by p k x ks Equal true true e eu ev same a rest = rw (eu, e) refl
  filter_by p k x ks Equal false true e eu ev same a rest = let no = same refl in cc
  filter_by p k x ks Equal true false e eu ev same a rest = let no = same refl in cc
  filter_by p k x ks Equal false false e eu ev same a rest = rw eu refl
  filter_by p k x ks Greater true true e eu ev same a rest = rw (eu, e) (ap (λ (xs : List K). x ∷ xs) rest)
  filter_by p k x ks Greater true false e eu ev same a rest = rw eu (ap (λ (xs : List K). x ∷ xs) rest)
  filter_by p k x ks Greater false v e eu ev same a rest = rw eu rest

  filter_insert : (p : K → Bool) → ((k x : K) → cmp k x ≡ Equal → p x ≡ p k) → (k : K) (ks : List K) → AreRising cmp ks
      → filter p (insert_key cmp ks k) ≡ cond (p k) (insert_key cmp (filter p ks) k) (filter p ks)
  filter_insert p same k [] a = refl
  filter_insert p same k (x ∷ ks) a = filter_by p k x ks (cmp k x) (p x) (p k) refl refl refl (λ e. same k x e) a.0 (filter_insert p same k ks a.1)

  filter_fold : (p : K → Bool) → ((k x : K) → cmp k x ≡ Equal → p x ≡ p k) → (acc ks : List K) → AreRising cmp acc
      → filter p (fold (insert_key cmp) acc ks) ≡ fold (insert_key cmp) (filter p acc) (filter p ks)
  filter_fold p same acc [] a = refl
  filter_fold p same acc (k ∷ ks) a =
      filter_fold p same (insert_key cmp acc k) ks (rising_insert acc k a)
      ∙ ap (λ (xs : List K). fold (insert_key cmp) xs (filter p ks)) (filter_insert p same k acc a)
      ∙ elim (p k) as (λ t. fold (insert_key cmp) (cond t (insert_key cmp (filter p acc) k) (filter p acc)) (filter p ks) ≡ fold (insert_key cmp) (filter p acc) (cond t (k ∷ filter p ks) (filter p ks))) [
        | true ↦ refl
        | false ↦ refl
      ]

  -- the keys that pass a test, put in order, are those that pass among the ordered ones
  pub filter_order : (p : K → Bool) → ((k x : K) → cmp k x ≡ Equal → p x ≡ p k) → (ks : List K) → filter p (in_order cmp ks) ≡ in_order cmp (filter p ks)
  filter_order p same ks = filter_fold p same [] ks tt

  -- another key than this one
  abbrev pub other_than : K → K → Bool
  other_than k x = not (is_at (cmp k) x)

  all_other : (k x : K) (ks : List K) → cmp k x ≡ Equal → AllByRecursion (λ y. cmp x y ≡ Less) ks → filter (other_than k) ks ≡ ks
  all_other k x [] e all = refl
  all_other k x (y ∷ ks) e all =
      let less : cmp k y ≡ Less = o.congr k x y e ∙ all.0 in
      ap (λ (r : Ordering). cond (not (is_eq r)) (y ∷ filter (other_than k) ks) (filter (other_than k) ks)) less
      ∙ ap (λ (rest : List K). y ∷ rest) (all_other k x ks e all.1)

  removed_by : (k x : K) (ks : List K) (b : Bool) → is_at (cmp k) x ≡ b → AllByRecursion (λ y. cmp x y ≡ Less) ks
      → remove_key (is_at (cmp k)) ks ≡ filter (other_than k) ks
      → cond b ks (x ∷ remove_key (is_at (cmp k)) ks) ≡ cond (not b) (x ∷ filter (other_than k) ks) (filter (other_than k) ks)
  removed_by k x ks true e all rest = sym (all_other k x ks ((Equal-is (cmp k x)).0 e) all)
  removed_by k x ks false e all rest = ap (λ (xs : List K). x ∷ xs) rest

  removed : (k : K) (ks : List K) → AreRising cmp ks → remove_key (is_at (cmp k)) ks ≡ filter (other_than k) ks
  removed k [] a = refl
  removed k (x ∷ ks) a = removed_by k x ks (is_at (cmp k) x) refl a.0 (removed k ks a.1)

  -- to remove a key is to keep the others
  pub order_less : (k : K) (ks : List K) → remove_key (is_at (cmp k)) (in_order cmp ks) ≡ in_order cmp (filter (other_than k) ks)
  order_less k ks =
      removed k (in_order cmp ks) (order_rises ks)
      ∙ filter_order (other_than k) (λ a x e. ap (λ (r : Ordering). not (is_eq r)) (sym (alike_right o a x k e))) ks

  taken_by : (k x : K) (ks : List K) (r : Ordering) → cmp k x ≡ r → is_eq r ≡ false → remove_key (is_at (cmp k)) (insert_key cmp ks k) ≡ ks
      → remove_key (is_at (cmp k)) (match_ordering r (k ∷ x ∷ ks) (x ∷ ks) (x ∷ insert_key cmp ks k)) ≡ x ∷ ks
  taken_by k x ks Less e n rest = ap (λ (r : Ordering). cond (is_eq r) (x ∷ ks) (k ∷ remove_key (is_at (cmp k)) (x ∷ ks))) (tied_itself o k)
  taken_by k x ks Equal e n rest = cc
  taken_by k x ks Greater e n rest =
      ap (λ (r : Ordering). cond (is_eq r) (insert_key cmp ks k) (x ∷ remove_key (is_at (cmp k)) (insert_key cmp ks k))) e
      ∙ ap (λ (xs : List K). x ∷ xs) rest

  neither : (a b : Bool) → (a || b) ≡ false → (a ≡ false) × (b ≡ false)
  neither true b h = cc
  neither false b h = (refl, h)

  -- a new key that is taken out again leaves the others
  pub taken_out : (k : K) (ks : List K) → list_any (is_at (cmp k)) ks ≡ false → remove_key (is_at (cmp k)) (insert_key cmp ks k) ≡ ks
  taken_out k [] n = ap (λ (r : Ordering). cond (is_eq r) [] (k ∷ [])) (tied_itself o k)
  taken_out k (x ∷ ks) n =
      let apart = neither (is_at (cmp k) x) (list_any (is_at (cmp k)) ks) n in
      taken_by k x ks (cmp k x) refl apart.0 (taken_out k ks apart.1)

  head_stays : (k : K) (acc ks : List K) → AllByRecursion (λ y. cmp k y ≡ Less) ks → fold (insert_key cmp) (k ∷ acc) ks ≡ k ∷ fold (insert_key cmp) acc ks
  head_stays k acc [] all = refl
  head_stays k acc (y ∷ ks) all =
      ap (λ (r : Ordering). fold (insert_key cmp) (match_ordering r (y ∷ k ∷ acc) (k ∷ acc) (k ∷ insert_key cmp acc y)) ks) (above k y all.0)
      ∙ head_stays k (insert_key cmp acc y) ks all.1

  -- keys that rise are in their order
  pub rising_stays : (ks : List K) → AreRising cmp ks → in_order cmp ks ≡ ks
  rising_stays [] a = refl
  rising_stays (k ∷ ks) a = head_stays k [] ks a.0 ∙ ap (λ (xs : List K). k ∷ xs) (rising_stays ks a.1)
