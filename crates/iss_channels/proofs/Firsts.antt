-- The first place of a key, by a range of keys with their places.
use Rattle.std.proofs.Common.{◌≡◌, ℕ, ◌<◌, ◌≤◌, ◌^◌, nat_lt, ◌==◌, Bool, true, false, cond, List, [], ◌∷◌, refl, sym, ap, ◌∙◌, true≢false, subst, ◌-◌, arith}
use Rattle.std.proofs.lemmas.Bool.Decides.{nat_tests}
use Rattle.std.specs.List.{list_any}
use Rattle.std.specs.declared.cmp.Ordering.{Ordering}
use Rattle.std.specs.declared.cmp.Ordering.TheVariants.{Less, Equal, Greater}
use Rattle.std.specs.declared.ops.Bound.TheVariants.{Included}
use Rattle.std.specs.Ordering.{nat_cmp, ordering_then, ordering_reverse, is_eq, is_gt}
use Rattle.std.specs.Cmp.{IsTotalOrder, tied_itself, tied_back}
use Rattle.std.specs.BTreeSet.{BTreeSet, IsKeyRangeOf}
use Rattle.iss_channels.specs.Places.{by_place, has, IsFirst}

-- ---- numbers

within : (n m : ℕ) → n ≤ m → is_gt (nat_cmp n m) ≡ false
within n m h = by_tests (nat_lt n m) (n == m) (either n m h)
  where
    either : (n m : ℕ) → n ≤ m → nat_lt n m ≡ false → (n == m) ≡ true
    either n m h e = grind (arith, nat_tests)

    by_tests : (l q : Bool) → (l ≡ false → q ≡ true) → is_gt (cond l Less (cond q Equal Greater)) ≡ false
    by_tests true q h = refl
    by_tests false q h = ap (λ (b : Bool). is_gt (cond b Equal Greater)) (h refl)

not_above : (n m : ℕ) → is_gt (nat_cmp n m) ≡ false → n ≤ m
not_above n m e = by_tests (nat_lt n m) (n == m) refl refl e
  where
    by_less : (n m : ℕ) → nat_lt n m ≡ true → n ≤ m
    by_less n m h = grind (arith, nat_tests)

    by_same : (n m : ℕ) → (n == m) ≡ true → n ≤ m
    by_same n m h = grind (arith, nat_tests)

    by_tests : (l q : Bool) → nat_lt n m ≡ l → (n == m) ≡ q → is_gt (cond (nat_lt n m) Less (cond (n == m) Equal Greater)) ≡ false → n ≤ m
    by_tests true q h k e = by_less n m h
    by_tests false true h k e = by_same n m k
    by_tests false false h k e =
        absurd (true≢false (sym (ap (λ (b : Bool). is_gt (cond b Less (cond (n == m) Equal Greater))) h ∙ ap (λ (b : Bool). is_gt (cond b Equal Greater)) k) ∙ e))

-- ---- keys

module _ {K : Type 0} (order : K → K → Ordering) (o : IsTotalOrder order) where
  first_not : (r s : Ordering) → is_gt (ordering_then r s) ≡ false → is_gt r ≡ false
  first_not Less s e = refl
  first_not Equal s e = refl
  first_not Greater s e = e

  tied_by : (r q : Ordering) → r ≡ ordering_reverse q → is_gt r ≡ false → is_gt q ≡ false → r ≡ Equal
  tied_by Less Less e a b = absurd (less_greater e)
    where
      less_greater : Less ≡ Greater → ⊥
      less_greater e = cc
  tied_by Less Equal e a b = e
  tied_by Less Greater e a b = absurd (true≢false b)
  tied_by Equal q e a b = refl
  tied_by Greater q e a b = absurd (true≢false a)

  -- a key between the least and the greatest place of a key is that key
  tied : (key k : K) (s t : Ordering) → is_gt (ordering_then (order key k) s) ≡ false → is_gt (ordering_then (order k key) t) ≡ false → order key k ≡ Equal
  tied key k s t low high =
      tied_by (order key k) (order k key) (o.antisymm key k) (first_not (order key k) s low) (first_not (order k key) t high)

  -- each place of a key is between them
  same_key : (key : K) (n m : ℕ) → n ≤ m → is_gt (by_place order (key, n) (key, m)) ≡ false
  same_key key n m h = ap (λ (r : Ordering). is_gt (ordering_then r (nat_cmp n m))) (tied_itself o key) ∙ within n m h

  module _ (s : BTreeSet (K × ℕ)) (key : K) (low high : K × ℕ) (result : List (K × ℕ)) (at_low : low ≡ (key, 0)) (at_high : high ≡ (key, 2 ^ 64 - 1))
      (range : IsKeyRangeOf (by_place order) (Included low) (Included high) s result) where
    from_low : (n : ℕ) → is_gt (by_place order low (key, n)) ≡ false
    from_low n = ap (λ (k : K × ℕ). is_gt (by_place order k (key, n))) at_low ∙ same_key key 0 n (omega arith)

    to_high : (n : ℕ) → n < 2 ^ 64 → is_gt (by_place order (key, n) high) ≡ false
    to_high n less = ap (λ (k : K × ℕ). is_gt (by_place order (key, n) k)) at_high ∙ same_key key n (2 ^ 64 - 1) (omega (arith, less))

    -- if the range is empty a key has no place
    pub no_first : result ≡ [] → (n : ℕ) → n < 2 ^ 64 → has order s.keys key n ≡ false
    no_first none n less = range.5 none (key, n) (from_low n, to_high n less)

  module _ (s : BTreeSet (K × ℕ)) (key : K) (low high found : K × ℕ) (rest result : List (K × ℕ)) (at_low : low ≡ (key, 0)) (at_high : high ≡ (key, 2 ^ 64 - 1)) (is : result ≡ found ∷ rest)
      (range : IsKeyRangeOf (by_place order) (Included low) (Included high) s result) where
    parts : IsKeyRangeOf (by_place order) (Included low) (Included high) s (found ∷ rest)
    parts = subst (IsKeyRangeOf (by_place order) (Included low) (Included high) s) is range

    own : order key found.0 ≡ Equal
    own =
        tied key found.0 (nat_cmp 0 found.1) (nat_cmp found.1 (2 ^ 64 - 1))
        (sym (ap (λ (k : K × ℕ). is_gt (by_place order k found)) at_low) ∙ parts.1.0.0)
        (sym (ap (λ (k : K × ℕ). is_gt (by_place order found k)) at_high) ∙ parts.1.0.1)

    -- its first place is the range's first
    pub has_first : IsFirst order s.keys key found.1
    has_first =
        record {
          there = (λ i. list_any (λ q. is_eq (ordering_then (o.congr key found.0 q.0 own i) (nat_cmp found.1 q.1))) s.keys) ∙ parts.1.1;
          least =
              λ n less passed.
              not_above found.1 n
              (sym (ap (λ (r : Ordering). is_gt (ordering_then r (nat_cmp found.1 n))) (tied_back o key found.0 own))
              ∙ parts.2 (key, n) (from_low s key low high result at_low at_high range n, to_high s key low high result at_low at_high range n less) passed);
        }
