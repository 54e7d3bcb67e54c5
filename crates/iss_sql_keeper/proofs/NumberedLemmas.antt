-- A list in the order of its numbers.
use Rattle.std.proofs.Common.{◌≡◌, ◌⊎◌, inl, inr, ℕ, ◌+◌, ◌<◌, ◌≤◌, ◌==◌, nat_le, Bool, true, false, cond, List, [], ◌∷◌, ◌++◌, filter, sum_by, IsPermutation, refl, sym, ap, append-nil, ◌∙◌, arith}
use Rattle.std.proofs.lemmas.Bool.Decides.{nat_tests}
use Rattle.std.specs.List.{AllByRecursion}
use Rattle.std.proofs.lemmas.List.{append_assoc}
use Rattle.std.proofs.lemmas.List.Sums.{sum_by-cons}
use Rattle.std.proofs.lemmas.List.Sorted.{All-permutation, IsPermutation-refl, IsPermutation-sym, IsPermutation-trans, IsPermutation-cons, IsPermutation-middle, sum_by-IsPermutation}
use Rattle.std.proofs.lemmas.List.Elements.{recursion_from_All, All-from_recursion}
use Rattle.iss_sql_keeper.specs.Numbered.{put_in_order, in_order}

le_from : (m n : ℕ) → nat_le m n ≡ true → m ≤ n
le_from m n e = grind (arith, nat_tests)

above_from : (m n : ℕ) → nat_le m n ≡ false → n ≤ m
above_from m n e = grind (arith, nat_tests)

equal_from : (m n : ℕ) → (m == n) ≡ true → m ≡ n
equal_from m n e = grind (arith, nat_tests)

le_is : (m n : ℕ) → m ≤ n → nat_le m n ≡ true
le_is m n e = grind (arith, nat_tests)

module _ {X : Type 0} (f : X → ℕ) where
  -- the numbers don't fall, the first from n on
  abbrev pub IsRising : ℕ → List X → Type 0
  IsRising n [] = Unit {0}
  IsRising n (x ∷ xs) = (n ≤ f x) × IsRising (f x) xs

  -- the numbers rise, the first from n on
  abbrev pub RiseFrom : ℕ → List X → Type 0
  RiseFrom n [] = Unit {0}
  RiseFrom n (x ∷ xs) = (n ≤ f x) × RiseFrom (f x + 1) xs

  -- no number is above n
  abbrev pub AllLow : ℕ → List X → Type 0
  AllLow n [] = Unit {0}
  AllLow n (x ∷ xs) = (f x ≤ n) × AllLow n xs

  -- the numbers are n and those after it
  abbrev pub IsFrom : ℕ → List X → Type 0
  IsFrom n [] = Unit {0}
  IsFrom n (x ∷ xs) = (f x ≡ n) × IsFrom (n + 1) xs

  -- ---- adding at the end

  put_before_last : (x r : X) (xs : List X) → f x ≤ f r → put_in_order f x (xs ++ r ∷ []) ≡ put_in_order f x xs ++ r ∷ []
  put_before_last x r [] le = rw (le_is (f x) (f r) le) refl
  put_before_last x r (y ∷ ys) le = by (put_before_last x r ys le) (nat_le (f x) (f y)) refl
    where
      by : put_in_order f x (ys ++ r ∷ []) ≡ put_in_order f x ys ++ r ∷ [] → (b : Bool) → nat_le (f x) (f y) ≡ b
          → put_in_order f x ((y ∷ ys) ++ r ∷ []) ≡ put_in_order f x (y ∷ ys) ++ r ∷ []
      by later true e = rw e refl
      by later false e = rw e (ap (λ (l : List X). y ∷ l) later)

  order_last : (xs : List X) (r : X) → AllLow (f r) xs → in_order f (xs ++ r ∷ []) ≡ in_order f xs ++ r ∷ []
  order_last [] r low = refl
  order_last (x ∷ xs) r low = ap (put_in_order f x) (order_last xs r low.1) ∙ put_before_last x r (in_order f xs) low.0

  low_push : (n m : ℕ) (xs : List X) (r : X) → n ≤ m → f r ≤ m → AllLow n xs → AllLow m (xs ++ r ∷ [])
  low_push n m [] r le last low = (last, tt)
  low_push n m (x ∷ xs) r le last low = (omega (arith, le, low.0), low_push n m xs r le last low.1)

  low_more : (n m : ℕ) (xs : List X) → n ≤ m → AllLow n xs → AllLow m xs
  low_more n m [] le low = tt
  low_more n m (x ∷ xs) le low = (omega (arith, le, low.0), low_more n m xs le low.1)

  -- what is numbered on from the last comes after the others
  pub order_append : (n : ℕ) (xs rows : List X) → AllLow n xs → IsFrom (n + 1) rows → in_order f (xs ++ rows) ≡ in_order f xs ++ rows
  order_append n xs [] low from = ap (in_order f) (append-nil xs) ∙ sym (append-nil (in_order f xs))
  order_append n xs (r ∷ rows) low from =
      let first : in_order f (xs ++ r ∷ []) ≡ in_order f xs ++ r ∷ [] = order_last xs r (low_more n (f r) xs (omega (arith, from.0)) low) in
      let rest : in_order f ((xs ++ r ∷ []) ++ rows) ≡ in_order f (xs ++ r ∷ []) ++ rows = order_append (n + 1) (xs ++ r ∷ []) rows (low_push n (n + 1) xs r (omega arith) (omega (arith, from.0)) low) from.1 in
      ap (in_order f) (sym (append_assoc xs (r ∷ []) rows)) ∙ rest ∙ ap (λ (l : List X). l ++ rows) first ∙ append_assoc (in_order f xs) (r ∷ []) rows

  -- ---- the order, and what has the same elements

  put_rises : (n : ℕ) (x : X) (xs : List X) → n ≤ f x → IsRising n xs → IsRising n (put_in_order f x xs)
  put_rises n x [] le h = (le, tt)
  put_rises n x (y ∷ ys) le h = by (λ under. put_rises (f y) x ys under h.1) (nat_le (f x) (f y)) refl
    where
      by : (f y ≤ f x → IsRising (f y) (put_in_order f x ys)) → (b : Bool) → nat_le (f x) (f y) ≡ b → IsRising n (put_in_order f x (y ∷ ys))
      by later true e = rw e (le, (le_from (f x) (f y) e, h.1))
      by later false e = rw e (h.0, later (above_from (f x) (f y) e))

  order_rises : (xs : List X) → IsRising 0 (in_order f xs)
  order_rises [] = tt
  order_rises (x ∷ xs) = put_rises 0 x (in_order f xs) (omega arith) (order_rises xs)

  put_permutes : (x : X) (xs : List X) → IsPermutation (x ∷ xs) (put_in_order f x xs)
  put_permutes x [] = IsPermutation-refl (x ∷ [])
  put_permutes x (y ∷ ys) = by (put_permutes x ys) (nat_le (f x) (f y)) refl
    where
      by : IsPermutation (x ∷ ys) (put_in_order f x ys) → (b : Bool) → nat_le (f x) (f y) ≡ b → IsPermutation (x ∷ y ∷ ys) (put_in_order f x (y ∷ ys))
      by later true e = rw e (IsPermutation-refl (x ∷ y ∷ ys))
      by later false e =
          rw e (IsPermutation-trans (x ∷ y ∷ ys) (y ∷ x ∷ ys) (y ∷ put_in_order f x ys) (IsPermutation-sym (y ∷ x ∷ ys) (x ∷ y ∷ ys) (IsPermutation-middle (y ∷ []) x ys))
          (IsPermutation-cons y (x ∷ ys) (put_in_order f x ys) later))

  order_permutes : (xs : List X) → IsPermutation xs (in_order f xs)
  order_permutes [] = IsPermutation-refl []
  order_permutes (x ∷ xs) = IsPermutation-trans (x ∷ xs) (x ∷ in_order f xs) (put_in_order f x (in_order f xs)) (IsPermutation-cons x xs (in_order f xs) (order_permutes xs)) (put_permutes x (in_order f xs))

  -- ---- what passes a test, in order

  rises_lower : (m n : ℕ) (xs : List X) → m ≤ n → IsRising n xs → IsRising m xs
  rises_lower m n [] le h = tt
  rises_lower m n (x ∷ xs) le h = (omega (arith, le, h.0), h.1)

  put_low : (x : X) (xs : List X) → IsRising (f x) xs → put_in_order f x xs ≡ x ∷ xs
  put_low x [] h = refl
  put_low x (y ∷ ys) h = rw (le_is (f x) (f y) h.0) refl

  module _ (p : X → Bool) where
    filter_rises : (n : ℕ) (xs : List X) → IsRising n xs → IsRising n (filter p xs)
    filter_rises n [] h = tt
    filter_rises n (x ∷ xs) h = by (filter_rises (f x) xs h.1) (p x) refl
      where
        by : IsRising (f x) (filter p xs) → (b : Bool) → p x ≡ b → IsRising n (filter p (x ∷ xs))
        by later true e = rw e (h.0, later)
        by later false e = rw e (rises_lower n (f x) (filter p xs) h.0 later)

    put_left : (x : X) (xs : List X) → p x ≡ false → filter p (put_in_order f x xs) ≡ filter p xs
    put_left x [] out = rw out refl
    put_left x (y ∷ ys) out = by (put_left x ys out) (nat_le (f x) (f y)) refl
      where
        by : filter p (put_in_order f x ys) ≡ filter p ys → (b : Bool) → nat_le (f x) (f y) ≡ b → filter p (put_in_order f x (y ∷ ys)) ≡ filter p (y ∷ ys)
        by later true e = rw (e, out) refl
        by later false e = rw e (ap (λ (l : List X). cond (p y) (y ∷ l) l) later)

    put_kept : (n : ℕ) (x : X) (xs : List X) → p x ≡ true → IsRising n xs → filter p (put_in_order f x xs) ≡ put_in_order f x (filter p xs)
    put_kept n x [] in_ h = rw in_ refl
    put_kept n x (y ∷ ys) in_ h = by (put_kept (f y) x ys in_ h.1) (nat_le (f x) (f y)) refl
      where
        rest : filter p (put_in_order f x ys) ≡ put_in_order f x (filter p ys) → nat_le (f x) (f y) ≡ false → (b : Bool) → p y ≡ b
            → cond b (y ∷ filter p (put_in_order f x ys)) (filter p (put_in_order f x ys)) ≡ put_in_order f x (cond b (y ∷ filter p ys) (filter p ys))
        rest later e true q = rw e (ap (λ (l : List X). y ∷ l) later)
        rest later e false q = later

        by : filter p (put_in_order f x ys) ≡ put_in_order f x (filter p ys) → (b : Bool) → nat_le (f x) (f y) ≡ b
            → filter p (put_in_order f x (y ∷ ys)) ≡ put_in_order f x (filter p (y ∷ ys))
        by later true e = rw (e, in_) (sym (put_low x (filter p (y ∷ ys)) (filter_rises (f x) (y ∷ ys) (le_from (f x) (f y) e, h.1))))
        by later false e =
            let all : filter p (put_in_order f x (y ∷ ys)) ≡ filter p (y ∷ put_in_order f x ys) = rw e refl in
            all ∙ rest later e (p y) refl

    pub order_filter : (xs : List X) → filter p (in_order f xs) ≡ in_order f (filter p xs)
    order_filter [] = refl
    order_filter (x ∷ xs) = by (order_filter xs) (p x) refl
      where
        by : filter p (in_order f xs) ≡ in_order f (filter p xs) → (b : Bool) → p x ≡ b → filter p (in_order f (x ∷ xs)) ≡ in_order f (filter p (x ∷ xs))
        by later true e =
            let all : in_order f (filter p (x ∷ xs)) ≡ put_in_order f x (in_order f (filter p xs)) = rw e refl in
            put_kept 0 x (in_order f xs) e (order_rises xs) ∙ ap (put_in_order f x) later ∙ sym all
        by later false e =
            let all : in_order f (filter p (x ∷ xs)) ≡ in_order f (filter p xs) = rw e refl in
            put_left x (in_order f xs) e ∙ later ∙ sym all

  -- ---- how many have a number

  weight : ℕ → X → ℕ
  weight k x = cond (f x == k) 1 0

  weight_own : (x : X) → weight (f x) x ≡ 1
  unfolding weight
  weight_own x = by (f x == f x) (grind (arith, nat_tests))
    where
      by : (b : Bool) → b ≡ true → ◌≡◌ {A = ℕ} (cond b 1 0) 1
      by b e = rw e refl

  weight_none : (k : ℕ) (x : X) → weight k x ≡ 0 → f x ≡ k → ⊥
  weight_none k x e same = omega (arith, e, weight_own x, ap (λ (n : ℕ). weight n x) same)

  weight_off : (k : ℕ) (x : X) → (f x == k) ≡ false → weight k x ≡ 0
  unfolding weight
  weight_off k x e = rw e refl

  weight_other : (k : ℕ) (x : X) → k < f x → weight k x ≡ 0
  weight_other k x lt = weight_off k x (grind (arith, nat_tests))

  weight_small : (k : ℕ) (x : X) → weight k x ≤ 1
  unfolding weight
  weight_small k x = by (f x == k)
    where
      by : (b : Bool) → cond b 1 0 ≤ 1
      by true = omega arith
      by false = omega arith

  many : ℕ → List X → ℕ
  many k xs = sum_by (weight k) xs

  many_cons : (k : ℕ) (x : X) (xs : List X) → many k (x ∷ xs) ≡ weight k x + many k xs
  unfolding many
  many_cons k x xs = sum_by-cons (weight k) x xs

  many_nil : (k : ℕ) → many k [] ≡ 0
  unfolding many
  many_nil k = refl

  many_none : (k n : ℕ) (xs : List X) → RiseFrom n xs → k < n → many k xs ≡ 0
  many_none k n [] h lt = many_nil k
  many_none k n (x ∷ xs) h lt = omega (arith, many_cons k x xs, weight_other k x (omega (arith, lt, h.0)), many_none k (f x + 1) xs h.1 (omega (arith, lt, h.0)))

  many_one : (k n : ℕ) (xs : List X) → RiseFrom n xs → many k xs ≤ 1
  many_one k n [] h = omega (arith, many_nil k)
  many_one k n (x ∷ xs) h = by (many_one k (f x + 1) xs h.1) (f x == k) refl
    where
      by : many k xs ≤ 1 → (b : Bool) → (f x == k) ≡ b → many k (x ∷ xs) ≤ 1
      by later true e =
          let same : f x ≡ k = equal_from (f x) k e in
          omega (arith, many_cons k x xs, weight_small k x, many_none k (f x + 1) xs h.1 (omega (arith, same)))
      by later false e = omega (arith, many_cons k x xs, weight_off k x e, later)

  strict_after : (n : ℕ) (xs : List X) → IsRising n xs → many n xs ≡ 0 → ((k : ℕ) → many k xs ≤ 1) → RiseFrom (n + 1) xs
  strict_after n [] h none one = tt
  strict_after n (x ∷ xs) h none one =
      let own : weight n x ≡ 0 = omega (arith, many_cons n x xs, none) in (
        apart n (f x) h.0 (weight_none n x own),
        strict_after (f x) xs h.1 (omega (arith, many_cons (f x) x xs, weight_own x, one (f x))) (λ k. omega (arith, many_cons k x xs, one k)),
      )
    where
      apart : (a b : ℕ) → a ≤ b → (b ≡ a → ⊥) → a + 1 ≤ b
      apart a b le other = grind arith

  strict : (n : ℕ) (xs : List X) → IsRising n xs → ((k : ℕ) → many k xs ≤ 1) → RiseFrom n xs
  strict n [] h one = tt
  strict n (x ∷ xs) h one = (h.0, strict_after (f x) xs h.1 (omega (arith, many_cons (f x) x xs, weight_own x, one (f x))) (λ k. omega (arith, many_cons k x xs, one k)))

  -- ---- two lists whose numbers rise are equal if they have the same elements

  abbrev IsOneOf : List X → X → Type 0
  IsOneOf [] x = ⊥
  IsOneOf (y ∷ ys) x = (x ≡ y) ⊎ IsOneOf ys x

  each_itself_in : (ys xs : List X) → ((z : X) → IsOneOf xs z → IsOneOf ys z) → AllByRecursion (IsOneOf ys) xs
  each_itself_in ys [] g = tt
  each_itself_in ys (x ∷ xs) g = (g x (inl refl), each_itself_in ys xs (λ z h. g z (inr h)))

  each_itself : (xs : List X) → AllByRecursion (IsOneOf xs) xs
  each_itself xs = each_itself_in xs xs (λ z h. h)

  above : (n : ℕ) (xs : List X) (z : X) → RiseFrom n xs → IsOneOf xs z → n ≤ f z
  above n [] z rise h = absurd h
  above n (x ∷ xs) z rise (inl e) = omega (arith, rise.0, ap f e)
  above n (x ∷ xs) z rise (inr later) = omega (arith, rise.0, above (f x + 1) xs z rise.1 later)

  without_first : (n : ℕ) (y : X) (ys xs : List X) → RiseFrom n xs → f y < n → AllByRecursion (IsOneOf (y ∷ ys)) xs → AllByRecursion (IsOneOf ys) xs
  without_first n y ys [] rise low h = tt
  without_first n y ys (x ∷ xs) rise low h = (
    elim h.0 [ inl e ↦ absurd (omega (arith, rise.0, low, ap f e)) | inr later ↦ later ],
    without_first (f x + 1) y ys xs rise.1 (omega (arith, rise.0, low)) h.1,
  )

  first_same : (n m : ℕ) (x y : X) (xs ys : List X) → RiseFrom n (x ∷ xs) → RiseFrom m (y ∷ ys) → IsOneOf (y ∷ ys) x → IsOneOf (x ∷ xs) y → x ≡ y
  first_same n m x y xs ys p q (inl e) h = e
  first_same n m x y xs ys p q (inr later) (inl e) = sym e
  first_same n m x y xs ys p q (inr later) (inr behind) = absurd (omega (arith, above (f y + 1) ys x q.1 later, above (f x + 1) xs y p.1 behind))

  same_rising : (n m : ℕ) (xs ys : List X) → RiseFrom n xs → RiseFrom m ys → AllByRecursion (IsOneOf ys) xs → AllByRecursion (IsOneOf xs) ys → xs ≡ ys
  same_rising n m [] [] p q a b = refl
  same_rising n m [] (y ∷ ys) p q a b = absurd b.0
  same_rising n m (x ∷ xs) [] p q a b = absurd a.0
  same_rising n m (x ∷ xs) (y ∷ ys) p q a b =
      let first : x ≡ y = first_same n m x y xs ys p q a.0 b.0 in
      let number : f x ≡ f y = ap f first in
      let rest = same_rising (f x + 1) (f y + 1) xs ys p.1 q.1 (without_first (f x + 1) y ys xs p.1 (omega (arith, number)) a.1) (without_first (f y + 1) x xs ys q.1 (omega (arith, number)) b.1) in
      λ i. first i ∷ rest i

  permutation_rising : (n m : ℕ) (xs ys : List X) → RiseFrom n xs → RiseFrom m ys → IsPermutation xs ys → xs ≡ ys
  permutation_rising n m xs ys p q same =
      same_rising n m xs ys p q
      (recursion_from_All (IsOneOf ys) xs (All-permutation (IsOneOf ys) ys xs (IsPermutation-sym xs ys same) (All-from_recursion (IsOneOf ys) ys (each_itself ys))))
      (recursion_from_All (IsOneOf xs) ys (All-permutation (IsOneOf xs) xs ys same (All-from_recursion (IsOneOf xs) xs (each_itself xs))))

  sum_as : (k : ℕ) (zs ys : List X) → IsPermutation ys zs → many k zs ≡ many k ys
  unfolding many
  sum_as k zs ys h = sum_by-IsPermutation (weight k) ys zs h

  -- a permutation whose numbers rise is the list in order
  pub rising_is_order : (n : ℕ) (xs ys : List X) → RiseFrom n ys → IsPermutation xs ys → ys ≡ in_order f xs
  rising_is_order n xs ys rise same =
      let both : IsPermutation ys (in_order f xs) = IsPermutation-trans ys xs (in_order f xs) (IsPermutation-sym xs ys same) (order_permutes xs) in
      permutation_rising n 0 ys (in_order f xs) rise (strict 0 (in_order f xs) (order_rises xs) (λ k. omega (arith, sum_as k (in_order f xs) ys both, many_one k n ys rise))) both
