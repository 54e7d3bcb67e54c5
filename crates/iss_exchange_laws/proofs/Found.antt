-- What is found in a list that grows, and amounts that are listed if a test holds.
use Rattle.std.proofs.Common.{◌≡◌, ℤ, pos, ◌+ℤ◌, ℕ, Bool, true, false, cond, ◌||◌, List, [], ◌∷◌, ◌++◌, refl, ap, ◌∙◌, arith}
use Rattle.std.specs.Prelude.{Option, Some, None, find}
use Rattle.std.specs.List.{filter_map, cons_option, list_any}
use Rattle.std.proofs.lemmas.Int.{ints}
use Rattle.iss_gateway.specs.Books as books
use Rattle.iss_gateway.specs.Books.{amount_or_none}
use Rattle.iss_gateway_laws.specs.Accounts.{sum_over}
use Rattle.iss_exchange_laws.specs.Gaps.{Amount, amount_if, sum_of}

-- what is found stays found
pub still_found : {A : Type 0} (p : A → Bool) (xs ys : List A) (x : A) → find p xs ≡ Some x → find p (xs ++ ys) ≡ Some x
still_found p [] ys x e = cc
still_found {A} p (z ∷ zs) ys x e = by (p z) (still_found p zs ys x) e
  where
    by : (b : Bool) → (find p zs ≡ Some x → find p (zs ++ ys) ≡ Some x) → cond b (Some z) (find p zs) ≡ Some x → cond b (Some z) (find p (zs ++ ys)) ≡ Some x
    by true rest e = e
    by false rest e = rest e

-- if nothing is found before, it is the last one that may be
pub last_found : {A : Type 0} (p : A → Bool) (xs : List A) (x : A) → find p xs ≡ None → find p (xs ++ x ∷ []) ≡ cond (p x) (Some x) None
last_found p [] x e = refl
last_found {A} p (z ∷ zs) x e = by (p z) (last_found p zs x) e
  where
    by : (b : Bool) → (find p zs ≡ None → find p (zs ++ x ∷ []) ≡ cond (p x) (Some x) None) → cond b (Some z) (find p zs) ≡ None → cond b (Some z) (find p (zs ++ x ∷ [])) ≡ cond (p x) (Some x) None
    by true rest e = cc
    by false rest e = rest e

-- the last one is there
pub any_last : {A : Type 0} (p : A → Bool) (xs : List A) (x : A) → p x ≡ true → list_any p (xs ++ x ∷ []) ≡ true
any_last p [] x h = ap (λ (b : Bool). b || false) h
any_last {A} p (z ∷ zs) x h = ap (λ (b : Bool). p z || b) (any_last p zs x h) ∙ either (p z)
  where
    either : (b : Bool) → (b || true) ≡ true
    either true = refl
    either false = refl

-- the sum of amounts that are listed if a test holds
pub sum_listed : {A : Type 0} (b : A → Bool) (n : A → ℕ) (o : A → Option ℕ) (xs : List A)
    → sum_of (filter_map (λ x. amount_if (b x) (n x) (o x)) xs) ≡ sum_over (λ x. cond (b x) (amount_or_none (o x)) (pos 0)) xs
sum_listed b n o [] = refl
sum_listed {A} b n o (x ∷ xs) = by (b x) (o x) (sum_listed b n o xs)
  where
    rest : List Amount
    rest = filter_map (λ (x : A). amount_if (b x) (n x) (o x)) xs

    last : ℤ
    last = sum_over (λ (x : A). cond (b x) (amount_or_none (o x)) (pos 0)) xs

    none : (z w : ℤ) → z ≡ w → z ≡ pos 0 +ℤ w
    none z w e = omega (arith, ints, e)

    by : (t : Bool) (amount : Option ℕ) → sum_of rest ≡ last → sum_of (cons_option (amount_if t (n x) amount) rest) ≡ cond t (amount_or_none amount) (pos 0) +ℤ last
    by true (Some m) e = ap (λ (z : ℤ). pos m +ℤ z) e
    by false (Some m) e = none (sum_of rest) last e
    by true None e = none (sum_of rest) last e
    by false None e = none (sum_of rest) last e

-- a gateway's sums are sums
pub same_sum : {A : Type 0} (worth : A → ℤ) (xs : List A) → books.sum_over worth xs ≡ sum_over worth xs
same_sum worth [] = refl
same_sum worth (x ∷ xs) = ap (λ (z : ℤ). worth x +ℤ z) (same_sum worth xs)
