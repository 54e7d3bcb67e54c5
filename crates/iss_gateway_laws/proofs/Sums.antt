-- Sums over lists, and over lists whose elements belong together.
use Rattle.std.proofs.Common.{◌≡◌, ℤ, pos, ◌+ℤ◌, Bool, true, false, cond, ◌||◌, List, [], ◌∷◌, ◌++◌, map, filter, refl, sym, ap, ap₂, ◌∙◌, inl, inr, arith}
use Rattle.std.specs.Prelude.{Option, Some, None, find}
use Rattle.std.specs.List.{list_any}
use Rattle.std.proofs.lemmas.Int.{ints}
use Rattle.iss_model.proofs.Lists.{neither}
use Rattle.iss_state.proofs.docket.Lists.{Each, Lone}
use Rattle.iss_gateway_laws.specs.Accounts.{sum_over}
use Rattle.iss_gateway_laws.proofs.Lists.{Among}

pub sum_alike : {A : Type 0} (f g : A → ℤ) (xs : List A) → Each (λ x. f x ≡ g x) xs → sum_over f xs ≡ sum_over g xs
sum_alike f g [] h = refl
sum_alike f g (x ∷ xs) h = ap₂ (λ (a b : ℤ). a +ℤ b) h.0 (sum_alike f g xs h.1)

pub sum_mapped : {A B : Type 0} (worth : B → ℤ) (f : A → B) (xs : List A) → sum_over worth (map f xs) ≡ sum_over (λ x. worth (f x)) xs
sum_mapped worth f [] = refl
sum_mapped worth f (x ∷ xs) = ap (λ (z : ℤ). worth (f x) +ℤ z) (sum_mapped worth f xs)

pub sum_append : {A : Type 0} (worth : A → ℤ) (xs ys : List A) → sum_over worth (xs ++ ys) ≡ sum_over worth xs +ℤ sum_over worth ys
sum_append worth [] ys = none (sum_over worth ys)
  where
    none : (z : ℤ) → z ≡ pos 0 +ℤ z
    none z = omega (arith, ints)
sum_append worth (x ∷ xs) ys = ap (λ (z : ℤ). worth x +ℤ z) (sum_append worth xs ys) ∙ regroup (worth x) (sum_over worth xs) (sum_over worth ys)
  where
    regroup : (a b c : ℤ) → a +ℤ (b +ℤ c) ≡ (a +ℤ b) +ℤ c
    regroup a b c = omega (arith, ints)

pub sum_both : {A : Type 0} (f g : A → ℤ) (xs : List A) → sum_over (λ x. f x +ℤ g x) xs ≡ sum_over f xs +ℤ sum_over g xs
sum_both f g [] = refl
sum_both f g (x ∷ xs) = ap (λ (z : ℤ). (f x +ℤ g x) +ℤ z) (sum_both f g xs) ∙ shuffled (f x) (g x) (sum_over f xs) (sum_over g xs)
  where
    shuffled : (a b c d : ℤ) → (a +ℤ b) +ℤ (c +ℤ d) ≡ (a +ℤ c) +ℤ (b +ℤ d)
    shuffled a b c d = omega (arith, ints)

-- a filter takes what fails out of a sum
pub sum_filtered : {A : Type 0} (p : A → Bool) (f : A → ℤ) (xs : List A) → sum_over f (filter p xs) ≡ sum_over (λ x. cond (p x) (f x) (pos 0)) xs
sum_filtered p f [] = refl
sum_filtered {A} p f (x ∷ xs) = by (p x) (sum_filtered p f xs)
  where
    none : (z w : ℤ) → z ≡ w → z ≡ pos 0 +ℤ w
    none z w e = omega (arith, ints, e)

    by : (b : Bool) → sum_over f (filter p xs) ≡ sum_over (λ (x : A). cond (p x) (f x) (pos 0)) xs
        → sum_over f (cond b (x ∷ filter p xs) (filter p xs)) ≡ cond b (f x) (pos 0) +ℤ sum_over (λ (x : A). cond (p x) (f x) (pos 0)) xs
    by true e = ap (λ (z : ℤ). f x +ℤ z) e
    by false e = none (sum_over f (filter p xs)) (sum_over (λ (x : A). cond (p x) (f x) (pos 0)) xs) e

-- one element ----

none_sum : {A : Type 0} (q : A → Bool) (v : ℤ) (w : A → ℤ) (xs : List A) → list_any q xs ≡ false → sum_over (λ x. cond (q x) v (w x)) xs ≡ sum_over w xs
none_sum q v w [] h = refl
none_sum q v w (x ∷ xs) h =
    let parts = neither (q x) (list_any q xs) h in
    ap₂ (λ (b : Bool) (z : ℤ). cond b v (w x) +ℤ z) parts.0 (none_sum q v w xs parts.1)

-- what one element is worth in place of nothing is added
pub lone_sum : {A : Type 0} (q : A → Bool) (v : ℤ) (w : A → ℤ) (xs : List A) → Lone q xs → list_any q xs ≡ true → ((x : A) → Among x xs → q x ≡ true → w x ≡ pos 0)
    → sum_over (λ x. cond (q x) v (w x)) xs ≡ v +ℤ sum_over w xs
lone_sum q v w [] lone any none = cc
lone_sum {A} q v w (x ∷ xs) lone any none = by (q x) refl (λ h. lone_sum q v w xs lone.1 h (λ y among e. none y (inr among) e)) any
  where
    here : (v wx rest : ℤ) → wx ≡ pos 0 → v +ℤ rest ≡ v +ℤ (wx +ℤ rest)
    here v wx rest e = omega (arith, ints, e)

    later : (v wx rest sum : ℤ) → sum ≡ v +ℤ rest → wx +ℤ sum ≡ v +ℤ (wx +ℤ rest)
    later v wx rest sum e = omega (arith, ints, e)

    by : (b : Bool) → q x ≡ b → (list_any q xs ≡ true → sum_over (λ (x : A). cond (q x) v (w x)) xs ≡ v +ℤ sum_over w xs) → (b || list_any q xs) ≡ true
        → cond b v (w x) +ℤ sum_over (λ (x : A). cond (q x) v (w x)) xs ≡ v +ℤ (w x +ℤ sum_over w xs)
    by true e rest any = ap (λ (z : ℤ). v +ℤ z) (none_sum q v w xs (lone.0 e)) ∙ here v (w x) (sum_over w xs) (none x (inl refl) e)
    by false e rest any = later v (w x) (sum_over w xs) (sum_over (λ (x : A). cond (q x) v (w x)) xs) (rest any)

-- elements that belong together ----

-- what is found is worth so much
abbrev pub worth_of : {P : Type 0} → (P → ℤ) → Option P → ℤ
worth_of v None = pos 0
worth_of v (Some p) = v p

-- an element belongs to one of a list alone
pub record BelongsTo {P A : Type 0} (same : P → A → Bool) (xs : List A) (p : P) : Type 0 where
  pub lone : Lone (same p) xs
  pub there : list_any (same p) xs ≡ true

-- no two elements belong to one
abbrev pub AreApart : {P A : Type 0} → (P → A → Bool) → List P → Type 0
AreApart {P} {A} same [] = Unit {0}
AreApart {P} {A} same (p ∷ ps) = ((x : A) → same p x ≡ true → list_any (λ q. same q x) ps ≡ false) × AreApart same ps

pub none_there : {A : Type 0} (p : A → Bool) (xs : List A) → list_any p xs ≡ false → find p xs ≡ None
none_there p [] h = refl
none_there p (x ∷ xs) h =
    let parts = neither (p x) (list_any p xs) h in
    ap (λ (b : Bool). cond b (Some x) (find p xs)) parts.0 ∙ none_there p xs parts.1

pub matched_sum : {P A : Type 0} (v : P → ℤ) (same : P → A → Bool) (ps : List P) (xs : List A) → Each (BelongsTo same xs) ps → AreApart same ps
    → sum_over v ps ≡ sum_over (λ x. worth_of v (find (λ p. same p x) ps)) xs
matched_sum {P} {A} v same [] xs belong apart = sym (nothing xs)
  where
    nothing : (xs : List A) → sum_over (λ (x : A). pos 0) xs ≡ pos 0
    nothing [] = refl
    nothing (x ∷ xs) = ap (λ (z : ℤ). pos 0 +ℤ z) (nothing xs)
matched_sum {P} {A} v same (p ∷ ps) xs belong apart =
    ap (λ (z : ℤ). v p +ℤ z) (matched_sum v same ps xs belong.1 apart.1)
    ∙ sym (lone_sum (same p) (v p) (λ (x : A). worth_of v (find (λ (p : P). same p x) ps)) xs belong.0.lone belong.0.there
    (λ x among e. ap (worth_of v) (none_there (λ (q : P). same q x) ps (apart.0 x e))))
    ∙ sum_alike (λ (x : A). cond (same p x) (v p) (worth_of v (find (λ (q : P). same q x) ps))) (λ (x : A). worth_of v (find (λ (q : P). same q x) (p ∷ ps))) xs (all xs)
  where
    one : (b : Bool) (rest : Option P) → cond b (v p) (worth_of v rest) ≡ worth_of v (cond b (Some p) rest)
    one true rest = refl
    one false rest = refl

    all : (xs : List A) → Each (λ (x : A). cond (same p x) (v p) (worth_of v (find (λ (q : P). same q x) ps)) ≡ worth_of v (find (λ (q : P). same q x) (p ∷ ps))) xs
    all [] = tt
    all (x ∷ xs) = (one (same p x) (find (λ (q : P). same q x) ps), all xs)
