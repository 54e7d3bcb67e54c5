-- Filters of rows, and tests of all of them.
use Rattle.std.proofs.Common.{◌≡◌, ◌⊎◌, inl, inr, ⊎_elim, Bool, true, false, not, ◌&&◌, cond, List, [], ◌∷◌, filter, refl, sym, ap, ◌∙◌}
use Rattle.std.specs.List.{list_all}

-- a test says yes or no
pub either : (b : Bool) → (b ≡ true) ⊎ (b ≡ false)
either true = inl refl
either false = inr refl

-- both halves of a test that says yes
pub both : (a b : Bool) → (a && b) ≡ true → (a ≡ true) × (b ≡ true)
both true true h = (refl, refl)
both true false h = (refl, h)
both false b h = absurd cc

pub join : (a b : Bool) → a ≡ true → b ≡ true → (a && b) ≡ true
join true true g h = refl
join true false g h = h
join false b g h = g

module _ {X : Type 0} (p : X → Bool) where
  pub kept : (x : X) (xs : List X) → p x ≡ true → filter p (x ∷ xs) ≡ x ∷ filter p xs
  kept x xs h = ap (λ (b : Bool). cond b (x ∷ filter p xs) (filter p xs)) h

  pub passed_over : (x : X) (xs : List X) → p x ≡ false → filter p (x ∷ xs) ≡ filter p xs
  passed_over x xs h = ap (λ (b : Bool). cond b (x ∷ filter p xs) (filter p xs)) h

  pub all_kept : (xs : List X) → list_all p xs ≡ true → filter p xs ≡ xs
  all_kept [] h = refl
  all_kept (x ∷ xs) h = let parts = both (p x) (list_all p xs) h in kept x xs parts.0 ∙ ap (λ (l : List X). x ∷ l) (all_kept xs parts.1)

  pub none_kept : (xs : List X) → list_all (λ x. not (p x)) xs ≡ true → filter p xs ≡ []
  none_kept [] h = refl
  none_kept (x ∷ xs) h =
      let parts = both (not (p x)) (list_all (λ x. not (p x)) xs) h in
      ⊎_elim (λ yes. let no : not true ≡ true = sym (ap not yes) ∙ parts.0 in absurd cc) (λ no. passed_over x xs no ∙ none_kept xs parts.1) (either (p x))

  -- what holds of all holds of those that pass another test
  pub all_of_filter : (q : X → Bool) (xs : List X) → list_all p xs ≡ true → list_all p (filter q xs) ≡ true
  all_of_filter q [] h = refl
  all_of_filter q (x ∷ xs) h =
      let parts = both (p x) (list_all p xs) h in
      let rest = all_of_filter q xs parts.1 in
      ⊎_elim
      (λ (yes : q x ≡ true). ap (λ (b : Bool). list_all p (cond b (x ∷ filter q xs) (filter q xs))) yes ∙ join (p x) (list_all p (filter q xs)) parts.0 rest)
      (λ (no : q x ≡ false). ap (λ (b : Bool). list_all p (cond b (x ∷ filter q xs) (filter q xs))) no ∙ rest)
      (either (q x))

  pub all_weaker : (q : X → Bool) → ((x : X) → p x ≡ true → q x ≡ true) → (xs : List X) → list_all p xs ≡ true → list_all q xs ≡ true
  all_weaker q f [] h = refl
  all_weaker q f (x ∷ xs) h = let parts = both (p x) (list_all p xs) h in join (q x) (list_all q xs) (f x parts.0) (all_weaker q f xs parts.1)

-- two filters in a row of which the second tests both
pub both_filters : {X : Type 0} (p q : X → Bool) (xs : List X) → list_all p xs ≡ true → filter (λ x. p x && q x) xs ≡ filter q xs
both_filters p q [] h = refl
both_filters p q (x ∷ xs) h =
    let parts = both (p x) (list_all p xs) h in
    ap (λ (b : Bool). cond (b && q x) (x ∷ filter (λ x. p x && q x) xs) (filter (λ x. p x && q x) xs)) parts.0
    ∙ ap (λ (l : List _). cond (q x) (x ∷ l) l) (both_filters p q xs parts.1)
