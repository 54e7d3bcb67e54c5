-- Words of another number than four ask for no statement.
use Rattle.std.proofs.Common.{◌≡◌, ℕ, ◌<◌, ◌≤◌, List, [], ◌∷◌, length, map, None, refl, arith}
use Rattle.iss_statement.specs.Words.{asked_of_words}

module _ {A : Type 0} (f : A → List ℕ) where
  pub fewer : (ws : List A) → length ws < 4 → None ≡ asked_of_words (map f ws)
  unfolding asked_of_words
  fewer [] few = refl
  fewer (a ∷ []) few = refl
  fewer (a ∷ b ∷ []) few = refl
  fewer (a ∷ b ∷ c ∷ []) few = refl
  fewer (a ∷ b ∷ c ∷ d ∷ ws) few = absurd (omega (arith, few))

  pub five_or_more : (ws : List A) → 5 ≤ length ws → None ≡ asked_of_words (map f ws)
  unfolding asked_of_words
  five_or_more [] many = absurd (omega (arith, many))
  five_or_more (a ∷ []) many = absurd (omega (arith, many))
  five_or_more (a ∷ b ∷ []) many = absurd (omega (arith, many))
  five_or_more (a ∷ b ∷ c ∷ []) many = absurd (omega (arith, many))
  five_or_more (a ∷ b ∷ c ∷ d ∷ []) many = absurd (omega (arith, many))
  five_or_more (a ∷ b ∷ c ∷ d ∷ e ∷ ws) many = refl
