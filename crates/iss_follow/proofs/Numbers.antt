-- Words of another number than three and four are no command.
use Rattle.std.proofs.Common.{◌≡◌, ℕ, ◌<◌, ◌≤◌, List, [], ◌∷◌, length, map, None, refl, arith}
use Rattle.iss_follow.specs.Words.{command_of_words}

module _ {A : Type 0} (f : A → List ℕ) where
  pub few : (ws : List A) → length ws < 3 → None ≡ command_of_words (map f ws)
  unfolding command_of_words
  few [] low = refl
  few (a ∷ []) low = refl
  few (a ∷ b ∷ []) low = refl
  few (a ∷ b ∷ c ∷ ws) low = absurd (omega (arith, low))

  pub many : (ws : List A) → 5 ≤ length ws → None ≡ command_of_words (map f ws)
  unfolding command_of_words
  many [] low = absurd (omega (arith, low))
  many (a ∷ []) low = absurd (omega (arith, low))
  many (a ∷ b ∷ []) low = absurd (omega (arith, low))
  many (a ∷ b ∷ c ∷ []) low = absurd (omega (arith, low))
  many (a ∷ b ∷ c ∷ d ∷ []) low = absurd (omega (arith, low))
  many (a ∷ b ∷ c ∷ d ∷ e ∷ ws) low = refl
