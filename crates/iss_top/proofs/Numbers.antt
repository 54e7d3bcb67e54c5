-- Words of another number are no command.
use Rattle.std.proofs.Common.{◌≡◌, ℕ, ◌<◌, ◌≤◌, List, [], ◌∷◌, length, map, None, refl, arith}
use Rattle.iss_top.specs.Words.{command_of_words}

-- words of another number than 1, 2, 4 and 5 are no command
module _ {A : Type 0} (f : A → List ℕ) where
  pub three : (ws : List A) → 3 ≤ length ws → length ws < 4 → None ≡ command_of_words (map f ws)
  unfolding command_of_words
  three [] low high = absurd (omega (arith, low))
  three (a ∷ []) low high = absurd (omega (arith, low))
  three (a ∷ b ∷ []) low high = absurd (omega (arith, low))
  three (a ∷ b ∷ c ∷ []) low high = refl
  three (a ∷ b ∷ c ∷ d ∷ ws) low high = absurd (omega (arith, high))

  pub six_or_more : (ws : List A) → 6 ≤ length ws → None ≡ command_of_words (map f ws)
  unfolding command_of_words
  six_or_more [] low = absurd (omega (arith, low))
  six_or_more (a ∷ []) low = absurd (omega (arith, low))
  six_or_more (a ∷ b ∷ []) low = absurd (omega (arith, low))
  six_or_more (a ∷ b ∷ c ∷ []) low = absurd (omega (arith, low))
  six_or_more (a ∷ b ∷ c ∷ d ∷ []) low = absurd (omega (arith, low))
  six_or_more (a ∷ b ∷ c ∷ d ∷ e ∷ []) low = absurd (omega (arith, low))
  six_or_more (a ∷ b ∷ c ∷ d ∷ e ∷ f' ∷ ws) low = refl
