-- Words of another number than four ask for nothing.
use Rattle.std.proofs.Common.{◌≡◌, ℕ, ◌<◌, ◌≤◌, List, [], ◌∷◌, length, map, None, refl, arith}
use Rattle.iss_gateway_serve.specs.Words.{service_of_words}

module _ {A : Type 0} (f : A → List ℕ) where
  pub few : (ws : List A) → length ws < 4 → None ≡ service_of_words (map f ws)
  unfolding service_of_words
  few [] low = refl
  few (a ∷ []) low = refl
  few (a ∷ b ∷ []) low = refl
  few (a ∷ b ∷ c ∷ []) low = refl
  few (a ∷ b ∷ c ∷ d ∷ ws) low = absurd (omega (arith, low))

  pub many : (ws : List A) → 5 ≤ length ws → None ≡ service_of_words (map f ws)
  unfolding service_of_words
  many [] low = absurd (omega (arith, low))
  many (a ∷ []) low = absurd (omega (arith, low))
  many (a ∷ b ∷ []) low = absurd (omega (arith, low))
  many (a ∷ b ∷ c ∷ []) low = absurd (omega (arith, low))
  many (a ∷ b ∷ c ∷ d ∷ []) low = absurd (omega (arith, low))
  many (a ∷ b ∷ c ∷ d ∷ e ∷ ws) low = refl
