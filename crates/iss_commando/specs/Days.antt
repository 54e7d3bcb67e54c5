-- The key of what stood in for a product's user on a day.
use Rattle.std.specs.Prelude.{ℕ, ℤ, List, ◌∷◌, ◌++◌}
use Rattle.iss_model.specs.Sums.{int_key}

-- a product's user on the day of this number
abbrev pub day_key : List ℕ → List ℕ → ℤ → List ℕ
day_key product user day = product ++ 0 ∷ user ++ 0 ∷ int_key day
