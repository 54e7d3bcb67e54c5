-- The levels at which a session's steps go out.
use Rattle.std.specs.Prelude.{◌≡◌, ℕ, ◌≤◌, true, List, [], ◌∷◌}
use Rattle.iss_edge.specs.Stretches.{Step, is_still}

-- levels that never fall, from one number of records up to another
abbrev pub LevelsRise : ℕ → ℕ → List Step → Type 0
LevelsRise low high [] = low ≤ high
LevelsRise low high (step ∷ steps) = (low ≤ step.level) × LevelsRise step.level high steps

-- each step is neither a write nor a sync, and goes out at this level
abbrev pub AreStillAt : ℕ → List Step → Type 0
AreStillAt level [] = Unit {0}
AreStillAt level (step ∷ steps) = (is_still step.action ≡ true) × (step.level ≡ level) × AreStillAt level steps
