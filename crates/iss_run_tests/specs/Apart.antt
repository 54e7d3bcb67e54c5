-- Clients that come apart.
use Rattle.std.specs.Prelude.{◌≡◌, ℕ, List, ◌∷◌}
use Rattle.iss_edge.specs.declared.outside.Script.{Script}
use Rattle.iss_edge.specs.Memory.{are_to_come}

-- after these channels the item can come, and then the others are known
abbrev pub Admits : List ℕ → Script → List ℕ → Type 0
Admits known item now = (rest : List Script) → are_to_come known (item ∷ rest) ≡ are_to_come now rest
