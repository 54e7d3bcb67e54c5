-- Things that are numbered one by one, as calls, notices and postings are.
use Rattle.std.specs.Prelude.{◌≡◌, ℕ, ◌+◌, List, [], ◌∷◌}

-- these things have the numbers from this one on, in their order
abbrev pub NumberedFrom : {A : Type 0} → (A → ℕ) → ℕ → List A → Type 0
NumberedFrom number n [] = Unit {0}
NumberedFrom number n (x ∷ xs) = (number x ≡ n) × NumberedFrom number (n + 1) xs
