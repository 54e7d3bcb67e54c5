-- A list in the order of numbers.
use Rattle.std.specs.Prelude.{ℕ, List, [], ◌∷◌, nat_le, if◌then◌else◌}

module _ {X : Type 0} (number : X → ℕ) where
  -- the list with this one before the first that has no lower number
  abbrev pub put_in_order : X → List X → List X
  put_in_order x [] = x ∷ []
  put_in_order x (y ∷ ys) = if nat_le (number x) (number y) then x ∷ y ∷ ys else y ∷ put_in_order x ys

  -- the list in the order of its numbers
  abbrev pub in_order : List X → List X
  in_order [] = []
  in_order (x ∷ xs) = put_in_order x (in_order xs)
