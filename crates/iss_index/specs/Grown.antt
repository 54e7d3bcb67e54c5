-- Names that are added to, and what stands at their places.
use Rattle.std.specs.Prelude.{◌≡◌, ℕ, List, [], ◌∷◌, ◌++◌, Option, Some, None, slice_get, unwrap_or}
use Rattle.iss_index.specs.Places.{place_of}

-- the name at a place
abbrev pub name_in : List (List ℕ) → ℕ → List ℕ
name_in names place = unwrap_or (slice_get names place) []

-- names with this one after them, unless it has this place among them
abbrev added_unless : Option ℕ → List ℕ → List (List ℕ) → List (List ℕ)
added_unless None name names = names ++ name ∷ []
added_unless (Some place) name names = names

-- names with this one after them, unless it is among them
abbrev pub names_with : List ℕ → List (List ℕ) → List (List ℕ)
names_with name names = added_unless (place_of name names) name names

-- each name that stood stands at its place
pub record IsGrown (before after : List (List ℕ)) : Type 0 where
  pub stands : (place : ℕ) (name : List ℕ) → slice_get before place ≡ Some name → slice_get after place ≡ Some name
