-- Where names stand in a list.
use Rattle.std.specs.Prelude.{◌≡◌, IfSome, find, ℕ, suc, List, [], ◌∷◌, map, Option, Some, None, option_map, if◌then◌else◌}
use Rattle.std.specs.Str.{bytes_eq}

-- the place of a name, counted from 0
abbrev pub place_of : List ℕ → List (List ℕ) → Option ℕ
place_of name [] = None
place_of name (n ∷ ns) = if bytes_eq name n then Some 0 else option_map (λ i. suc i) (place_of name ns)

-- a list with this change of each thing of a name
abbrev pub changed_at : {A : Type 0} → (A → List ℕ) → List ℕ → (A → A) → List A → List A
changed_at name_of name change things = map (λ t. if bytes_eq name (name_of t) then change t else t) things

-- if there is a thing of this one's name, a change makes this one of it
abbrev pub MakesThis : {A : Type 0} → (A → List ℕ) → (A → A) → A → List A → Type 0
MakesThis name_of change thing things = IfSome (find (λ t. bytes_eq (name_of t) (name_of thing)) things) (λ t. change t ≡ thing)
