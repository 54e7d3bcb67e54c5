-- A list whose things are changed one after the other, and sets by their names.
use Rattle.std.proofs.Common.{◌≡◌, ℕ, Bool, true, false, List, [], ◌∷◌, ◌++◌, map, take, drop, refl, sym, ap, ◌∙◌}
use Rattle.std.specs.Prelude.{Some, None, is_some, find, ◌||◌, if◌then◌else◌}
use Rattle.std.specs.List.{list_any}
use Rattle.std.specs.Str.{bytes_eq}
use Rattle.iss_model.specs.declared.setting.Set.{Set}
use Rattle.iss_model.specs.rules.Controls.{set_named}
use Rattle.iss_model.specs.state.Cores.{set_after_put, with_set}

-- what was changed so far, and the rest with the change
abbrev pub changed_from : {A : Type 0} → (A → A) → ℕ → List A → List A
changed_from f i xs = take i xs ++ map f (drop i xs)

found : {A : Type 0} (p : A → Bool) (xs : List A) → is_some (find p xs) ≡ list_any p xs
found p [] = refl
found p (x ∷ xs) = at (p x) (found p xs)
  where
    at : (b : Bool) → is_some (find p xs) ≡ list_any p xs → is_some (if b then Some x else find p xs) ≡ (b || list_any p xs)
    at true e = refl
    at false e = e

-- a set that is put takes over what may be replaced of the one of its name
pub with_known : (sets : List Set) (put s : Set) → Some s ≡ set_named put.name sets → map (set_after_put put) sets ≡ with_set sets put
with_known sets put s e =
    ap (λ (b : Bool). if b then map (set_after_put put) sets else sets ++ put ∷ [])
    (ap is_some e ∙ found (λ t. bytes_eq t.name put.name) sets)

-- a set of a new name that is put stands as the last one
pub with_new : (sets : List Set) (put : Set) → set_named put.name sets ≡ None → sets ++ put ∷ [] ≡ with_set sets put
with_new sets put e =
    ap (λ (b : Bool). if b then map (set_after_put put) sets else sets ++ put ∷ [])
    (sym (ap is_some e) ∙ found (λ t. bytes_eq t.name put.name) sets)
