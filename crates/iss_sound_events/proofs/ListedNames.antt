-- Names that were added once each are those of the transactions that are listed.
use Rattle.std.proofs.Common.{◌≡◌, ◌∙◌, ℕ, suc, Bool, true, false, cond, List, [], ◌∷◌, ◌++◌, refl, sym, ap}
use Rattle.std.specs.Prelude.{◌||◌, Option, Some, None, is_some}
use Rattle.std.specs.Option.{option_map}
use Rattle.std.specs.Str.{bytes_eq}
use Rattle.iss_model.proofs.Names.{name-sym}
use Rattle.iss_index.specs.Places.{place_of}

abbrev first : Option ℕ
first = Some 0

still_some : (o : Option ℕ) → is_some (option_map (λ i. suc i) o) ≡ is_some o
still_some None = refl
still_some (Some i) = refl

-- a name is among these names and one more if it is among them or is that one
last_among : (x t : List ℕ) (ns : List (List ℕ)) → is_some (place_of x (ns ++ t ∷ [])) ≡ (is_some (place_of x ns) || bytes_eq t x)
last_among x t [] =
    elim (bytes_eq x t) as (λ b. is_some (cond b first None) ≡ b) [ true ↦ refl | false ↦ refl ] ∙ name-sym x t
last_among x t (n ∷ ns) =
    elim (bytes_eq x n) as (λ b. is_some (cond b first (option_map (λ i. suc i) (place_of x (ns ++ t ∷ []))))
    ≡ (is_some (cond b first (option_map (λ i. suc i) (place_of x ns))) || bytes_eq t x)) [
      | true ↦ refl
      | false ↦
          still_some (place_of x (ns ++ t ∷ []))
          ∙ last_among x t ns
          ∙ ap (λ (b : Bool). b || bytes_eq t x) (sym (still_some (place_of x ns)))
    ]

-- a name that was added is among the names, and no other is new among them
pub added_once : (before after : List (List ℕ)) (name : List ℕ) → after ≡ before ++ name ∷ [] → (token : List ℕ)
    → is_some (place_of token after) ≡ (is_some (place_of token before) || bytes_eq name token)
added_once before after name is token = ap (λ (ns : List (List ℕ)). is_some (place_of token ns)) is ∙ last_among token name before
