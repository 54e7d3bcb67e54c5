-- The first place at which a name stands is its place.
use Rattle.std.proofs.Common.{◌≡◌, ℕ, suc, ◌+◌, Bool, true, false, cond, List, [], ◌∷◌, Option, Some, None, refl, ap, ◌∙◌, arith}
use Rattle.std.specs.List.{position, position_from}
use Rattle.std.specs.Option.{option_map}
use Rattle.std.specs.Str.{bytes_eq}
use Rattle.std.proofs.lemmas.Iterator.Adapters.{position_from-zero}
use Rattle.iss_index.specs.Places.{place_of}

-- a place, if as many names are before the list
abbrev pub from : ℕ → Option ℕ → Option ℕ
from i place = option_map (λ k. i + k) place

from_next : (i : ℕ) (place : Option ℕ) → from (i + 1) place ≡ from i (option_map (λ k. suc k) place)
from_next i None = refl
from_next i (Some k) = ap (λ (n : ℕ). Some n) (omega arith)

from_none : (place : Option ℕ) → from 0 place ≡ place
from_none None = refl
from_none (Some k) = ap (λ (n : ℕ). Some n) (omega arith)

from_here : (i : ℕ) → Some i ≡ from i (Some 0)
from_here i = ap (λ (n : ℕ). Some n) (omega arith)

step : (b : Bool) (i : ℕ) (later place : Option ℕ) → later ≡ from (i + 1) place
    → cond b (Some i) later ≡ from i (cond b (Some 0) (option_map (λ k. suc k) place))
step true i later place e = from_here i
step false i later place e = e ∙ from_next i place

position_after : (name : List ℕ) (names : List (List ℕ)) (i : ℕ) → position_from (λ other. bytes_eq name other) i names ≡ from i (place_of name names)
position_after name [] i = refl
position_after name (n ∷ names) i =
    step (bytes_eq name n) i (position_from (λ other. bytes_eq name other) (i + 1) names) (place_of name names) (position_after name names (i + 1))

pub position_is : (name : List ℕ) (names : List (List ℕ)) → position (λ other. bytes_eq name other) names ≡ place_of name names
position_is name names =
    position_from-zero (λ other. bytes_eq name other) names ∙ position_after name names 0 ∙ from_none (place_of name names)
