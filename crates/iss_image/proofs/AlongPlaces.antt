-- Going along lists by places: what stands at a place, and what comes after it.
use Rattle.std.proofs.Common.{◌≡◌, ℕ, zero, suc, ◌+◌, Bool, true, false, List, [], ◌∷◌, ◌++◌, take, drop, Some, refl, sym, ap, ◌∙◌, append_assoc, arith}
use Rattle.std.specs.List.{flat_map, slice_get}
use Rattle.std.specs.Str.{bytes_eq}
use Rattle.std.specs.Cmp.Lexicographic.{pointwise}
use Rattle.std.proofs.lemmas.Option.{same_Some}
use Rattle.std.proofs.lemmas.List.{append-nil}
use Rattle.std.proofs.lemmas.List.Concat.{flat_map-cons}
use Rattle.std.proofs.lemmas.Grind.{flat_map-append}

-- a list from a place on
from_place : {A : Type 0} (xs : List A) (i : ℕ) (x : A) → slice_get xs i ≡ Some x → drop i xs ≡ x ∷ drop (suc i) xs
from_place [] i x h = absurd cc
from_place (y ∷ ys) zero x h = ap (λ z. z ∷ ys) (same_Some y x h)
from_place (y ∷ ys) (suc i) x h = from_place ys i x h

-- a list up to a place
up_to_place : {A : Type 0} (xs : List A) (i : ℕ) (x : A) → slice_get xs i ≡ Some x → take (suc i) xs ≡ take i xs ++ x ∷ []
up_to_place [] i x h = absurd cc
up_to_place (y ∷ ys) zero x h = ap (λ z. z ∷ []) (same_Some y x h)
up_to_place (y ∷ ys) (suc i) x h = ap (λ zs. y ∷ zs) (up_to_place ys i x h)

-- what was put, with what is put next
pub put_next : {A : Type 0} (text : A → List ℕ) (old out more : List ℕ) (xs : List A) (i : ℕ) (x : A) → slice_get xs i ≡ Some x
    → out ≡ old ++ flat_map text (take i xs) → more ≡ out ++ text x → more ≡ old ++ flat_map text (take (i + 1) xs)
put_next text old out more xs i x h so_far e =
    let next : suc i ≡ i + 1 = omega arith in
    let one : flat_map text (x ∷ []) ≡ text x = flat_map-cons text x [] ∙ append-nil (text x) in
    let all : flat_map text (take (i + 1) xs) ≡ flat_map text (take i xs) ++ text x =
    ap (λ k. flat_map text (take k xs)) (sym next) ∙ ap (flat_map text) (up_to_place xs i x h) ∙ flat_map-append text (take i xs) (x ∷ [])
    ∙ ap (λ t. flat_map text (take i xs) ++ t) one in
    e ∙ ap (λ o. o ++ text x) so_far ∙ append_assoc old (flat_map text (take i xs)) (text x) ∙ ap (λ t. old ++ t) (sym all)

-- names compared place by place
module _ (xs ys : List (List ℕ)) (i : ℕ) (x y : List ℕ) (here : slice_get xs i ≡ Some x) (there : slice_get ys i ≡ Some y) (whole : Bool)
    (so_far : pointwise bytes_eq (drop i xs) (drop i ys) ≡ whole) where
  pub differ : bytes_eq x y ≡ false → false ≡ whole
  differ e =
      let one : pointwise bytes_eq (drop i xs) (drop i ys) ≡ false = rw (from_place xs i x here, from_place ys i y there, e) refl in
      sym one ∙ so_far

  pub agree : bytes_eq x y ≡ true → pointwise bytes_eq (drop (i + 1) xs) (drop (i + 1) ys) ≡ whole
  agree e =
      let next : suc i ≡ i + 1 = omega arith in
      let one : pointwise bytes_eq (drop i xs) (drop i ys) ≡ pointwise bytes_eq (drop (suc i) xs) (drop (suc i) ys) =
      rw (from_place xs i x here, from_place ys i y there, e) refl in
      ap (λ k. pointwise bytes_eq (drop k xs) (drop k ys)) (sym next) ∙ sym one ∙ so_far
