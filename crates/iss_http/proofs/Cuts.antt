-- Parts of lists, as far as there are elements.
use Rattle.std.proofs.Common.{◌≡◌, sym, ap, ◌∙◌, ℕ, ◌≤◌, ◌-◌, ◌++◌, List, length, take, drop, arith, inl, inr}
use Rattle.std.specs.Prelude.{min}
use Rattle.std.proofs.lemmas.Bool.{cases_lt}
use Rattle.std.proofs.lemmas.List.{take_all, drop_all}
use Rattle.std.proofs.Math.Seq.{take-append-add}

pub take_within : (n : ℕ) (xs : List ℕ) → take (min (length xs) n) xs ≡ take n xs
take_within n xs =
    elim (cases_lt n (length xs)) [
      | inl less ↦ ap (λ (k : ℕ). take k xs) (omega (arith, less))
      | inr most ↦ take_all (min (length xs) n) xs (omega (arith, most)) ∙ sym (take_all n xs most)
    ]

pub drop_within : (n : ℕ) (xs : List ℕ) → drop (min (length xs) n) xs ≡ drop n xs
drop_within n xs =
    elim (cases_lt n (length xs)) [
      | inl less ↦ ap (λ (k : ℕ). drop k xs) (omega (arith, less))
      | inr most ↦ drop_all (min (length xs) n) xs (omega (arith, most)) ∙ sym (drop_all n xs most)
    ]

pub kept_within : (most : ℕ) (xs ys : List ℕ) → length xs ≤ most → xs ++ take (min (length ys) (most - length xs)) ys ≡ take most (xs ++ ys)
kept_within most xs ys room =
    ap (λ (zs : List ℕ). xs ++ zs) (take_within (most - length xs) ys)
    ∙ sym (take-append-add xs ys (most - length xs))
    ∙ ap (λ (n : ℕ). take n (xs ++ ys)) (omega (arith, room))
