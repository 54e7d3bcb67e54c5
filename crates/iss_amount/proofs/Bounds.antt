-- A number that is too great stays so.
use Rattle.std.proofs.Common.{◌≡◌, ℕ, ◌+◌, ◌-◌, ◌*◌, ◌<◌, Bool, true, false, List, [], ◌∷◌, Option, None, cond, refl, arith}
use Rattle.std.specs.List.{list_all}
use Rattle.std.proofs.lemmas.Bool.Decides.{nat_tests}
use Rattle.iss_model.specs.Amounts.{value_after, is_digit}
use Rattle.iss_amount.specs.Digits.{within, number_after}

above : (least most n : ℕ) → most < n → within least most n ≡ None
above least most n h = grind (arith, nat_tests)

value_above : (least most n : ℕ) (ds : List ℕ) → most < n → within least most (value_after n ds) ≡ None
value_above least most n [] h = above least most n h
value_above least most n (d ∷ ds) h = value_above least most (10 * n + (d - 48)) ds (omega arith)

either : (b : Bool) (o : Option ℕ) → o ≡ None → cond b o None ≡ None
either true o h = h
either false o h = refl

-- more digits never bring it down again
pub stays_great : (least most n : ℕ) (ds : List ℕ) → most < n → number_after n least most ds ≡ None
stays_great least most n ds h = either (list_all is_digit ds) _ (value_above least most n ds h)
