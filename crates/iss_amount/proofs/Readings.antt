-- What the parts of a text of an amount come to together.
use Rattle.std.proofs.Common.{◌≡◌, ℕ, nat_eq, ◌+◌, ◌-◌, ◌*◌, ◌<◌, Bool, true, false, ◌&&◌, ◌==◌, List, [], ◌∷◌, ◌++◌, take, drop, slice_index, Option, Some, None, cond, refl, ap, ◌∙◌, arith}
use Rattle.std.specs.List.{list_all}
use Rattle.std.proofs.lemmas.Bool.Decides.{nat_tests}
use Rattle.std.proofs.lemmas.Grind.{fold-append}
use Rattle.iss_model.specs.declared.limits.TheConstants.{GREATEST_LIMIT}
use Rattle.iss_model.specs.declared.currency.Currency.{Currency}
use Rattle.iss_model.specs.Forms.{is_limit, is_amount}
use Rattle.iss_model.specs.Currencies.{decimals_of}
use Rattle.iss_model.specs.Amounts.{value_after, is_digit, is_whole_text, is_amount_text, digits_value, amount_digits, point_place, limit_read, amount_read, if_form}
use Rattle.iss_amount.specs.Reading.{limit_of_units}

-- a limit read from a text with this number of decimals
abbrev pub limit_in : List ℕ → ℕ → Option ℕ
limit_in text places = cond (is_amount_text text places) (if_form is_limit (digits_value (amount_digits text places))) None

above : (n : ℕ) → GREATEST_LIMIT < n → if_form is_limit n ≡ None
above n h = grind (arith, nat_tests)

is_above : (n : ℕ) → if_form is_limit n ≡ None → GREATEST_LIMIT < n
is_above n e = grind (arith, nat_tests)

value_above : (n : ℕ) (ds : List ℕ) → GREATEST_LIMIT < n → if_form is_limit (value_after n ds) ≡ None
value_above n [] h = above n h
value_above n (d ∷ ds) h = value_above (10 * n + (d - 48)) ds (omega arith)

either : (b : Bool) (o : Option ℕ) → o ≡ None → cond b o None ≡ None
either true o h = h
either false o h = refl

more_digits : (units : List ℕ) (ds : List ℕ) → GREATEST_LIMIT < digits_value units → if_form is_limit (digits_value (units ++ ds)) ≡ None
more_digits units ds h = ap (if_form is_limit) (fold-append _ 0 units ds) ∙ value_above (digits_value units) ds h

no_units : (whole point rest : Bool) (units ds : List ℕ) → cond whole (if_form is_limit (digits_value units)) None ≡ None → cond (whole && point && rest) (if_form is_limit (digits_value (units ++ ds))) None ≡ None
no_units false point rest units ds e = refl
no_units true point rest units ds e = either (point && rest) _ (more_digits units ds (is_above _ e))

-- if the whole units are none or too many, the text is no limit
pub units_missing : (text : List ℕ) (places : ℕ) → 0 < places → limit_of_units (take (point_place text places) text) ≡ None → limit_in text places ≡ None
units_missing text places some e =
    let pointed : nat_eq places 0 ≡ false = grind (arith, nat_tests) in
    let at = point_place text places in
    rw pointed (no_units (is_whole_text (take at text)) (slice_index text at == 46) (list_all is_digit (drop (at + 1) text)) (take at text) (drop (at + 1) text) e)

of_limit : (well : Bool) (n m : ℕ) → cond well (if_form is_limit n) None ≡ Some m → cond well (if_form is_amount n) None ≡ if_form is_amount m
of_limit false n m e = cc
of_limit true n m e = grind (arith, nat_tests)

-- an amount is a limit that is neither nothing nor too great
pub amount_of_limit : (text : List ℕ) (c : Currency) (m : ℕ) → limit_read text c ≡ Some m → amount_read text c ≡ if_form is_amount m
amount_of_limit text c m e = of_limit (is_amount_text text (decimals_of c)) (digits_value (amount_digits text (decimals_of c))) m e
