-- The text of an amount over what a limit may be is read as no limit.
use Rattle.std.proofs.Common.{◌≡◌, ℕ, ◌+◌, ◌-◌, ◌*◌, ◌/◌, ◌%◌, ◌^◌, ◌<◌, pos, nat_eq, Bool, true, false, cond, List, [], ◌∷◌, ◌++◌, length, drop, Option, Some, None, decimal, refl, ap, ◌∙◌, rules, arith, append-nil}
use Rattle.std.proofs.Math.Seq.{take-append_seam, drop-append-add}
use Rattle.std.specs.List.{list_all}
use Rattle.std.proofs.lemmas.Bool.Decides.{nat_tests}
use Rattle.std.proofs.lemmas.Grind.{common_steps, fold-append}
use Rattle.std.proofs.lemmas.Str.Parse.{IsNumeralModel, numerals_by_fold}
use Rattle.std.proofs.lemmas.Fmt.{digits_value-decimal}
use Rattle.serde_json.specs.Data.{string}
use Rattle.iss_model.specs.declared.currency.Currency.{Currency}
use Rattle.iss_model.specs.declared.currency.Currency.TheVariants.{Usd, Eur, Gbp, Cad, Aud, Jpy, Kwd}
use Rattle.iss_model.specs.Amounts.{is_digit, value_after, digits_value, amount_digits, point_place, is_amount_text, if_form, amount_text, decimals_text, limit_read}
use Rattle.iss_model.specs.Currencies.{decimals_of, unit_of}
use Rattle.iss_model.specs.Forms.{is_limit}
use Rattle.iss_field.specs.Values.{limit_of}
use Rattle.iss_gateway.proofs.Plain.{amount_is}

own : IsNumeralModel (λ ds. list_all is_digit ds ≡ true) (value_after 0)
own = numerals_by_fold _ (search rules) value_after (search rules)

units_value : (n : ℕ) → n < 2 ^ 64 → digits_value (decimal n) ≡ n
units_value n h = digits_value-decimal own n h

pointed_is : (places : ℕ) → 0 < places → nat_eq places 0 ≡ false
pointed_is places some = grind (arith, nat_tests)

point_after : (units ds : List ℕ) (places : ℕ) → length ds ≡ places → point_place (units ++ 46 ∷ ds) places ≡ length units
point_after units ds places e = grind (arith, common_steps)

back_is : (units ds : List ℕ) → drop (length units + 1) (units ++ 46 ∷ ds) ≡ ds
back_is units ds = drop-append-add units (46 ∷ ds) 1

-- the digits of a text with a point
pointed : (units ds : List ℕ) (places : ℕ) → 0 < places → length ds ≡ places → digits_value (amount_digits (units ++ 46 ∷ ds) places) ≡ value_after (digits_value units) ds
pointed units ds places some count =
    rw (pointed_is places some, point_after units ds places count, take-append_seam units (46 ∷ ds), back_is units ds) (fold-append _ 0 units ds)

-- the text of a number with this many decimals
abbrev text_in : ℕ → ℕ → ℕ → List ℕ
text_in places unit n = decimal (n / unit) ++ decimals_text places n

none_digits : (n : ℕ) → n < 2 ^ 64 → digits_value (amount_digits (text_in 0 1 n) 0) ≡ n
none_digits n h = ap digits_value (append-nil (decimal (n / 1)) ∙ ap decimal (omega arith)) ∙ units_value n h

two_digits : (n : ℕ) → n < 2 ^ 64 → digits_value (amount_digits (text_in 2 100 n) 2) ≡ n
two_digits n h =
    let small : n / 100 < 2 ^ 64 = omega arith in
    let value : 10 * (10 * digits_value (decimal (n / 100)) + (48 + n / 10 % 10 - 48)) + (48 + n % 10 - 48) ≡ n = omega (arith, units_value (n / 100) small) in
    pointed (decimal (n / 100)) ((48 + n / 10 % 10) ∷ (48 + n % 10) ∷ []) 2 (omega arith) refl ∙ value

three_digits : (n : ℕ) → n < 2 ^ 64 → digits_value (amount_digits (text_in 3 1000 n) 3) ≡ n
three_digits n h =
    let small : n / 1000 < 2 ^ 64 = omega arith in
    let value : 10 * (10 * (10 * digits_value (decimal (n / 1000)) + (48 + n / 10 / 10 % 10 - 48)) + (48 + n / 10 % 10 - 48)) + (48 + n % 10 - 48) ≡ n = omega (arith, units_value (n / 1000) small) in
    pointed (decimal (n / 1000)) ((48 + n / 10 / 10 % 10) ∷ (48 + n / 10 % 10) ∷ (48 + n % 10) ∷ []) 3 (omega arith) refl ∙ value

digits_again : (n : ℕ) (c : Currency) → n < 2 ^ 64 → digits_value (amount_digits (text_in (decimals_of c) (unit_of c) n) (decimals_of c)) ≡ n
digits_again n Usd h = two_digits n h
digits_again n Eur h = two_digits n h
digits_again n Gbp h = two_digits n h
digits_again n Cad h = two_digits n h
digits_again n Aud h = two_digits n h
digits_again n Jpy h = none_digits n h
digits_again n Kwd h = three_digits n h

either_none : (b : Bool) (o : Option ℕ) → o ≡ None → cond b o None ≡ None
either_none true o e = e
either_none false o e = refl

pub limit_over : (n : ℕ) (c : Currency) → n < 2 ^ 64 → is_limit n ≡ false → limit_of c (string (amount_text (pos n) c)) ≡ None
unfolding limit_of
limit_over n c h over =
    ap (λ (t : List ℕ). limit_read t c) (amount_is n c)
    ∙ either_none (is_amount_text (text_in (decimals_of c) (unit_of c) n) (decimals_of c)) _
    (ap (if_form is_limit) (digits_again n c h) ∙ ap (λ (b : Bool). cond b (Some n) None) over)
