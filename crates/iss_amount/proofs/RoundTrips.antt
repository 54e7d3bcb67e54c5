-- What is written is read again, and what is read is written again.
use Rattle.std.proofs.Common.{◌≡◌, ℕ, suc, nat_eq, ◌+◌, ◌-◌, ◌*◌, ◌/◌, ◌%◌, ◌^◌, ◌<◌, ◌≤◌, ℤ, pos, Bool, true, false, ◌&&◌, ◌==◌, List, [], ◌∷◌, ◌++◌, length, take, drop, slice_index, Option, Some, None, cond, IfSome, ⊎_elim, sym, refl, ap, ◌∙◌, arith, rules, length-drop, length-take, take-append-drop, drop-cons, add-one, append-nil}
use Rattle.std.proofs.Math.Seq.{take-append_seam, get_or-append_seam, drop-append-add}
use Rattle.std.specs.List.{list_all}
use Rattle.std.specs.Fmt.{decimal}
use Rattle.std.specs.Prelude.{int_lt}
use Rattle.std.proofs.lemmas.Bool.{cases_lt}
use Rattle.std.proofs.lemmas.Bool.Decides.{nat_tests}
use Rattle.std.proofs.lemmas.Grind.{common_steps, fold-append}
use Rattle.std.proofs.lemmas.Str.Parse.{IsNumeralModel, numerals_by_fold}
use Rattle.std.proofs.lemmas.Fmt.{decimal_digit, decimal_nonempty, first_decimal, digits_decimal, digits_value-decimal, decimal-digits_value}
use Rattle.iss_model.specs.declared.currency.Currency.{Currency}
use Rattle.iss_model.specs.declared.currency.Currency.TheVariants.{Usd, Eur, Gbp, Cad, Aud, Jpy, Kwd}
use Rattle.iss_model.specs.Forms.{is_limit, is_amount}
use Rattle.iss_model.specs.Currencies.{decimals_of, unit_of}
use Rattle.iss_model.specs.Amounts.{value_after, is_digit, is_whole_text, is_amount_text, digits_value, amount_digits, point_place, minor_units, limit_read, amount_read, if_form, amount_text, decimals_text}
use Rattle.iss_amount.specs.Laws.{IsReadAgain, IsWrittenAgain}

-- an amount of a form, read from a text with this number of decimals
abbrev read_in : (ℕ → Bool) → List ℕ → ℕ → Option ℕ
read_in form text places = cond (is_amount_text text places) (if_form form (digits_value (amount_digits text places))) None

own : IsNumeralModel (λ ds. list_all is_digit ds ≡ true) (value_after 0)
own = numerals_by_fold _ (search rules) value_after (search rules)

-- digits without a leading zero
record IsUnpadded (ds : List ℕ) : Type 0 where
  some : 0 < length ds
  digits : list_all is_digit ds ≡ true
  first : slice_index ds 0 ≡ 48 → length ds ≡ 1

whole_text : (ds : List ℕ) → IsUnpadded ds → is_whole_text ds ≡ true
whole_text ds h = let digits = h.digits in grind (arith, nat_tests)

unpadded : (ds : List ℕ) → is_whole_text ds ≡ true → IsUnpadded ds
unpadded ds e = record { some = grind (arith, nat_tests); digits = grind (arith, nat_tests); first = λ f. grind (arith, nat_tests) }

positive : (n : ℕ) → int_lt (pos n) (pos 0) ≡ false
positive n = search rules

-- a number's text has no leading zero
unpadded_decimal : (n : ℕ) → n < 2 ^ 64 → IsUnpadded (decimal n)
unpadded_decimal n h = record {
  some = decimal_nonempty n h;
  digits = digits_decimal own n h;
  first = λ zero. ⊎_elim
      (λ none. ap length (decimal_digit n (omega arith)))
      (λ some. absurd (omega (arith, first_decimal n some h)))
      (cases_lt n 1);
}

-- ---- a text with a point

record IsPointed (units ds : List ℕ) (places : ℕ) : Type 0 where
  units_ok : is_whole_text units ≡ true
  digits_ok : list_all is_digit ds ≡ true
  count : length ds ≡ places

point_after : (units ds : List ℕ) (places : ℕ) → length ds ≡ places → point_place (units ++ 46 ∷ ds) places ≡ length units
point_after units ds places e = grind (arith, common_steps)

back_is : (units ds : List ℕ) → drop (length units + 1) (units ++ 46 ∷ ds) ≡ ds
back_is units ds = drop-append-add units (46 ∷ ds) 1

pointed_is : (places : ℕ) → 0 < places → nat_eq places 0 ≡ false
pointed_is places some = grind (arith, nat_tests)

read_pointed : (form : ℕ → Bool) (units ds : List ℕ) (places : ℕ) → 0 < places → IsPointed units ds places → read_in form (units ++ 46 ∷ ds) places ≡ if_form form (value_after (digits_value units) ds)
read_pointed form units ds places some h =
    rw (pointed_is places some, point_after units ds places h.count, take-append_seam units (46 ∷ ds), get_or-append_seam units 46 ds 0, back_is units ds, h.units_ok, h.digits_ok)
    (ap (if_form form) (fold-append _ 0 units ds))

all_three : (a b c : Bool) → (a && b && c) ≡ true → (a ≡ true) × (b ≡ true) × (c ≡ true)
all_three true true c e = (refl, refl, e)
all_three true false c e = cc
all_three false b c e = cc

unpointed : (text : List ℕ) (places : ℕ) → 0 < places → is_amount_text text places ≡ true
    → (is_whole_text (take (point_place text places) text) && slice_index text (point_place text places) == 46 && list_all is_digit (drop (point_place text places + 1) text)) ≡ true
unpointed text places some e = rw (pointed_is places some) at e

-- a text that is read has this form
record Reads (text : List ℕ) (places : ℕ) : Type 0 where
  units : List ℕ
  ds : List ℕ
  ok : IsPointed units ds places
  whole : text ≡ units ++ 46 ∷ ds
  value : digits_value (amount_digits text places) ≡ value_after (digits_value units) ds

reads : (text : List ℕ) (places : ℕ) → 0 < places → is_amount_text text places ≡ true → Reads text places
reads text places some e =
    let at = point_place text places in
    let parts = all_three (is_whole_text (take at text)) (slice_index text at == 46) (list_all is_digit (drop (at + 1) text)) (unpointed text places some e) in
    let units = unpadded (take at text) parts.0 in
    let within : at < length text = omega (arith, units.some, length-take at text) in
    let point : slice_index text at ≡ 46 = let test = parts.1 in grind (arith, nat_tests) in
    record {
      units = take at text;
      ds = drop (at + 1) text;
      ok = record { units_ok = parts.0; digits_ok = parts.2; count = omega (arith, length-drop (at + 1) text, units.some, length-take at text) };
      whole = sym (take-append-drop at text) ∙ ap (λ rest. take at text ++ rest) (drop-cons text at 0 within ∙ ap (λ x. x ∷ drop (suc at) text) point ∙ ap (λ k. 46 ∷ drop k text) (sym (add-one at)));
      value = rw (pointed_is places some) (fold-append _ 0 (take at text) (drop (at + 1) text));
    }

-- ---- each number of decimals

-- a number's text in a currency with this number of decimals
abbrev text_in : ℕ → ℕ → ℕ → List ℕ
text_in places unit n = decimal (n / unit) ++ decimals_text places n

record IsExact (places unit : ℕ) : Type 0 where
  read : (form : ℕ → Bool) (n : ℕ) → n < 2 ^ 64 → read_in form (text_in places unit n) places ≡ if_form form n
  write : (text : List ℕ) (n : ℕ) → n < 2 ^ 64 → is_amount_text text places ≡ true → digits_value (amount_digits text places) ≡ n → text_in places unit n ≡ text

both : (a b : Bool) → (a && b) ≡ true → (a ≡ true) × (b ≡ true)
both true b e = (refl, e)
both false b e = cc

digit_is : (d : ℕ) → is_digit d ≡ true → (48 ≤ d) × (d ≤ 57)
digit_is d e = grind (arith, nat_tests)

is_digit_of : (d : ℕ) → d < 10 → is_digit (48 + d) ≡ true
is_digit_of d h = grind (arith, nat_tests)

first_digit : (d : ℕ) (ds : List ℕ) → list_all is_digit (d ∷ ds) ≡ true → (48 ≤ d) × (d ≤ 57) × (list_all is_digit ds ≡ true)
first_digit d ds e = let p = both (is_digit d) (list_all is_digit ds) e in let q = digit_is d p.0 in (q.0, q.1, p.1)

more_digits : (d : ℕ) (ds : List ℕ) → d < 10 → list_all is_digit ds ≡ true → list_all is_digit ((48 + d) ∷ ds) ≡ true
more_digits d ds h e = rw (is_digit_of d h) e

-- whole units are written as they were read
units_again : (units : List ℕ) (n : ℕ) → is_whole_text units ≡ true → n ≡ digits_value units → n < 2 ^ 64 → decimal n ≡ units
units_again units n e v h =
    let ok = unpadded units e in
    ap decimal v ∙ decimal-digits_value own units ok.digits ok.some ok.first (omega arith)

units_value : (n : ℕ) → n < 2 ^ 64 → digits_value (decimal n) ≡ n
units_value n h = digits_value-decimal own n h

two_read : (form : ℕ → Bool) (n : ℕ) → n < 2 ^ 64 → read_in form (text_in 2 100 n) 2 ≡ if_form form n
two_read form n h =
    let small : n / 100 < 2 ^ 64 = omega arith in
    let value : 10 * (10 * digits_value (decimal (n / 100)) + (48 + n / 10 % 10 - 48)) + (48 + n % 10 - 48) ≡ n = omega (arith, units_value (n / 100) small) in
    read_pointed form (decimal (n / 100)) ((48 + n / 10 % 10) ∷ (48 + n % 10) ∷ []) 2 (omega arith) (record {
      units_ok = whole_text (decimal (n / 100)) (unpadded_decimal (n / 100) small);
      digits_ok = more_digits (n / 10 % 10) ((48 + n % 10) ∷ []) (omega arith) (more_digits (n % 10) [] (omega arith) refl);
      count = refl;
    })
    ∙ ap (if_form form) value

two_written : (units ds : List ℕ) (n : ℕ) → IsPointed units ds 2 → value_after (digits_value units) ds ≡ n → n < 2 ^ 64 → text_in 2 100 n ≡ units ++ 46 ∷ ds
two_written units [] n h v small = absurd (omega (arith, h.count))
two_written units (a ∷ []) n h v small = absurd (omega (arith, h.count))
two_written units (a ∷ b ∷ []) n h v small =
    let p = first_digit a (b ∷ []) h.digits_ok in
    let q = first_digit b [] p.2 in
    let front : n / 100 ≡ digits_value units = omega arith in
    let tens : 48 + n / 10 % 10 ≡ a = omega arith in
    let ones : 48 + n % 10 ≡ b = omega arith in
    rw (units_again units (n / 100) h.units_ok front (omega arith), tens, ones) refl
two_written units (a ∷ b ∷ c ∷ ds) n h v small = absurd (omega (arith, h.count))

exact_two : IsExact 2 100
exact_two = record {
  read = two_read;
  write = λ text n h e v. let r = reads text 2 (omega arith) e in two_written r.units r.ds n r.ok (sym r.value ∙ v) h ∙ sym r.whole;
}

three_read : (form : ℕ → Bool) (n : ℕ) → n < 2 ^ 64 → read_in form (text_in 3 1000 n) 3 ≡ if_form form n
three_read form n h =
    let small : n / 1000 < 2 ^ 64 = omega arith in
    let value : 10 * (10 * (10 * digits_value (decimal (n / 1000)) + (48 + n / 10 / 10 % 10 - 48)) + (48 + n / 10 % 10 - 48)) + (48 + n % 10 - 48) ≡ n = omega (arith, units_value (n / 1000) small) in
    read_pointed form (decimal (n / 1000)) ((48 + n / 10 / 10 % 10) ∷ (48 + n / 10 % 10) ∷ (48 + n % 10) ∷ []) 3 (omega arith) (record {
      units_ok = whole_text (decimal (n / 1000)) (unpadded_decimal (n / 1000) small);
      digits_ok = more_digits (n / 10 / 10 % 10) ((48 + n / 10 % 10) ∷ (48 + n % 10) ∷ []) (omega arith) (more_digits (n / 10 % 10) ((48 + n % 10) ∷ []) (omega arith) (more_digits (n % 10) [] (omega arith) refl));
      count = refl;
    })
    ∙ ap (if_form form) value

three_written : (units ds : List ℕ) (n : ℕ) → IsPointed units ds 3 → value_after (digits_value units) ds ≡ n → n < 2 ^ 64 → text_in 3 1000 n ≡ units ++ 46 ∷ ds
three_written units [] n h v small = absurd (omega (arith, h.count))
three_written units (a ∷ []) n h v small = absurd (omega (arith, h.count))
three_written units (a ∷ b ∷ []) n h v small = absurd (omega (arith, h.count))
three_written units (a ∷ b ∷ c ∷ []) n h v small =
    let p = first_digit a (b ∷ c ∷ []) h.digits_ok in
    let q = first_digit b (c ∷ []) p.2 in
    let r = first_digit c [] q.2 in
    let front : n / 1000 ≡ digits_value units = omega arith in
    let hundreds : 48 + n / 10 / 10 % 10 ≡ a = omega arith in
    let tens : 48 + n / 10 % 10 ≡ b = omega arith in
    let ones : 48 + n % 10 ≡ c = omega arith in
    rw (units_again units (n / 1000) h.units_ok front (omega arith), hundreds, tens, ones) refl
three_written units (a ∷ b ∷ c ∷ d ∷ ds) n h v small = absurd (omega (arith, h.count))

exact_three : IsExact 3 1000
exact_three = record {
  read = three_read;
  write = λ text n h e v. let r = reads text 3 (omega arith) e in three_written r.units r.ds n r.ok (sym r.value ∙ v) h ∙ sym r.whole;
}

plain : (n : ℕ) → text_in 0 1 n ≡ decimal n
plain n = append-nil (decimal (n / 1)) ∙ ap decimal (omega arith)

none_read : (form : ℕ → Bool) (n : ℕ) → n < 2 ^ 64 → read_in form (text_in 0 1 n) 0 ≡ if_form form n
none_read form n h =
    rw (plain n, whole_text (decimal n) (unpadded_decimal n h)) (ap (if_form form) (units_value n h))

exact_none : IsExact 0 1
exact_none = record {
  read = none_read;
  write = λ text n h e v. plain n ∙ units_again text n e (sym v) h;
}

-- ---- each currency

exact : (c : Currency) → IsExact (decimals_of c) (unit_of c)
exact Usd = exact_two
exact Eur = exact_two
exact Gbp = exact_two
exact Cad = exact_two
exact Aud = exact_two
exact Jpy = exact_none
exact Kwd = exact_three

positive_text : (n : ℕ) (c : Currency) → amount_text (pos n) c ≡ text_in (decimals_of c) (unit_of c) n
positive_text n c = rw (positive n) refl

read_form : (form : ℕ → Bool) (n : ℕ) (c : Currency) → n < 2 ^ 64 → form n ≡ true → minor_units form (amount_text (pos n) c) c ≡ Some n
read_form form n c h f =
    let again : minor_units form (text_in (decimals_of c) (unit_of c) n) c ≡ if_form form n = (exact c).read form n h in
    rw (positive_text n c) (again ∙ ap (λ b. cond b (Some n) None) f)

small_limit : (n : ℕ) → is_limit n ≡ true → n < 2 ^ 64
small_limit n e = grind (arith, nat_tests)

small_amount : (n : ℕ) → is_amount n ≡ true → n < 2 ^ 64
small_amount n e = grind (arith, nat_tests)

formed : (form : ℕ → Bool) (P : ℕ → Type 0) (v : ℕ) (b : Bool) → form v ≡ b → (form v ≡ true → P v) → IfSome (cond b (Some v) None) P
formed form P v true e f = f e
formed form P v false e f = tt

well_formed : (form : ℕ → Bool) (P : ℕ → Type 0) (v : ℕ) (well : Bool) → (well ≡ true → form v ≡ true → P v) → IfSome (cond well (if_form form v) None) P
well_formed form P v true f = formed form P v (form v) refl (f refl)
well_formed form P v false f = tt

write_form : (form : ℕ → Bool) (text : List ℕ) (c : Currency) → ((n : ℕ) → form n ≡ true → n < 2 ^ 64) → IsWrittenAgain (minor_units form text c) text c
write_form form text c small =
    let v = digits_value (amount_digits text (decimals_of c)) in
    well_formed form (λ n. amount_text (pos n) c ≡ text) v (is_amount_text text (decimals_of c))
    (λ well fits. positive_text v c ∙ (exact c).write text v (small v fits) well refl)

-- what is written is read again
pub read_again : (amount : ℤ) (c : Currency) → IsReadAgain amount c
read_again amount c = record {
  amount_again = λ n e ok. ap (λ a. amount_read (amount_text a c) c) e ∙ read_form is_amount n c (small_amount n ok) ok;
  limit_again = λ n e ok. ap (λ a. limit_read (amount_text a c) c) e ∙ read_form is_limit n c (small_limit n ok) ok;
}

-- what is read is written again
pub limit_written_again : (text : List ℕ) (c : Currency) → IsWrittenAgain (limit_read text c) text c
limit_written_again text c = write_form is_limit text c small_limit

pub amount_written_again : (text : List ℕ) (c : Currency) → IsWrittenAgain (amount_read text c) text c
amount_written_again text c = write_form is_amount text c small_amount
