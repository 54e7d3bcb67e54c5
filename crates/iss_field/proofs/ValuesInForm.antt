-- What the value of a field holds is of the form that inputs have.
use Rattle.std.proofs.Common.{◌≡◌, ℕ, ◌-◌, ◌*◌, ◌<◌, ◌≤◌, ◌==◌, ◌&&◌, nat_le, ℤ, Bool, true, false, List, [], ◌∷◌, length, Option, Some, None, option_and_then, IfSome, cond, refl, sym, ap, ◌∙◌, arith}
use Rattle.std.specs.List.{list_all}
use Rattle.std.proofs.lemmas.Bool.Decides.{nat_tests}
use Rattle.serde_json.specs.Data.{Data}
use Rattle.serde_json.specs.Find.{as_str}
use Rattle.iss_model.specs.declared.currency.Currency.{Currency}
use Rattle.iss_model.specs.Amounts.{is_digit, digits_value, if_form, is_amount_text, amount_digits, amount_read, limit_read}
use Rattle.iss_model.specs.Currencies.{decimals_of, unit_of}
use Rattle.iss_model.specs.Forms.{is_amount, is_limit, is_mcc, is_offset}
use Rattle.iss_field.specs.Values.{whole_of, text_or_units, amount_of, limit_text_or_units, limit_of, whole_within, mcc_of_text, mcc_of, two_digits, signed_minutes, clock_minutes, if_offset, offset_of_text, offset_of}

both : (a b : Bool) → (a && b) ≡ true → (a ≡ true) × (b ≡ true)
both true b h = (refl, h)
both false b h = cc

-- the number is of this form
abbrev pub Meets : (ℕ → Bool) → ℕ → Type 0
Meets form n = form n ≡ true

if_so : (b : Bool) (o : Option ℕ) (P : ℕ → Type 0) → IfSome o P → IfSome (cond b o None) P
if_so true o P h = h
if_so false o P h = tt

kept : (form : ℕ → Bool) (b : Bool) (n : ℕ) → form n ≡ b → IfSome (cond b (Some n) None) (Meets form)
kept form true n h = h
kept form false n h = tt

if_form-meets : (form : ℕ → Bool) (n : ℕ) → IfSome (if_form form n) (Meets form)
if_form-meets form n = kept form (form n) n refl

then_if_form : (form : ℕ → Bool) (o : Option ℕ) → IfSome (option_and_then (if_form form) o) (Meets form)
then_if_form form None = tt
then_if_form form (Some n) = if_form-meets form n

-- ---- amounts and other numbers

amount_read-meets : (text : List ℕ) (c : Currency) → IfSome (amount_read text c) (Meets is_amount)
amount_read-meets text c =
    let minor = digits_value (amount_digits text (decimals_of c)) in
    if_so (is_amount_text text (decimals_of c)) (if_form is_amount minor) (Meets is_amount) (if_form-meets is_amount minor)

text_or_units-meets : (c : Currency) (text : Option (List ℕ)) (units : Option ℕ) → IfSome (text_or_units c text units) (Meets is_amount)
text_or_units-meets c (Some text) units = amount_read-meets text c
text_or_units-meets c None (Some n) = if_form-meets is_amount (n * unit_of c)
text_or_units-meets c None None = tt

pub amount_of-meets : (c : Currency) (d : Data) → IfSome (amount_of c d) (Meets is_amount)
unfolding amount_of
amount_of-meets c d = text_or_units-meets c (as_str d) (whole_of d)

limit_read-meets : (text : List ℕ) (c : Currency) → IfSome (limit_read text c) (Meets is_limit)
limit_read-meets text c =
    let minor = digits_value (amount_digits text (decimals_of c)) in
    if_so (is_amount_text text (decimals_of c)) (if_form is_limit minor) (Meets is_limit) (if_form-meets is_limit minor)

limit_text_or_units-meets : (c : Currency) (text : Option (List ℕ)) (units : Option ℕ) → IfSome (limit_text_or_units c text units) (Meets is_limit)
limit_text_or_units-meets c (Some text) units = limit_read-meets text c
limit_text_or_units-meets c None (Some n) = if_form-meets is_limit (n * unit_of c)
limit_text_or_units-meets c None None = tt

pub limit_of-meets : (c : Currency) (d : Data) → IfSome (limit_of c d) (Meets is_limit)
unfolding limit_of
limit_of-meets c d = limit_text_or_units-meets c (as_str d) (whole_of d)

-- the number is from the least to the most
abbrev pub IsWithin : ℕ → ℕ → ℕ → Type 0
IsWithin least most n = (nat_le least n && nat_le n most) ≡ true

pub whole_within-meets : (least most : ℕ) (d : Data) → IfSome (whole_within least most d) (IsWithin least most)
unfolding whole_within
whole_within-meets least most d = then_if_form (λ n. nat_le least n && nat_le n most) (whole_of d)

not_most : (least most n : ℕ) → most < n → (nat_le least n && nat_le n most) ≡ false
not_most least most n h = ends (nat_le least n) (nat_le n most) (above most n h)
  where
    ends : (a b : Bool) → b ≡ false → (a && b) ≡ false
    ends true b h = h
    ends false b h = refl

    above : (m n : ℕ) → m < n → nat_le n m ≡ false
    above m n h = grind (arith, nat_tests)

-- a number that is too great isn't of the form
pub too_great : (least most : ℕ) (d : Data) (n : ℕ) → whole_of d ≡ Some n → most < n → None ≡ whole_within least most d
unfolding whole_within
too_great least most d n is great =
    sym (ap (λ (o : Option ℕ). option_and_then (if_form (λ m. nat_le least m && nat_le m most)) o) is
    ∙ ap (λ (b : Bool). cond b (Some n) None) (not_most least most n great))

-- ---- codes of four digits

digit_below : (b : ℕ) → is_digit b ≡ true → b - 48 ≤ 9
digit_below b h = grind (arith, nat_tests)

of_four : (a b c d : ℕ) → list_all is_digit (a ∷ b ∷ c ∷ d ∷ []) ≡ true → digits_value (a ∷ b ∷ c ∷ d ∷ []) ≤ 9999
of_four a b c d h =
    let p = both (is_digit a) (list_all is_digit (b ∷ c ∷ d ∷ [])) h in
    let q = both (is_digit b) (list_all is_digit (c ∷ d ∷ [])) p.1 in
    let r = both (is_digit c) (list_all is_digit (d ∷ [])) q.1 in
    let s = both (is_digit d) true r.1 in
    omega (arith, digit_below a p.0, digit_below b q.0, digit_below c r.0, digit_below d s.0)

four_digits : (text : List ℕ) → length text ≡ 4 → list_all is_digit text ≡ true → digits_value text ≤ 9999
four_digits [] h e = absurd (omega arith)
four_digits (a ∷ []) h e = absurd (omega arith)
four_digits (a ∷ b ∷ []) h e = absurd (omega arith)
four_digits (a ∷ b ∷ c ∷ []) h e = absurd (omega arith)
four_digits (a ∷ b ∷ c ∷ d ∷ []) h e = of_four a b c d e
four_digits (a ∷ b ∷ c ∷ d ∷ f ∷ more) h e = absurd (omega arith)

is_four : (n : ℕ) → (n == 4) ≡ true → n ≡ 4
is_four n h = grind (arith, nat_tests)

is_mcc-below : (m : ℕ) → m ≤ 9999 → is_mcc m ≡ true
is_mcc-below m h = grind (arith, nat_tests)

mcc_kept : (b : Bool) (text : List ℕ) → (length text == 4 && list_all is_digit text) ≡ b → IfSome (cond b (Some (digits_value text)) None) (Meets is_mcc)
mcc_kept false text other = tt
mcc_kept true text is =
    let parts = both (length text == 4) (list_all is_digit text) is in
    is_mcc-below (digits_value text) (four_digits text (is_four (length text) parts.0) parts.1)

then_mcc : (o : Option (List ℕ)) → IfSome (option_and_then mcc_of_text o) (Meets is_mcc)
unfolding mcc_of_text
then_mcc None = tt
then_mcc (Some text) = mcc_kept (length text == 4 && list_all is_digit text) text refl

pub mcc_of-meets : (d : Data) → IfSome (mcc_of d) (Meets is_mcc)
unfolding mcc_of
mcc_of-meets d = then_mcc (as_str d)

-- ---- offsets

kept_offset : (b : Bool) (offset : ℤ) → is_offset offset ≡ b → IfSome (cond b (Some offset) None) (λ o. is_offset o ≡ true)
kept_offset true offset h = h
kept_offset false offset h = tt

then_offset : (o : Option ℤ) → IfSome (option_and_then if_offset o) (λ o. is_offset o ≡ true)
then_offset None = tt
then_offset (Some offset) = kept_offset (is_offset offset) offset refl

if_colon : (b : Bool) (o : Option ℤ) → IfSome o (λ o. is_offset o ≡ true) → IfSome (cond b o None) (λ o. is_offset o ≡ true)
if_colon true o h = h
if_colon false o h = tt

offset_of_text-meets : (text : List ℕ) → IfSome (offset_of_text text) (λ o. is_offset o ≡ true)
unfolding offset_of_text
offset_of_text-meets (sign ∷ a ∷ b ∷ colon ∷ c ∷ d ∷ []) = if_colon (colon == 58) _ (then_offset (option_and_then (signed_minutes sign) (clock_minutes (two_digits a b) (two_digits c d))))
offset_of_text-meets _ = tt

pub offset_of-meets : (d : Data) → IfSome (offset_of d) (λ o. is_offset o ≡ true)
unfolding offset_of
offset_of-meets d = by (as_str d)
  where
    by : (o : Option (List ℕ)) → IfSome (option_and_then offset_of_text o) (λ o. is_offset o ≡ true)
    by None = tt
    by (Some text) = offset_of_text-meets text
