-- The fields that are more than one number or token: what is taken was spelled so, and what is spelled so is taken.
use Rattle.std.proofs.Common.{◌≡◌, ℕ, zero, suc, ◌+◌, ◌<◌, Bool, true, false, ◌&&◌, ltb, nat_eq, nat_le, List, [], ◌∷◌, ◌++◌, length, Option, Some, None, refl, sym, ap, subst, ◌∙◌, append_assoc, arith}
use Rattle.std.specs.Prelude.{ℤ, pos, negsuc, int_le, FitsSigned, not, is_some, ◌||◌}
use Rattle.std.specs.Int.{w16, cast_signed, cast_unsigned}
use Rattle.std.specs.Cmp.{signed_Decides}
use Rattle.std.proofs.lemmas.Int.{of_z-to_z, to_z-of_z}
use Rattle.std.specs.List.{flat_map, list_all}
use Rattle.std.proofs.lemmas.Bool.{leb-true, lt-ltb, ltb-true, eqb-true, and_parts}
use Rattle.std.proofs.lemmas.Option.{same_Some}
use Rattle.std.proofs.lemmas.List.Concat.{flat_map-cons}
use Rattle.iss_model.specs.declared.limits.TheConstants.{LEAST_AMOUNT, GREATEST_AMOUNT, MOST_MCCS, SHORTEST_TIMEOUT, LONGEST_TIMEOUT, SHORTEST_HOLD, LONGEST_HOLD, FIRST_NUMBER, GREATEST_NUMBER}
use Rattle.iss_model.specs.declared.currency.Currency.{Currency}
use Rattle.iss_model.specs.declared.currency.Currency.TheVariants as currency
use Rattle.iss_model.specs.declared.setting.Funding.{Funding}
use Rattle.iss_model.specs.declared.setting.Funding.TheVariants as funding
use Rattle.iss_model.specs.declared.setting.Window.{Window}
use Rattle.iss_model.specs.declared.setting.Window.TheVariants as window
use Rattle.iss_model.specs.declared.setting.CardState.{CardState}
use Rattle.iss_model.specs.declared.setting.CardState.TheVariants as card_state
use Rattle.iss_model.specs.declared.setting.UserState.{UserState}
use Rattle.iss_model.specs.declared.setting.UserState.TheVariants as user_state
use Rattle.iss_model.specs.declared.input.Outcome.{Outcome}
use Rattle.iss_model.specs.declared.input.Outcome.TheVariants as outcome
use Rattle.iss_model.specs.Currencies.{iso_number, currencies}
use Rattle.iss_model.specs.Forms.{is_amount, is_limit, is_mcc, is_stamp, is_timeout, is_hold_time, is_number, is_usage_limit, is_none_or, are_rising, are_mccs, are_limits, may_count, is_offset, is_outcome}
use Rattle.iss_model.specs.Inputs.{flag_contents, funding_number, window_number, card_state_number, user_state_number, outcome_number}
use Rattle.iss_model.specs.texts.Spelling.{AreBytes, number_bytes, currency_bytes, mcc_bytes, mccs_bytes, limit_bytes, limits_bytes, is_utc, offset_bytes, outcome_bytes, answer_kind}
use Rattle.iss_model.specs.Numbers.{of_number, fundings, windows, card_states, user_states, outcomes, currency_numbered, funding_numbered, window_numbered, card_state_numbered, user_state_numbered, outcome_numbered, flag_numbered}
use Rattle.iss_codec.specs.Taking.{take_byte, take_number, take_formed, take_stamp, take_amount, take_limit, take_mcc, take_id, take_numbered, take_flag, take_currency, take_some, take_optional_by, take_optional, take_codes, take_mccs, is_local, take_offset}
use Rattle.iss_codec.specs.TakingRecords.{take_limits}
use Rattle.iss_codec.proofs.NumberBytes.{IsWide, wide_2, wide_4, wide_8}
use Rattle.iss_codec.proofs.TakenFields.{by_byte, bind_some, passed, either_way, IsSplit, IsField, split_on, byte_takes, number_takes, number_again, formed, numbered, numbered_of}

-- numbers of a form

pub stamp_field : IsField take_stamp (number_bytes 8) is_stamp
stamp_field = formed 8 _ is_stamp wide_8 (λ n h. omega (arith, leb-true _ _ h))

pub amount_field : IsField take_amount (number_bytes 8) is_amount
amount_field = formed 8 _ is_amount wide_8 (λ n h. omega (arith, leb-true _ _ (and_parts (nat_le LEAST_AMOUNT n) (nat_le n GREATEST_AMOUNT) h).1))

pub limit_field : IsField take_limit (number_bytes 8) is_limit
limit_field = formed 8 _ is_limit wide_8 (λ n h. omega (arith, leb-true _ _ h))

pub mcc_field : IsField take_mcc mcc_bytes is_mcc
mcc_field = formed 2 _ is_mcc wide_2 (λ n h. omega (arith, leb-true _ _ h))

pub id_field : IsField take_id (number_bytes 4) is_number
id_field = formed 4 _ is_number wide_4 (λ n h. omega (arith, leb-true _ _ (and_parts (nat_le FIRST_NUMBER n) (nat_le n GREATEST_NUMBER) h).1))

pub timeout_field : IsField (take_formed 4 is_timeout) (number_bytes 4) is_timeout
timeout_field = formed 4 _ is_timeout wide_4 (λ n h. omega (arith, leb-true _ _ (and_parts (nat_le SHORTEST_TIMEOUT n) (nat_le n LONGEST_TIMEOUT) h).1))

pub hold_time_field : IsField (take_formed 4 is_hold_time) (number_bytes 4) is_hold_time
hold_time_field = formed 4 _ is_hold_time wide_4 (λ n h. omega (arith, leb-true _ _ (and_parts (nat_le SHORTEST_HOLD n) (nat_le n LONGEST_HOLD) h).1))

-- things by their numbers

pub found : {A : Type 0} (number : A → ℕ) (things : List A) (n : ℕ) (x : A) → of_number number things n ≡ Some x → n ≡ number x
found number [] n x e = absurd cc
found number (thing ∷ things) n x e =
    either_way _ _ _ (Some x) (λ is e. sym (eqb-true _ _ is) ∙ ap number (same_Some thing x e)) (found number things n x) e

funding_there : (x : Funding) → funding_numbered (funding_number x) ≡ Some x
funding_there funding.Account = refl
funding_there funding.Gateway = refl

pub funding_field : IsField (take_numbered funding_numbered) (λ x. funding_number x ∷ []) (λ x. true)
funding_field = numbered funding_number funding_numbered funding_there (found funding_number fundings)

window_there : (x : Window) → window_numbered (window_number x) ≡ Some x
window_there window.Transaction = refl
window_there window.Day = refl
window_there window.Week = refl
window_there window.Month = refl
window_there window.Lifetime = refl

pub window_field : IsField (take_numbered window_numbered) (λ x. window_number x ∷ []) (λ x. true)
window_field = numbered window_number window_numbered window_there (found window_number windows)

card_state_there : (x : CardState) → card_state_numbered (card_state_number x) ≡ Some x
card_state_there card_state.Unactivated = refl
card_state_there card_state.Active = refl
card_state_there card_state.Suspended = refl
card_state_there card_state.Terminated = refl

pub card_state_field : IsField (take_numbered card_state_numbered) (λ x. card_state_number x ∷ []) (λ x. true)
card_state_field = numbered card_state_number card_state_numbered card_state_there (found card_state_number card_states)

user_state_there : (x : UserState) → user_state_numbered (user_state_number x) ≡ Some x
user_state_there user_state.Active = refl
user_state_there user_state.Suspended = refl
user_state_there user_state.Closed = refl

pub user_state_field : IsField (take_numbered user_state_numbered) (λ x. user_state_number x ∷ []) (λ x. true)
user_state_field = numbered user_state_number user_state_numbered user_state_there (found user_state_number user_states)

-- an outcome that its number says whole
abbrev pub is_numbered : Outcome → Bool
is_numbered outcome.Funded = true
is_numbered outcome.Refused = true
is_numbered outcome.Connection = true
is_numbered outcome.Application = true
is_numbered (outcome.Partial currency amount) = false

outcome_there : (x : Outcome) → is_numbered x ≡ true → outcome_numbered (outcome_number x) ≡ Some x
outcome_there outcome.Funded h = refl
outcome_there outcome.Refused h = refl
outcome_there outcome.Connection h = refl
outcome_there outcome.Application h = refl
outcome_there (outcome.Partial currency amount) h = absurd cc

-- a thing that is found is of a form that all of them have
pub found_formed : {A : Type 0} (form : A → Bool) (number : A → ℕ) (things : List A) (n : ℕ) (x : A) → list_all form things ≡ true → of_number number things n ≡ Some x → form x ≡ true
found_formed form number [] n x h e = absurd cc
found_formed form number (thing ∷ things) n x h e =
    let p = and_parts (form thing) (list_all form things) h in
    either_way _ _ _ (Some x) (λ is e. sym (ap form (same_Some thing x e)) ∙ p.0) (found_formed form number things n x p.1) e

pub outcome_field : IsField (take_numbered outcome_numbered) (λ x. outcome_number x ∷ []) is_numbered
outcome_field =
    numbered_of is_numbered outcome_number outcome_numbered outcome_there
    (λ n x e. (found outcome_number outcomes n x e, found_formed is_numbered outcome_number outcomes n x refl e))

-- what an outcome is that its number says whole
pub record IsWhole (x : Outcome) : Type 0 where
  pub bytes : outcome_bytes x ≡ outcome_number x ∷ []
  pub kind : answer_kind x ≡ 15
  pub form : is_outcome x ≡ true

pub whole : (x : Outcome) → is_numbered x ≡ true → IsWhole x
whole outcome.Funded h = record { bytes = refl; kind = refl; form = refl }
whole outcome.Refused h = record { bytes = refl; kind = refl; form = refl }
whole outcome.Connection h = record { bytes = refl; kind = refl; form = refl }
whole outcome.Application h = record { bytes = refl; kind = refl; form = refl }
whole (outcome.Partial currency amount) h = absurd cc

currency_there : (x : Currency) → currency_numbered (iso_number x) ≡ Some x
currency_there currency.Usd = refl
currency_there currency.Eur = refl
currency_there currency.Gbp = refl
currency_there currency.Cad = refl
currency_there currency.Aud = refl
currency_there currency.Jpy = refl
currency_there currency.Kwd = refl

iso_small : (x : Currency) → iso_number x < 65536
iso_small currency.Usd = omega arith
iso_small currency.Eur = omega arith
iso_small currency.Gbp = omega arith
iso_small currency.Cad = omega arith
iso_small currency.Aud = omega arith
iso_small currency.Jpy = omega arith
iso_small currency.Kwd = omega arith

pub currency_field : IsField take_currency currency_bytes (λ x. true)
unfolding take_currency
currency_field =
    record {
      takes = λ bytes x fits e.
          let n = bind_some (take_number 2 bytes) _ x e in
          let a = number_takes 2 65536 wide_2 bytes n.0 fits n.1 in
          let c = bind_some (currency_numbered n.0.0) _ x n.2 in
          let whole : IsSplit bytes (currency_bytes c.0) n.0.1 = subst (λ (k : ℕ). IsSplit bytes (number_bytes 2 k) n.0.1) (found iso_number currencies n.0.0 c.0 c.1) a.0 in
          (subst (λ y. IsSplit bytes (currency_bytes y.0) y.1) (same_Some (c.0, n.0.1) x c.2) whole, refl);
      again = λ x rest h. rw (number_again 2 65536 wide_2 (iso_number x) rest (iso_small x), currency_there x) refl;
    }

-- true or false

flag_there : (x : Bool) (rest : List ℕ) → take_flag (flag_contents x ++ rest) ≡ Some (x, rest)
unfolding take_numbered take_byte
flag_there true rest = refl
flag_there false rest = refl

flag_back : (n : ℕ) (x : Bool) → flag_numbered n ≡ Some x → n ∷ [] ≡ flag_contents x
flag_back n x e =
    either_way _ _ _ (Some x) (λ is e. ap (λ k. k ∷ []) (eqb-true n 0 is) ∙ ap flag_contents (same_Some false x e))
    (λ e. let q = passed (nat_eq n 1) true x e in ap (λ k. k ∷ []) (eqb-true n 1 q.0) ∙ ap flag_contents q.1) e

pub flag_field : IsField take_flag flag_contents (λ x. true)
unfolding take_numbered
flag_field =
    record {
      takes = λ bytes x fits e.
          let n = bind_some (take_byte bytes) _ x e in
          let a = byte_takes bytes n.0 fits n.1 in
          let t = bind_some (flag_numbered n.0.0) _ x n.2 in
          let whole : IsSplit bytes (flag_contents t.0) n.0.1 = subst (λ text. IsSplit bytes text n.0.1) (flag_back n.0.0 t.0 t.1) a in
          (subst (λ y. IsSplit bytes (flag_contents y.0) y.1) (same_Some (t.0, n.0.1) x t.2) whole, refl);
      again = λ x rest h. flag_there x rest;
    }

-- a limit that may be left out

-- a number below a limit, if there is one
abbrev pub is_below : ℕ → Option ℕ → Bool
is_below most n = is_none_or (λ k. ltb k most) n

some_takes : (width most : ℕ) → IsWide width most → (bytes : List ℕ) (x : Option ℕ × List ℕ) → AreBytes bytes → take_some width bytes ≡ Some x
    → IsSplit (1 ∷ bytes) (limit_bytes width x.0) x.1 × (is_below most x.0 ≡ true)
some_takes width most wide bytes x fits e =
    let n = bind_some (take_number width bytes) _ x e in
    let a = number_takes width most wide bytes n.0 fits n.1 in
    let whole : IsSplit (1 ∷ bytes) (limit_bytes width (Some n.0.0)) n.0.1 = record { parts = ap (λ (t : List ℕ). 1 ∷ t) a.0.parts; fits = a.0.fits } in
    subst (λ y. IsSplit (1 ∷ bytes) (limit_bytes width y.0) y.1 × (is_below most y.0 ≡ true)) (same_Some (Some n.0.0, n.0.1) x n.2) (whole, lt-ltb _ _ a.1)

optional_by_takes : (width most : ℕ) → IsWide width most → (byte : ℕ) (bytes : List ℕ) (x : Option ℕ × List ℕ) → AreBytes bytes → take_optional_by width byte bytes ≡ Some x
    → IsSplit (byte ∷ bytes) (limit_bytes width x.0) x.1 × (is_below most x.0 ≡ true)
optional_by_takes width most wide byte bytes x fits e =
    either_way _ _ _ (Some x) (λ is e. subst (λ y. IsSplit (byte ∷ bytes) (limit_bytes width y.0) y.1 × (is_below most y.0 ≡ true)) (same_Some (None, bytes) x e)
    (record { parts = ap (λ (k : ℕ). k ∷ bytes) (eqb-true byte 0 is); fits = fits }, refl)) (
    either_way _ _ _ (Some x) (λ is e. subst (λ (k : ℕ). IsSplit (k ∷ bytes) (limit_bytes width x.0) x.1 × (is_below most x.0 ≡ true)) (sym (eqb-true byte 1 is))
    (some_takes width most wide bytes x fits e)) (
    λ e. absurd cc)) e

optional_again : (width most : ℕ) → IsWide width most → (x : Option ℕ) (rest : List ℕ) → is_below most x ≡ true → take_optional width (limit_bytes width x ++ rest) ≡ Some (x, rest)
unfolding take_optional take_byte
optional_again width most wide None rest h = refl
optional_again width most wide (Some n) rest h = rw (number_again width most wide n rest (ltb-true _ _ h)) refl

pub optional_field : (width most : ℕ) → IsWide width most → IsField (take_optional width) (limit_bytes width) (is_below most)
unfolding take_optional
optional_field width most wide =
    record { takes = by_byte (take_optional_by width) (limit_bytes width) (is_below most) (optional_by_takes width most wide); again = optional_again width most wide }

-- the limits of a control

limit_below : (x : Option ℕ) → is_none_or is_limit x ≡ true → is_below 18446744073709551616 x ≡ true
limit_below None h = refl
limit_below (Some n) h = lt-ltb _ _ (omega (arith, leb-true _ _ h))

usage_below : (x : Option ℕ) → is_none_or is_usage_limit x ≡ true → is_below 4294967296 x ≡ true
usage_below None h = refl
usage_below (Some n) h = lt-ltb _ _ (omega (arith, leb-true _ _ h))

-- what a control's limits allow, part by part
limits_parts : (w : Window) (a u : Option ℕ) → are_limits w a u ≡ true → (is_none_or is_limit a ≡ true) × (is_none_or is_usage_limit u ≡ true)
limits_parts w a u h =
    let p = and_parts ((is_none_or is_limit a && is_none_or is_usage_limit u) && (is_some a || is_some u)) (may_count w u) h in
    let q = and_parts (is_none_or is_limit a && is_none_or is_usage_limit u) (is_some a || is_some u) p.0 in
    and_parts (is_none_or is_limit a) (is_none_or is_usage_limit u) q.0

abbrev pub both_limits : Option ℕ × Option ℕ → List ℕ
both_limits l = limits_bytes l.0 l.1

abbrev pub have_form : Window → Option ℕ × Option ℕ → Bool
have_form w l = are_limits w l.0 l.1

pub limits_field : (w : Window) → IsField (take_limits w) both_limits (have_form w)
unfolding take_limits
limits_field w =
    record {
      takes = λ bytes x fits e.
          let a = bind_some (take_optional 8 bytes) _ x e in
          let u = bind_some (take_optional 4 a.0.1) _ x a.2 in
          let ta = (optional_field 8 _ wide_8).takes bytes a.0 fits a.1 in
          let tu = (optional_field 4 _ wide_4).takes a.0.1 u.0 ta.0.fits u.1 in
          let g = passed (are_limits w a.0.0 u.0.0) ((a.0.0, u.0.0), u.0.1) x u.2 in
          subst (λ y. IsSplit bytes (both_limits y.0) y.1 × (have_form w y.0 ≡ true)) g.1 (split_on bytes _ a.0.1 _ u.0.1 ta.0 tu.0, g.0);
      again = λ x rest h.
          let p = limits_parts w x.0 x.1 h in
          ap (take_limits w) (append_assoc (limit_bytes 8 x.0) (limit_bytes 4 x.1) rest)
          ∙ rw ((optional_field 8 _ wide_8).again x.0 (limit_bytes 4 x.1 ++ rest) (limit_below x.0 p.0), (optional_field 4 _ wide_4).again x.1 rest (usage_below x.1 p.1), h) refl;
    }

-- the offset of a control, in UTC or by a local clock

abbrev pub offset_form : Bool → ℤ → Bool
offset_form true offset = is_local offset
offset_form false offset = is_utc offset

pub utc_is : (offset : ℤ) → is_utc offset ≡ true → offset ≡ pos 0
utc_is offset h = (signed_Decides offset (pos 0)).0 h

not_true : (b : Bool) → not b ≡ true → b ≡ false
not_true true h = absurd cc
not_true false h = refl

pub offset_fits : (offset : ℤ) → is_offset offset ≡ true → FitsSigned w16 offset
offset_fits (pos n) h = omega (arith, leb-true _ _ (and_parts (int_le (negsuc 719) (pos n)) (int_le (pos n) (pos 840)) h).1)
offset_fits (negsuc n) h = omega (arith, leb-true _ _ (and_parts (int_le (negsuc 719) (negsuc n)) (int_le (negsuc n) (pos 840)) h).0)

low_word : (offset : ℤ) → is_offset offset ≡ true → cast_unsigned w16 offset < 65536
low_word (pos n) h = omega (arith, leb-true _ _ (and_parts (int_le (negsuc 719) (pos n)) (int_le (pos n) (pos 840)) h).1)
low_word (negsuc n) h = omega arith

spelled_local : (offset : ℤ) → is_utc offset ≡ false → offset_bytes offset ≡ number_bytes 2 (cast_unsigned w16 offset)
spelled_local offset h = rw h refl

-- a local clock isn't that of UTC
pub far_from_utc : (offset : ℤ) → is_local offset ≡ true → is_utc offset ≡ false
far_from_utc offset h = not_true (is_utc offset) (and_parts (is_offset offset) (not (is_utc offset)) h).1

pub offset_field : (b : Bool) → IsField (take_offset b) offset_bytes (offset_form b)
unfolding take_offset
offset_field false =
    record {
      takes = λ bytes x fits e.
          subst (λ y. IsSplit bytes (offset_bytes y.0) y.1 × (is_utc y.0 ≡ true)) (same_Some (pos 0, bytes) x e) (record { parts = refl; fits = fits }, refl);
      again = λ offset rest h. rw (utc_is offset h) refl;
    }
offset_field true =
    record {
      takes = λ bytes x fits e.
          let n = bind_some (take_number 2 bytes) _ x e in
          let t = number_takes 2 _ wide_2 bytes n.0 fits n.1 in
          let offset : ℤ = cast_signed w16 n.0.0 in
          let g = passed (is_local offset) (offset, n.0.1) x n.2 in
          let far = far_from_utc offset g.0 in
          let text : number_bytes 2 n.0.0 ≡ offset_bytes offset =
          ap (λ (k : ℕ). number_bytes 2 k) (sym (of_z-to_z w16 n.0.0 t.1)) ∙ sym (spelled_local offset far) in
          subst (λ y. IsSplit bytes (offset_bytes y.0) y.1 × (is_local y.0 ≡ true)) g.1 (subst (λ (l : List ℕ). IsSplit bytes l n.0.1) text t.0, g.0);
      again = λ offset rest h.
          let p = and_parts (is_offset offset) (not (is_utc offset)) h in
          rw (spelled_local offset (far_from_utc offset h), number_again 2 _ wide_2 (cast_unsigned w16 offset) rest (low_word offset p.0), to_z-of_z w16 offset (offset_fits offset p.0), h) refl;
    }

-- the offset is in form either way
pub offset_in_form : (b : Bool) (offset : ℤ) → offset_form b offset ≡ true → is_offset offset ≡ true
offset_in_form true offset h = (and_parts (is_offset offset) (not (is_utc offset)) h).0
offset_in_form false offset h = rw (utc_is offset h) refl

-- the codes of a group

codes_take : (n : ℕ) (bytes : List ℕ) (x : List ℕ × List ℕ) → AreBytes bytes → take_codes n bytes ≡ Some x → IsSplit bytes (flat_map mcc_bytes x.0) x.1 × (length x.0 ≡ n)
unfolding take_codes
codes_take zero bytes x fits e =
    subst (λ y. IsSplit bytes (flat_map mcc_bytes y.0) y.1 × (length y.0 ≡ 0)) (same_Some ([], bytes) x e) (record { parts = refl; fits = fits }, refl)
codes_take (suc n) bytes x fits e =
    let a = bind_some (take_number 2 bytes) _ x e in
    let b = bind_some (take_codes n a.0.1) _ x a.2 in
    let first = number_takes 2 _ wide_2 bytes a.0 fits a.1 in
    let others = codes_take n a.0.1 b.0 first.0.fits b.1 in
    let both = split_on bytes _ a.0.1 _ b.0.1 first.0 others.0 in
    subst (λ y. IsSplit bytes (flat_map mcc_bytes y.0) y.1 × (length y.0 ≡ suc n)) (same_Some (a.0.0 ∷ b.0.0, b.0.1) x b.2) (rw flat_map-cons both, ap suc others.1)

codes_again : (low : ℕ) (codes rest : List ℕ) → are_rising low codes ≡ true → take_codes (length codes) (flat_map mcc_bytes codes ++ rest) ≡ Some (codes, rest)
unfolding take_codes
codes_again low [] rest h = refl
codes_again low (m ∷ codes) rest h =
    let p = and_parts (nat_le low m && is_mcc m) (are_rising (m + 1) codes) h in
    let q = and_parts (nat_le low m) (is_mcc m) p.0 in
    let small : m < 65536 = omega (arith, leb-true _ _ q.1) in
    let regrouped : flat_map mcc_bytes (m ∷ codes) ++ rest ≡ mcc_bytes m ++ (flat_map mcc_bytes codes ++ rest) =
    ap (λ (t : List ℕ). t ++ rest) (flat_map-cons mcc_bytes m codes) ∙ append_assoc (mcc_bytes m) (flat_map mcc_bytes codes) rest in
    ap (take_codes (suc (length codes))) regrouped
    ∙ rw (number_again 2 _ wide_2 m (flat_map mcc_bytes codes ++ rest) small, codes_again (m + 1) codes rest p.1) refl

pub mccs_field : IsField take_mccs mccs_bytes are_mccs
unfolding take_mccs
mccs_field =
    record {
      takes = λ bytes x fits e.
          let n = bind_some (take_number 2 bytes) _ x e in
          let c = bind_some (take_codes n.0.0 n.0.1) _ x n.2 in
          let tn = number_takes 2 _ wide_2 bytes n.0 fits n.1 in
          let tc = codes_take n.0.0 n.0.1 c.0 tn.0.fits c.1 in
          let g = passed (are_mccs c.0.0) c.0 x c.2 in
          let both = split_on bytes _ n.0.1 _ c.0.1 tn.0 tc.0 in
          let whole : IsSplit bytes (mccs_bytes c.0.0) c.0.1 = subst (λ (k : ℕ). IsSplit bytes (number_bytes 2 k ++ flat_map mcc_bytes c.0.0) c.0.1) (sym tc.1) both in
          subst (λ y. IsSplit bytes (mccs_bytes y.0) y.1 × (are_mccs y.0 ≡ true)) g.1 (whole, g.0);
      again = λ x rest h.
          let p = and_parts (nat_le 1 (length x) && nat_le (length x) MOST_MCCS) (are_rising 0 x) h in
          let q = and_parts (nat_le 1 (length x)) (nat_le (length x) MOST_MCCS) p.0 in
          let small : length x < 65536 = omega (arith, leb-true _ _ q.1) in
          ap take_mccs (append_assoc (number_bytes 2 (length x)) (flat_map mcc_bytes x) rest)
          ∙ rw (number_again 2 _ wide_2 (length x) (flat_map mcc_bytes x ++ rest) small, codes_again 0 x rest p.1, h) refl;
    }
