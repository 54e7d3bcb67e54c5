-- What events come to stays small: each comes to at most the greatest amount, and there are no more than records.
use Rattle.std.proofs.Common.{◌≡◌, zero, suc, ◌^◌, ◌≤◌, ◌∙◌, ◌+◌, ◌*◌, ℕ, Bool, true, false, cond, List, [], ◌∷◌, find, length, take, refl, sym, ap, ap₂, arith, subst, nat_le, nat_lt}
use Rattle.std.specs.Prelude.{◌&&◌, ◌==◌, Option, Some, None, is_some, unwrap_or}
use Rattle.std.specs.List.{list_all}
use Rattle.std.specs.Str.{bytes_eq}
use Rattle.std.proofs.lemmas.Bool.{and_parts, leb-true, le-leb}
use Rattle.std.proofs.lemmas.List.{length-take}
use Rattle.iss_model.specs.declared.call.CallState.{CallState}
use Rattle.iss_model.specs.declared.call.CallState.TheVariants as call_state
use Rattle.iss_model.specs.declared.call.How.TheVariants as how
use Rattle.iss_model.specs.declared.currency.Currency.{Currency}
use Rattle.iss_model.specs.declared.decision.Verdict.{Verdict}
use Rattle.iss_model.specs.declared.decision.Verdict.TheVariants as verdict
use Rattle.iss_model.specs.declared.input.Input.{Input}
use Rattle.iss_model.specs.declared.input.Input.TheVariants as input
use Rattle.iss_model.specs.declared.limits.TheConstants.{GREATEST_AMOUNT, MOST_RECORDS}
use Rattle.iss_model.specs.declared.state.Seen.{Seen}
use Rattle.iss_model.specs.declared.state.State.{State}
use Rattle.iss_model.specs.Currencies.{same_currency}
use Rattle.iss_model.specs.Forms.{is_amount, is_in_form, is_mcc, is_stamp}
use Rattle.iss_model.specs.Inputs.{event_token}
use Rattle.iss_model.specs.Tokens.{is_token}
use Rattle.iss_model.specs.texts.Spelling.{has_spelling, is_record, tokens_of}
use Rattle.iss_states.specs.Order.{do_numbers_rise, is_event_record}
use Rattle.iss_states.specs.Rebuilding.{is_done}
use Rattle.iss_well_formed.specs.Txns.{cleared_amount, done_total, refunded_amount}
use Rattle.iss_decided.specs.Approved.{approved_for, approved_total}
use Rattle.iss_decided.specs.Verdicts.{do_parts_agree, goes_with_part, permits_this_part}
use Rattle.iss_sound_events.specs.declared.totals.Total.{Total}
use Rattle.iss_sound_events.specs.Alone.{AreSoundAlone}
use Rattle.iss_sound_events.specs.Totals.{AreTotalsOf, HaveRoom, IsWithin, approved_of, done_of, is_small, is_small_seen, no_total, total_of, worth_of, worth_with}
use Rattle.iss_sound_events.proofs.SeenWorth.{approved_is, cleared_is, refunded_is, worth_in}

-- no more events than records
pub few_events : (last records : ℕ) (es : List Seen) → do_numbers_rise last records es ≡ true → last ≤ records
    → last + length es ≤ records
few_events last records [] rise below = omega arith
few_events last records (e ∷ es) rise below =
    let parts = and_parts (nat_lt last e.number && nat_le e.number records) (do_numbers_rise e.number records es) rise in
    let here = and_parts (nat_lt last e.number) (nat_le e.number records) parts.0 in
    let up = leb-true (suc last) e.number here.0 in
    let most = leb-true e.number records here.1 in
    let rest = few_events e.number records es parts.1 most in
    omega arith

-- an amount in form is small
amount_small : (n : ℕ) → is_amount n ≡ true → nat_le n GREATEST_AMOUNT ≡ true
amount_small n form = (and_parts (nat_le 1 n) (nat_le n GREATEST_AMOUNT) form).1

done_small : (v : Option Verdict) (n : ℕ) → nat_le n GREATEST_AMOUNT ≡ true → nat_le (done_of v n) GREATEST_AMOUNT ≡ true
done_small v n small = elim (is_done v) as (λ b. nat_le (cond b n 0) GREATEST_AMOUNT ≡ true) [ true ↦ small | false ↦ refl ]

-- what an ask was approved for is small, since a part is less than what was asked
approved_small : (v : Option Verdict) (mark : Option CallState) (i : Input) (asked : ℕ) → goes_with_part i v mark ≡ true
    → ((currency : Currency) (n : ℕ) → permits_this_part i currency n ≡ true → n ≤ asked) → nat_le asked GREATEST_AMOUNT ≡ true
    → nat_le (approved_of v asked) GREATEST_AMOUNT ≡ true
approved_small None mark i asked goes less small = refl
approved_small (Some verdict.Approved) mark i asked goes less small = small
approved_small (Some verdict.Done) mark i asked goes less small = refl
approved_small (Some (verdict.Declined reason)) mark i asked goes less small = refl
approved_small (Some (verdict.Partial currency n)) (Some (call_state.Closed (how.Partial part))) i asked goes less small =
    let permitted = (and_parts (n == part) (permits_this_part i currency n) goes).1 in
    let below = less currency n permitted in
    let most = leb-true asked GREATEST_AMOUNT small in
    le-leb n GREATEST_AMOUNT (omega (arith, below, most))
approved_small (Some (verdict.Partial currency n)) mark i asked goes less small = absurd cc

three : (a b c : Bool) → a ≡ true → b ≡ true → c ≡ true → ((a && b) && c) ≡ true
three a b c p q r = rw p (rw q r)

-- what an event in form comes to is small, if its parts agree
worth_small : (v : Option Verdict) (mark : Option CallState) (i : Input) → is_in_form i ≡ true → goes_with_part i v mark ≡ true
    → is_small (worth_with v i) ≡ true
worth_small v mark (input.Authorization token card currency amount mcc mid partial) form goes =
    let i = input.Authorization token card currency amount mcc mid partial in
    three (nat_le (approved_of v amount) GREATEST_AMOUNT) true true
    (approved_small v mark i amount goes
    (λ part_currency n permits.
    let below = leb-true (suc n) amount (and_parts (partial && same_currency part_currency currency) (nat_lt n amount) permits).1 in
    omega (arith, below))
    (amount_small amount (and_parts (is_amount amount) (is_mcc mcc) form).0))
    refl refl
worth_small v mark (input.Increment token txn currency amount) form goes =
    three (nat_le (approved_of v amount) GREATEST_AMOUNT) true true
    (approved_small v mark (input.Increment token txn currency amount) amount goes (λ part_currency n permits. absurd cc) (amount_small amount form))
    refl refl
worth_small v mark (input.Clearing token txn currency amount last) form goes =
    three true (nat_le (done_of v amount) GREATEST_AMOUNT) true refl (done_small v amount (amount_small amount form)) refl
worth_small v mark (input.Refund token txn currency amount) form goes =
    three true true (nat_le (done_of v amount) GREATEST_AMOUNT) refl refl (done_small v amount (amount_small amount form))
worth_small v mark _ form goes = refl

-- an event's record is in form
pub form_of : (e : Seen) → is_event_record e ≡ true → is_in_form e.body.input ≡ true
form_of e record_is =
    let its = (and_parts (is_some (event_token e.body.input)) (is_record e.body) record_is).1 in
    let spelled = (and_parts (is_stamp e.body.at) (has_spelling e.body.input) its).1 in
    (and_parts (is_in_form e.body.input) (list_all is_token (tokens_of e.body.input)) spelled).0

all_small : (es : List Seen) → list_all is_event_record es ≡ true → list_all do_parts_agree es ≡ true
    → list_all is_small_seen es ≡ true
all_small [] records agree = refl
all_small (e ∷ es) records agree =
    let its = and_parts (is_event_record e) (list_all is_event_record es) records in
    let goes = and_parts (do_parts_agree e) (list_all do_parts_agree es) agree in
    ap₂ (λ (a b : Bool). a && b) (worth_small e.verdict e.mark e.body.input (form_of e its.0) goes.0) (all_small es its.1 goes.1)

-- what each event of a sound state comes to is small
pub sound_small : (s : State) → AreSoundAlone s → list_all is_small_seen s.events ≡ true
sound_small s sound = all_small s.events sound.order.records sound.parts

-- and there are no more of them than there may be records
pub sound_few : (s : State) → AreSoundAlone s → length s.events ≤ MOST_RECORDS
sound_few s sound =
    let few = few_events 0 s.records s.events sound.order.numbers (omega arith) in
    let most = leb-true s.records MOST_RECORDS sound.order.few in
    omega (arith, few, most)

part_small : (part : Total → ℕ) (token : List ℕ) (m : ℕ) (o : Option Total) → ((w : Total) → o ≡ Some w → part w ≤ m)
    → worth_in part token o ≤ m
part_small part token m None each = omega arith
part_small part token m (Some w) each =
    let most : part w ≤ m = each w refl in
    elim (bytes_eq w.txn token) as (λ b. cond b (part w) 0 ≤ m) [ true ↦ most | false ↦ omega arith ]

-- what is small in a worth
small_parts : (w : Total) → is_small (Some w) ≡ true
    → (w.approved ≤ GREATEST_AMOUNT) × ((w.cleared ≤ GREATEST_AMOUNT) × (w.refunded ≤ GREATEST_AMOUNT))
small_parts w small =
    let all = and_parts (nat_le w.approved GREATEST_AMOUNT && nat_le w.cleared GREATEST_AMOUNT) (nat_le w.refunded GREATEST_AMOUNT) small in
    let two = and_parts (nat_le w.approved GREATEST_AMOUNT) (nat_le w.cleared GREATEST_AMOUNT) all.0 in (
      leb-true w.approved GREATEST_AMOUNT two.0,
      (leb-true w.cleared GREATEST_AMOUNT two.1, leb-true w.refunded GREATEST_AMOUNT all.1),
    )

one_more : (m a b n : ℕ) → a ≤ m → b ≤ m * n → a + b ≤ m * suc n
one_more m a b n first rest = omega arith

-- What events come to for a transaction is in no part more than so many greatest amounts.
pub record AreSmall (es : List Seen) (token : List ℕ) (n : ℕ) : Type 0 where
  pub approved : approved_total token es ≤ GREATEST_AMOUNT * n
  pub cleared : done_total (cleared_amount token) es ≤ GREATEST_AMOUNT * n
  pub refunded : done_total (refunded_amount token) es ≤ GREATEST_AMOUNT * n

pub small_sums : (es : List Seen) (token : List ℕ) → list_all is_small_seen es ≡ true → AreSmall es token (length es)
small_sums [] token small = record { approved = omega arith; cleared = omega arith; refunded = omega arith }
small_sums (e ∷ es) token small =
    let its = and_parts (is_small_seen e) (list_all is_small_seen es) small in
    let rest = small_sums es token its.1 in
    let one : (w : Total) → worth_of e ≡ Some w → (w.approved ≤ GREATEST_AMOUNT) × ((w.cleared ≤ GREATEST_AMOUNT) × (w.refunded ≤ GREATEST_AMOUNT)) =
    λ w is. small_parts w (sym (ap is_small is) ∙ its.0) in
    record {
      approved =
          one_more GREATEST_AMOUNT (approved_for token e.verdict e.body.input) (approved_total token es) (length es)
          (subst (λ (n : ℕ). n ≤ GREATEST_AMOUNT) (sym (approved_is token e.verdict e.body.input))
          (part_small (λ t. t.approved) token GREATEST_AMOUNT (worth_of e) (λ w is. (one w is).0)))
          rest.approved;
      cleared =
          one_more GREATEST_AMOUNT (cond (is_done e.verdict) (cleared_amount token e.body.input) 0) (done_total (cleared_amount token) es) (length es)
          (subst (λ (n : ℕ). n ≤ GREATEST_AMOUNT) (sym (cleared_is token e.verdict e.body.input))
          (part_small (λ t. t.cleared) token GREATEST_AMOUNT (worth_of e) (λ w is. (one w is).1.0)))
          rest.cleared;
      refunded =
          one_more GREATEST_AMOUNT (cond (is_done e.verdict) (refunded_amount token e.body.input) 0) (done_total (refunded_amount token) es) (length es)
          (subst (λ (n : ℕ). n ≤ GREATEST_AMOUNT) (sym (refunded_is token e.verdict e.body.input))
          (part_small (λ t. t.refunded) token GREATEST_AMOUNT (worth_of e) (λ w is. (one w is).1.1)))
          rest.refunded;
    }

-- what all pass, those in front pass
all_front : {A : Type 0} (p : A → Bool) (i : ℕ) (xs : List A) → list_all p xs ≡ true → list_all p (take i xs) ≡ true
all_front p zero xs all = refl
all_front p (suc i) [] all = refl
all_front p (suc i) (x ∷ xs) all =
    let its = and_parts (p x) (list_all p xs) all in
    ap₂ (λ (a b : Bool). a && b) its.0 (all_front p i xs its.1)

scaled : (m k n r b : ℕ) → b ≤ m * k → k ≤ n → n ≤ r → b ≤ r * m
scaled m k n r b small few most = grind arith

-- totals of the first events have room
pub have_room : (ts : List Total) (es : List Seen) (i : ℕ) → list_all is_small_seen es ≡ true → length es ≤ MOST_RECORDS
    → AreTotalsOf ts (take i es) → HaveRoom ts
have_room ts es i small few are token =
    let sums = small_sums (take i es) token (all_front is_small_seen i es small) in
    let front : length (take i es) ≤ length es = omega (arith, length-take i es) in
    let fits : (a b : ℕ) → a ≡ b → b ≤ GREATEST_AMOUNT * length (take i es) → a ≤ MOST_RECORDS * GREATEST_AMOUNT =
    λ a b is most.
    scaled GREATEST_AMOUNT (length (take i es)) (length es) MOST_RECORDS a
    (subst (λ (n : ℕ). n ≤ GREATEST_AMOUNT * length (take i es)) (sym is) most) front few in
    record {
      approved = fits (total_of token ts).approved (approved_total token (take i es)) (are.approved token) sums.approved;
      cleared = fits (total_of token ts).cleared (done_total (cleared_amount token) (take i es)) (are.cleared token) sums.cleared;
      refunded = fits (total_of token ts).refunded (done_total (refunded_amount token) (take i es)) (are.refunded token) sums.refunded;
    }

-- so has a total that is found among them
pub found_room : (ts : List Total) (token : List ℕ) (t : Total) → HaveRoom ts → find (λ x. bytes_eq x.txn token) ts ≡ Some t
    → IsWithin (2 ^ 63) t
found_room ts token t room found =
    let its : IsWithin (MOST_RECORDS * GREATEST_AMOUNT) t =
    subst (λ (o : Option Total). IsWithin (MOST_RECORDS * GREATEST_AMOUNT) (unwrap_or o (no_total token))) found (room token) in
    record { approved = omega (arith, its.approved); cleared = omega (arith, its.cleared); refunded = omega (arith, its.refunded) }
