-- What an event was approved for, has moved or asks for is at most the greatest amount, and together it is at most that for each record.
use Rattle.std.proofs.Common.{◌≡◌, ◌∷◌, ◌&&◌, ◌+◌, ◌*◌, ◌==◌, ◌≤◌, ℕ, arith, Bool, cond, false, List, [], nat_le, nat_lt, not, refl, suc, true, zero}
use Rattle.std.specs.Prelude.{Option, Some, None, is_none}
use Rattle.std.specs.List.{list_all}
use Rattle.std.proofs.lemmas.Bool.{and_parts}
use Rattle.std.proofs.lemmas.Bool.Decides.{nat_tests}
use Rattle.iss_model.specs.declared.call.CallState.{CallState}
use Rattle.iss_model.specs.declared.call.CallState.TheVariants as call_state
use Rattle.iss_model.specs.declared.call.How.TheVariants as how
use Rattle.iss_model.specs.declared.currency.Currency.{Currency}
use Rattle.iss_model.specs.declared.decision.Verdict.{Verdict}
use Rattle.iss_model.specs.declared.decision.Verdict.TheVariants as verdict
use Rattle.iss_model.specs.declared.input.Input.{Input}
use Rattle.iss_model.specs.declared.input.Input.TheVariants as input
use Rattle.iss_model.specs.declared.limits.TheConstants.{GREATEST_AMOUNT}
use Rattle.iss_model.specs.declared.state.Seen.{Seen}
use Rattle.iss_model.specs.Currencies.{same_currency}
use Rattle.iss_model.specs.Forms.{is_amount, is_in_form, is_mcc, is_stamp}
use Rattle.iss_model.specs.Inputs.{event_token}
use Rattle.iss_model.specs.Tokens.{is_token}
use Rattle.iss_model.specs.texts.Spelling.{has_spelling, is_record, tokens_of}
use Rattle.iss_state.specs.Stakes.{at_least_one}
use Rattle.iss_state.proofs.invariants.OwnEntries.{most_amount}
use Rattle.iss_states.specs.Again.{amount_of_event}
use Rattle.iss_states.specs.Order.{do_numbers_rise, is_event_record}
use Rattle.iss_states.specs.Rebuilding.{how_of_mark, is_done}
use Rattle.iss_states.specs.Showing.{is_asked_mark}
use Rattle.iss_well_formed.specs.Events.{both_or_neither, is_marked_well, is_pending_if_asked, may_stand}
use Rattle.iss_well_formed.specs.Txns.{done_total}
use Rattle.iss_decided.specs.Approved.{approved_amount}
use Rattle.iss_decided.specs.Verdicts.{do_parts_agree, goes_with_part, permits_this_part}
use Rattle.std.specs.Prelude.{is_some}

-- what a load, a clearing or a refund moves
abbrev pub moved_amount : Input → ℕ
moved_amount (input.Load token user currency amount) = amount
moved_amount (input.Clearing event txn currency amount last) = amount
moved_amount (input.Refund event txn currency amount) = amount
moved_amount _ = 0

-- what an event with this mark asks
abbrev pub marked_ask : Option CallState → Input → ℕ
marked_ask None i = 0
marked_ask (Some mark) i = cond (is_none (how_of_mark mark)) (at_least_one (amount_of_event i)) 0

-- what an event was approved for
abbrev pub approved_by : Seen → ℕ
approved_by e = approved_amount e.verdict e.body.input

-- what an event that is done has moved
abbrev pub done_by : Seen → ℕ
done_by e = cond (is_done e.verdict) (moved_amount e.body.input) 0

-- what an event asks
abbrev pub asked_by : Seen → ℕ
asked_by e = marked_ask e.mark e.body.input

-- what events come to by this weight
abbrev pub total_by : (Seen → ℕ) → List Seen → ℕ
total_by weight [] = 0
total_by weight (e ∷ es) = weight e + total_by weight es

-- one event ----

moved_most : (i : Input) → is_in_form i ≡ true → moved_amount i ≤ GREATEST_AMOUNT
moved_most (input.Load token user currency amount) h = most_amount amount h
moved_most (input.Clearing event txn currency amount last) h = most_amount amount h
moved_most (input.Refund event txn currency amount) h = most_amount amount h
moved_most _ h = omega arith

ask_most : (i : Input) → is_in_form i ≡ true → amount_of_event i ≤ GREATEST_AMOUNT
ask_most (input.Authorization token card currency amount mcc mid partial) h = most_amount amount (and_parts (is_amount amount) (is_mcc mcc) h).0
ask_most (input.Increment token txn currency amount) h = most_amount amount h
ask_most _ h = omega arith

least_most : (n : ℕ) → n ≤ GREATEST_AMOUNT → at_least_one n ≤ GREATEST_AMOUNT
least_most zero h = omega arith
least_most (suc n) h = h

marked_most : (m : Option CallState) (i : Input) → is_in_form i ≡ true → marked_ask m i ≤ GREATEST_AMOUNT
marked_most None i h = omega arith
marked_most (Some mark) i h = by (is_none (how_of_mark mark))
  where
    by : (b : Bool) → cond b (at_least_one (amount_of_event i)) 0 ≤ GREATEST_AMOUNT
    by true = least_most (amount_of_event i) (ask_most i h)
    by false = omega arith

-- a decided event asks nothing
decided_ask : (m : Option CallState) (i : Input) → not (is_asked_mark m) ≡ true → may_stand m ≡ true → marked_ask m i ≡ 0
decided_ask None i h k = refl
decided_ask (Some call_state.Asked) i h k = cc
decided_ask (Some call_state.Unknown) i h k = cc
decided_ask (Some (call_state.Closed how)) i h k = refl

less : (n m : ℕ) → nat_lt n m ≡ true → n ≤ m
less n m h = grind (arith, nat_tests)

permitted_most : (i : Input) (currency : Currency) (part : ℕ) → is_in_form i ≡ true → permits_this_part i currency part ≡ true → part ≤ GREATEST_AMOUNT
permitted_most (input.Authorization token card own amount mcc mid partial) currency part form h =
    let small : part ≤ amount = less part amount (and_parts (partial && same_currency currency own) (nat_lt part amount) h).1 in
    let most : amount ≤ GREATEST_AMOUNT = most_amount amount (and_parts (is_amount amount) (is_mcc mcc) form).0 in
    through part amount GREATEST_AMOUNT small most
  where
    through : (a b d : ℕ) → a ≤ b → b ≤ d → a ≤ d
    through a b d h k = omega (arith, h, k)
permitted_most _ currency part form h = cc

-- a part that an event is approved for is at most the greatest amount
pub part_most : (i : Input) (currency : Currency) (amount : ℕ) (m : Option CallState) → is_in_form i ≡ true → goes_with_part i (Some (verdict.Partial currency amount)) m ≡ true → amount ≤ GREATEST_AMOUNT
part_most i currency amount (Some (call_state.Closed (how.Partial part))) form h = permitted_most i currency amount form (and_parts (amount == part) (permits_this_part i currency amount) h).1
part_most i currency amount (Some (call_state.Closed how.Funded)) form h = cc
part_most i currency amount (Some (call_state.Closed how.Refused)) form h = cc
part_most i currency amount (Some (call_state.Closed (how.Failed why))) form h = cc
part_most i currency amount (Some (call_state.Closed how.Abandoned)) form h = cc
part_most i currency amount (Some call_state.Asked) form h = cc
part_most i currency amount (Some call_state.Unknown) form h = cc
part_most i currency amount None form h = cc

event_fits : (v : Option Verdict) (m : Option CallState) (i : Input) → is_in_form i ≡ true → both_or_neither (is_none v) (is_asked_mark m) ≡ true → may_stand m ≡ true → goes_with_part i v m ≡ true
    → (approved_amount v i + cond (is_done v) (moved_amount i) 0) + marked_ask m i ≤ GREATEST_AMOUNT
event_fits None m i form pending may parts = omega (arith, marked_most m i form)
event_fits (Some verdict.Approved) m i form pending may parts = omega (arith, ask_most i form, decided_ask m i pending may)
event_fits (Some (verdict.Partial currency amount)) m i form pending may parts = omega (arith, part_most i currency amount m form parts, decided_ask m i pending may)
event_fits (Some (verdict.Declined why)) m i form pending may parts = omega (arith, decided_ask m i pending may)
event_fits (Some verdict.Done) m i form pending may parts = omega (arith, moved_most i form, decided_ask m i pending may)

pub form_of_event : (e : Seen) → is_event_record e ≡ true → is_in_form e.body.input ≡ true
form_of_event e h =
    let form : is_record e.body ≡ true = (and_parts (is_some (event_token e.body.input)) (is_record e.body) h).1 in
    (and_parts (is_in_form e.body.input) (list_all is_token (tokens_of e.body.input)) (and_parts (is_stamp e.body.at) (has_spelling e.body.input) form).1).0

pub stamp_of_event : (e : Seen) → is_event_record e ≡ true → is_stamp e.body.at ≡ true
stamp_of_event e h = (and_parts (is_stamp e.body.at) (has_spelling e.body.input) (and_parts (is_some (event_token e.body.input)) (is_record e.body) h).1).0

-- all events ----

-- What is known of each event of a sound state by itself.
pub record AreEventsWell (es : List Seen) : Type 0 where
  pub records : list_all is_event_record es ≡ true
  pub pending : list_all is_pending_if_asked es ≡ true
  pub marked : list_all is_marked_well es ≡ true
  pub parts : list_all do_parts_agree es ≡ true

totals_fit : (last records : ℕ) (es : List Seen) → do_numbers_rise last records es ≡ true → AreEventsWell es → last ≤ records
    → ((total_by approved_by es + total_by done_by es) + total_by asked_by es) + last * GREATEST_AMOUNT ≤ records * GREATEST_AMOUNT
totals_fit last records [] rise h le = omega (arith, le)
totals_fit last records (e ∷ es) rise h le =
    let parts = and_parts (nat_lt last e.number && nat_le e.number records) (do_numbers_rise e.number records es) rise in
    let numbers = and_parts (nat_lt last e.number) (nat_le e.number records) parts.0 in
    let record_parts = and_parts (is_event_record e) (list_all is_event_record es) h.records in
    let pending_parts = and_parts (is_pending_if_asked e) (list_all is_pending_if_asked es) h.pending in
    let marked_parts = and_parts (is_marked_well e) (list_all is_marked_well es) h.marked in
    let agree_parts = and_parts (do_parts_agree e) (list_all do_parts_agree es) h.parts in
    let fits = event_fits e.verdict e.mark e.body.input (form_of_event e record_parts.0) pending_parts.0 marked_parts.0 agree_parts.0 in
    let rest = totals_fit e.number records es parts.1 (record { records = record_parts.1; pending = pending_parts.1; marked = marked_parts.1; parts = agree_parts.1 }) (up_to e.number records numbers.1) in
    joined (approved_by e) (done_by e) (asked_by e) (total_by approved_by es) (total_by done_by es) (total_by asked_by es) last e.number records (next_to last e.number numbers.0) fits rest
  where
    up_to : (n m : ℕ) → nat_le n m ≡ true → n ≤ m
    up_to n m h = grind (arith, nat_tests)

    next_to : (n m : ℕ) → nat_lt n m ≡ true → n + 1 ≤ m
    next_to n m h = grind (arith, nat_tests)

    joined : (a d q xs ds qs last n records : ℕ) → last + 1 ≤ n → (a + d) + q ≤ GREATEST_AMOUNT → ((xs + ds) + qs) + n * GREATEST_AMOUNT ≤ records * GREATEST_AMOUNT
        → (((a + xs) + (d + ds)) + (q + qs)) + last * GREATEST_AMOUNT ≤ records * GREATEST_AMOUNT
    joined a d q xs ds qs last n records h k rest = omega (arith, h, k, rest)

-- all that the events of a state were approved for, moved and ask is at most the greatest amount for each record
pub events_fit : (records : ℕ) (es : List Seen) → do_numbers_rise 0 records es ≡ true → AreEventsWell es → (total_by approved_by es + total_by done_by es) + total_by asked_by es ≤ records * GREATEST_AMOUNT
events_fit records es rise h = omega (arith, totals_fit 0 records es rise h (none records))
  where
    none : (n : ℕ) → 0 ≤ n
    none n = omega arith

-- what events moved by a worth that is part of what they move
pub done_most : (worth : Input → ℕ) → ((i : Input) → worth i ≤ moved_amount i) → (es : List Seen) → done_total worth es ≤ total_by done_by es
done_most worth le [] = omega arith
done_most worth le (e ∷ es) = by (is_done e.verdict) (worth e.body.input) (moved_amount e.body.input) (done_total worth es) (total_by done_by es) (le e.body.input) (done_most worth le es)
  where
    by : (b : Bool) (m n ms ns : ℕ) → m ≤ n → ms ≤ ns → cond b m 0 + ms ≤ cond b n 0 + ns
    by true m n ms ns h k = omega (arith, h, k)
    by false m n ms ns h k = omega (arith, k)
