-- All that is moved together is less than 2^62, so balances stay small.
use Rattle.std.proofs.Common.{◌≡◌, ◌∙◌, ◌∷◌, ◌&&◌, ◌+◌, ◌*◌, ◌<◌, ◌≤◌, ◌==◌, ℕ, ap, arith, Bool, cond, false, length, List, [], map, nat_le, nat_lt, suc, sym, true}
use Rattle.std.specs.Prelude.{Option, Some, ◌^◌}
use Rattle.std.specs.List.{list_all}
use Rattle.std.proofs.lemmas.Bool.{and_parts}
use Rattle.std.proofs.lemmas.Bool.Decides.{nat_tests}
use Rattle.iss_model.specs.declared.call.CallState.{CallState}
use Rattle.iss_model.specs.declared.call.CallState.TheVariants as call_state
use Rattle.iss_model.specs.declared.call.How.TheVariants as how
use Rattle.iss_model.specs.declared.currency.Currency.{Currency}
use Rattle.iss_model.specs.declared.decision.Verdict.{Verdict}
use Rattle.iss_model.specs.declared.decision.Verdict.TheVariants as verdict
use Rattle.iss_model.specs.declared.input.Input.{Input}
use Rattle.iss_model.specs.declared.input.Input.TheVariants as input
use Rattle.iss_model.specs.declared.limits.TheConstants.{GREATEST_AMOUNT, MOST_RECORDS}
use Rattle.iss_model.specs.declared.state.Carried.{Carried}
use Rattle.iss_model.specs.declared.state.Seen.{Seen}
use Rattle.iss_model.specs.declared.state.State.{State}
use Rattle.iss_model.specs.Currencies.{same_currency}
use Rattle.iss_model.specs.Forms.{is_amount, is_in_form, is_mcc, is_stamp}
use Rattle.iss_model.specs.Tokens.{is_token}
use Rattle.iss_model.specs.rules.Activity.{TxnNow}
use Rattle.iss_model.specs.state.Kept.{nothing_kept}
use Rattle.iss_model.specs.texts.Spelling.{has_spelling, is_record, tokens_of}
use Rattle.iss_model.proofs.Lists.{map-map}
use Rattle.iss_state.specs.Stakes.{are_distinct}
use Rattle.iss_state.proofs.invariants.OwnEntries.{most_amount}
use Rattle.iss_states.specs.Again.{amount_of_event}
use Rattle.iss_states.specs.Order.{AreInOrder, do_numbers_rise, is_event_record}
use Rattle.iss_states.specs.Rebuilding.{is_done, rebuilt}
use Rattle.iss_well_formed.specs.Again.{listed, standing}
use Rattle.iss_well_formed.specs.Txns.{AreFair, AreSumsDone}
use Rattle.iss_well_formed.proofs.GrownAgain.{grown_again}
use Rattle.iss_decided.specs.Approved.{AreApproved, approved_amount}
use Rattle.iss_decided.specs.Verdicts.{do_parts_agree, goes_with_part, permits_this_part}
use Rattle.iss_bounded.proofs.OpenLoad.{tokens_distinct}
use Rattle.iss_sound_balances.specs.Moves.{OwedStaySmall, after_loads, input_moves, listed_moves, load_moves}
use Rattle.iss_sound_balances.proofs.MovesEach.{moved_total, all_total, small_all, nothing_within, le_true, weights, txns_within, weights_of, weights_none, weights_more, worth, weights_within}

-- events are small ----

part_within : (i : Input) (mark : Option CallState) (currency : Currency) (amount : ℕ) → goes_with_part i (Some (verdict.Partial currency amount)) mark ≡ true → amount ≤ amount_of_event i
part_within i (Some (call_state.Closed (how.Partial part))) currency amount h =
    permitted i (and_parts (amount == part) (permits_this_part i currency amount) h).1
  where
    less : (m n : ℕ) → nat_lt m n ≡ true → m ≤ n
    less m n h = grind (arith, nat_tests)

    permitted : (i : Input) → permits_this_part i currency amount ≡ true → amount ≤ amount_of_event i
    permitted (input.Authorization event card own whole mcc mid partial) k =
        less amount whole (and_parts (partial && same_currency currency own) (nat_lt amount whole) k).1
    permitted _ k = cc
part_within i _ currency amount h = cc

approved_within : (i : Input) (v : Option Verdict) (mark : Option CallState) → goes_with_part i v mark ≡ true → approved_amount v i ≤ amount_of_event i
approved_within i (Some verdict.Approved) mark h = same (amount_of_event i)
  where
    same : (n : ℕ) → n ≤ n
    same n = omega arith
approved_within i (Some (verdict.Partial currency amount)) mark h = part_within i mark currency amount h
approved_within i _ mark h = least (amount_of_event i)
  where
    least : (n : ℕ) → 0 ≤ n
    least n = omega arith

event_within : (i : Input) (v : Option Verdict) (mark : Option CallState) → is_in_form i ≡ true → goes_with_part i v mark ≡ true
    → moved_total (cond (is_done v) (input_moves i) []) + 3 * worth v i ≤ 3 * GREATEST_AMOUNT
event_within (input.Authorization event card currency amount mcc mid partial) v mark form parts =
    by (is_done v) (approved_amount v (input.Authorization event card currency amount mcc mid partial)) amount
    (approved_within (input.Authorization event card currency amount mcc mid partial) v mark parts) (most_amount amount (and_parts (is_amount amount) (is_mcc mcc) form).0)
  where
    by : (b : Bool) (n m : ℕ) → n ≤ m → m ≤ GREATEST_AMOUNT → moved_total (cond b [] []) + 3 * n ≤ 3 * GREATEST_AMOUNT
    by true n m h k = omega (arith, h, k)
    by false n m h k = omega (arith, h, k)
event_within (input.Increment event txn currency amount) v mark form parts =
    by (is_done v) (approved_amount v (input.Increment event txn currency amount)) amount
    (approved_within (input.Increment event txn currency amount) v mark parts) (most_amount amount form)
  where
    by : (b : Bool) (n m : ℕ) → n ≤ m → m ≤ GREATEST_AMOUNT → moved_total (cond b [] []) + 3 * n ≤ 3 * GREATEST_AMOUNT
    by true n m h k = omega (arith, h, k)
    by false n m h k = omega (arith, h, k)
event_within (input.Clearing event txn currency amount last) v mark form parts = by (is_done v) amount (most_amount amount form)
  where
    by : (b : Bool) (n : ℕ) → n ≤ GREATEST_AMOUNT → moved_total (cond b [] []) + 3 * cond b n 0 ≤ 3 * GREATEST_AMOUNT
    by true n h = omega (arith, h)
    by false n h = omega arith
event_within (input.Load token user currency amount) v mark form parts = by (is_done v) (most_amount amount form)
  where
    by : (b : Bool) → amount ≤ GREATEST_AMOUNT → moved_total (cond b (input_moves (input.Load token user currency amount)) []) + 3 * 0 ≤ 3 * GREATEST_AMOUNT
    by true h = omega (arith, h)
    by false h = omega arith
event_within i v mark form parts = by (is_done v)
  where
    by : (b : Bool) → moved_total (cond b [] []) + 3 * 0 ≤ 3 * GREATEST_AMOUNT
    by true = omega arith
    by false = omega arith

event_form : (e : Seen) → is_event_record e ≡ true → is_in_form e.body.input ≡ true
event_form e h =
    let own : is_record e.body ≡ true = (and_parts _ (is_record e.body) h).1 in
    (and_parts (is_in_form e.body.input) (list_all is_token (tokens_of e.body.input)) (and_parts (is_stamp e.body.at) (has_spelling e.body.input) own).1).0

events_within : (ts : List Carried) → are_distinct (map (λ t. t.txn) ts) ≡ true → (es : List Seen) → list_all is_event_record es ≡ true → list_all do_parts_agree es ≡ true
    → all_total load_moves es + 3 * weights ts es ≤ length es * (3 * GREATEST_AMOUNT)
events_within ts distinct [] form parts = none (weights ts []) (weights_none ts)
  where
    none : (n : ℕ) → n ≡ 0 → 0 + 3 * n ≤ 0 * (3 * GREATEST_AMOUNT)
    none n e = omega (arith, e)
events_within ts distinct (e ∷ es) form parts =
    let forms = and_parts (is_event_record e) (list_all is_event_record es) form in
    let agree = and_parts (do_parts_agree e) (list_all do_parts_agree es) parts in
    more (moved_total (load_moves e)) (all_total load_moves es) (worth e.verdict e.body.input) (weights_of ts e) (weights ts es) (weights ts (e ∷ es)) (length es)
    (event_within e.body.input e.verdict e.mark (event_form e forms.0) agree.0) (weights_within ts e distinct) (weights_more ts e es) (events_within ts distinct es forms.1 agree.1)
  where
    more : (a b w o r x n : ℕ) → a + 3 * w ≤ 3 * GREATEST_AMOUNT → o ≤ w → x ≡ o + r → b + 3 * r ≤ n * (3 * GREATEST_AMOUNT) → (a + b) + 3 * x ≤ suc n * (3 * GREATEST_AMOUNT)
    more a b w o r x n h k e g = omega (arith, h, k, e, g)

-- there are no more events than records
few_events : (last records : ℕ) (es : List Seen) → do_numbers_rise last records es ≡ true → last ≤ records → last + length es ≤ records
few_events last records [] h below = none last records below
  where
    none : (m n : ℕ) → m ≤ n → m + 0 ≤ n
    none m n h = omega (arith, h)
few_events last records (e ∷ es) h below =
    let both = and_parts (nat_lt last e.number && nat_le e.number records) (do_numbers_rise e.number records es) h in
    let own = and_parts (nat_lt last e.number) (nat_le e.number records) both.0 in
    more last e.number (length es) records (less last e.number own.0) (few_events e.number records es both.1 (le_true e.number records own.1))
  where
    less : (m n : ℕ) → nat_lt m n ≡ true → m < n
    less m n h = grind (arith, nat_tests)

    more : (m k n r : ℕ) → m < k → k + n ≤ r → m + suc n ≤ r
    more m k n r h g = omega (arith, h, g)

-- all together ----

pub tokens_listed : (s : State) → AreInOrder s → map standing (rebuilt s).holdings.txns ≡ map listed s.txns → are_distinct (map (λ t. t.txn) s.txns) ≡ true
tokens_listed s order begun =
    ap are_distinct (sym (map-map listed (λ (p : List ℕ × Bool). p.0) s.txns) ∙ ap (map (λ (p : List ℕ × Bool). p.0)) (sym begun) ∙ map-map standing (λ (p : List ℕ × Bool). p.0) (rebuilt s).holdings.txns)
    ∙ tokens_distinct (rebuilt s).holdings.txns (grown_again s order.tokens order.records).txns.tokens

-- While loads and transactions of a state are made, each balance stays small.
pub owed_small : (txns : List TxnNow) (s : State) → AreInOrder s → list_all do_parts_agree s.events ≡ true → AreSumsDone s → AreFair s → AreApproved s
    → map standing (rebuilt s).holdings.txns ≡ map listed s.txns → OwedStaySmall txns s
owed_small txns s order parts done fair approved begun =
    let loads = small_all load_moves 0 nothing_kept s.events nothing_within (few_loads (all_total load_moves s.events) (all_total (listed_moves txns) s.txns) together) in
    let rest = small_all (listed_moves txns) (0 + all_total load_moves s.events) (after_loads s) s.txns loads.1 (few_all (all_total load_moves s.events) (all_total (listed_moves txns) s.txns) together) in
    record { loads = loads.0; txns_too = rest.0 }
  where
    bounded : (l t w n r : ℕ) → t ≤ 3 * w → l + 3 * w ≤ n * (3 * GREATEST_AMOUNT) → 0 + n ≤ r → r ≤ MOST_RECORDS → l + t < 2 ^ 62
    bounded l t w n r h k g few = omega (arith, h, k, g, few)

    least : (n : ℕ) → 0 ≤ n
    least n = omega arith

    together : all_total load_moves s.events + all_total (listed_moves txns) s.txns < 2 ^ 62
    together =
        bounded (all_total load_moves s.events) (all_total (listed_moves txns) s.txns) (weights s.txns s.events) (length s.events) s.records
        (txns_within txns s.events s.txns done.listed fair approved)
        (events_within s.txns (tokens_listed s order begun) s.events order.records parts)
        (few_events 0 s.records s.events order.numbers (least s.records)) (le_true s.records MOST_RECORDS order.few)

    few_loads : (l t : ℕ) → l + t < 2 ^ 62 → 0 + l < 2 ^ 62
    few_loads l t h = omega (arith, h)

    few_all : (l t : ℕ) → l + t < 2 ^ 62 → (0 + l) + t < 2 ^ 62
    few_all l t h = omega (arith, h)
