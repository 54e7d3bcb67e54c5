-- A step on a well-formed state leaves a well-formed one, and so do legal records.
use Rattle.std.proofs.Common.{◌≡◌, ◌∙◌, ◌&&◌, ◌||◌, ◌≤◌, ℕ, ap, ap₂, Bool, false, length, List, [], map, not, refl, subst, sym, true, ◌+◌, ◌*◌, filter, arith}
use Rattle.std.specs.Prelude.{is_some}
use Rattle.std.specs.List.{list_all, list_any}
use Rattle.std.specs.Str.{bytes_eq}
use Rattle.iss_model.specs.declared.input.Record.{Record}
use Rattle.iss_model.specs.declared.limits.TheConstants.{MOST_RECORDS}
use Rattle.iss_model.specs.declared.state.State.{State}
use Rattle.iss_model.specs.rules.Activity.{CallNow, TxnNow, call_numbered, is_asked}
use Rattle.iss_model.specs.rules.Asks.{is_authorization}
use Rattle.iss_model.specs.rules.Facts.{Facts}
use Rattle.iss_model.specs.rules.Histories.{IsLegal}
use Rattle.iss_model.specs.rules.Reasons.{is_some_with}
use Rattle.iss_model.specs.rules.Stepping.{step}
use Rattle.iss_model.specs.state.Cores.{CoreState, core_keeper, core_of, no_core}
use Rattle.iss_model.proofs.Lists.{map-map}
use Rattle.iss_agreement.proofs.CoreOfBook.{facts_history}
use Rattle.iss_agreement.proofs.Records.{records_history}
use Rattle.iss_model.proofs.Names.{its_name, one_name}
use Rattle.iss_state.specs.Few.{HasFewNumbers}
use Rattle.iss_state.specs.Pending.{IsWell}
use Rattle.iss_state.specs.Sound.{IsNewEvent}
use Rattle.iss_state.proofs.calls.Legal.{core_well}
use Rattle.iss_state.proofs.calls.FewSteps.{few_of_records, few_step}
use Rattle.iss_state.proofs.calls.Steps.{step_well}
use Rattle.iss_state.proofs.held.Steps.{core_held, step_held}
use Rattle.iss_state.proofs.docket.Closing.{StandsItself, all_stand}
use Rattle.iss_state.proofs.docket.Lists.{Each, inside}
use Rattle.iss_state.proofs.invariants.NewEvents.{judged_new}
use Rattle.iss_states.specs.Order.{IsNewOnState}
use Rattle.iss_states.specs.Rebuilding.{rebuilt, state_after}
use Rattle.iss_states.specs.Settled.{WereJudged, set_again, set_part}
use Rattle.iss_states.specs.Showing.{carried_in, mark_in, no_state, seen_in, shown, token_of_event}
use Rattle.iss_states.proofs.AgainSteps.{legal_calls}
use Rattle.iss_states.proofs.Decided.{step_takes_up}
use Rattle.iss_states.proofs.Nothing.{nothing_shown}
use Rattle.iss_states.proofs.EventOrder.{order_after}
use Rattle.iss_states.proofs.Judged.{step_judged}
use Rattle.iss_states.proofs.Rebuilt.{events_rebuilt}
use Rattle.iss_rebuilt.specs.Sums.{AreRecords}
use Rattle.iss_rebuilt.specs.Purchases.{HasCallsAgain, HasTxnsAgain}
use Rattle.iss_rebuilt.proofs.DecidedAgain.{decisions_rebuilt}
use Rattle.iss_rebuilt.proofs.Made.{words_of}
use Rattle.iss_rebuilt.proofs.MadeShown.{IsMade, calls_rebuilt, own_found, txns_rebuilt}
use Rattle.iss_rebuilt.proofs.MadeSteps.{legal_calls_rebuilt, legal_txns_rebuilt, step_made}
use Rattle.iss_well_formed.specs.Again.{AreOfTheirEvents, is_alone, is_of_listed, is_unasked_if_ended, listed, standing}
use Rattle.iss_well_formed.specs.WellFormed.{HasFewNotices, IsWellFormed}
use Rattle.iss_well_formed.proofs.FairAgain.{fair_after}
use Rattle.iss_well_formed.proofs.NoticeSteps.{legal_told, told_after}
use Rattle.iss_well_formed.proofs.DoneAgain.{legal_sums_done, sums_again, sums_done_shown, unkept_again}
use Rattle.iss_well_formed.proofs.ListedSums.{sums_unkept}
use Rattle.iss_well_formed.proofs.SumSteps.{step_sums}
use Rattle.iss_well_formed.proofs.HeldAgain.{held_again, held_shown}
use Rattle.iss_well_formed.proofs.MarkSteps.{legal_marked, marked_after}
use Rattle.iss_well_formed.proofs.GrownAgain.{own_again}
use Rattle.iss_well_formed.proofs.LegalOrder.{legal_in_order}
use Rattle.iss_well_formed.proofs.ListedCalls.{AreListed, step_listed}
use Rattle.iss_well_formed.proofs.MadeAgain.{judged_again, made_too, set_too}
use Rattle.iss_well_formed.proofs.OwnEvents.{IsOwn, all_of_each, each_accepted, step_own}
use Rattle.iss_well_formed.proofs.ShownEvents.{judged_shown, legal_events_judged, legal_pending, pending_shown}
use Rattle.iss_well_formed.proofs.ShownTxns.{legal_fair, IsFound, all_carried, none_asked}
use Rattle.iss_well_formed.proofs.WellAgain.{well_again}

-- what a core shows, if it is well and its transactions and calls are made of its events ----

module _ (w : CoreState) (well : IsWell w) (txns : HasTxnsAgain w) (calls : HasCallsAgain w) (called : AreListed w) where
  abbrev d : CoreState
  d = rebuilt (shown w)

  events_too : (shown d).events ≡ (shown w).events
  events_too =
      λ i. map (λ a. record (seen_in w a) { verdict = decisions_rebuilt w well (token_of_event a) i; mark = mark_in (calls i) (token_of_event a) }) (events_rebuilt w i)

  begun_too : map standing d.holdings.txns ≡ map listed (shown w).txns
  begun_too = ap (map standing) txns ∙ sym (map-map (carried_in w) listed w.holdings.txns)

  ended_one : (t : TxnNow) → IsFound w t → is_unasked_if_ended w.calls (carried_in w t) ≡ true
  ended_one t found = by t.live refl
    where
      by : (b : Bool) → t.live ≡ b → (b || not (list_any (λ x. is_asked x && bytes_eq x.opened.txn t.txn.token) w.calls)) ≡ true
      by true e = refl
      by false e = ap not (none_asked w well t.txn.token (ap (is_some_with (λ (t : TxnNow). t.live)) found ∙ e))

  alone_one : (x : CallNow) → StandsItself w.calls x → is_alone w.calls x ≡ true
  alone_one x stands = by (is_asked x) (is_authorization x.opened.method) refl refl
    where
      other : is_asked x ≡ true → is_authorization x.opened.method ≡ true → (y : CallNow) → StandsItself w.calls y → (not (is_asked y && bytes_eq y.opened.txn x.opened.txn) || bytes_eq y.opened.event x.opened.event) ≡ true
      other asked first y itself = with_tests (is_asked y) (bytes_eq y.opened.txn x.opened.txn) refl refl
        where
          with_tests : (a b : Bool) → is_asked y ≡ a → bytes_eq y.opened.txn x.opened.txn ≡ b → (not (a && b) || bytes_eq y.opened.event x.opened.event) ≡ true
          with_tests false b e f = refl
          with_tests true false e f = refl
          with_tests true true e f =
              let one : x.opened.call.0 ≡ y.opened.call.0 = well.docket.calls.alone x.opened.call.0 y.opened.call.0 x y (record { stands = stands; asked = asked }) (record { stands = itself; asked = e }) (sym (one_name y.opened.txn x.opened.txn f)) first in
              let same : x ≡ y = inside (sym stands ∙ ap (λ (n : ℕ). call_numbered n w.calls) one ∙ itself) in
              ap (λ (z : CallNow). bytes_eq z.opened.event x.opened.event) (sym same) ∙ its_name x.opened.event

      by : (a b : Bool) → is_asked x ≡ a → is_authorization x.opened.method ≡ b
          → (not (a && b) || list_all (λ y. not (is_asked y && bytes_eq y.opened.txn x.opened.txn) || bytes_eq y.opened.event x.opened.event) w.calls) ≡ true
      by false b e f = refl
      by true false e f = refl
      by true true e f =
          all_of_each (StandsItself w.calls) (λ (y : CallNow). not (is_asked y && bytes_eq y.opened.txn x.opened.txn) || bytes_eq y.opened.event x.opened.event) (other e f) w.calls (all_stand w.calls well.docket.calls.numbers)

  pub shown_of_events : AreOfTheirEvents (shown w)
  shown_of_events =
      record {
        events = events_too;
        begun = begun_too;
        called = ap₂ (λ (ts : List TxnNow) (xs : List CallNow). list_all (is_of_listed ts) xs) txns calls ∙ called;
        ended =
            ap (λ (xs : List CallNow). list_all (is_unasked_if_ended xs) (shown w).txns) calls
            ∙ all_carried w (is_unasked_if_ended w.calls) w.holdings.txns
            (all_of_each (IsFound w) (λ (t : TxnNow). is_unasked_if_ended w.calls (carried_in w t)) ended_one w.holdings.txns (own_found w.holdings.txns well.docket.txns.tokens));
        alone =
            ap (λ (xs : List CallNow). list_all (is_alone xs) xs) calls
            ∙ all_of_each (StandsItself w.calls) (is_alone w.calls) alone_one w.calls (all_stand w.calls well.docket.calls.numbers);
      }

  -- few calls and notices
  pub few_shown : HasFewNumbers w.count w → HasFewNotices (shown w)
  few_shown h =
      record {
        calls = subst (λ (xs : List CallNow). length xs ≤ w.count) (sym calls) h.calls;
        notices =
            subst (λ (xs : List CallNow). w.outbox.made + 2 * length (filter is_asked xs) + length (filter (λ t. t.live) d.holdings.txns) ≤ 4 * w.count) (sym calls)
            (subst (λ (ts : List TxnNow). w.outbox.made + 2 * length (filter is_asked w.calls) + length (filter (λ t. t.live) ts) ≤ 4 * w.count) (sym txns) h.notices);
      }

-- a step ----

pub formed_after : (s : State) (r : Record) → IsWellFormed s → IsNewOnState s r → IsWellFormed (state_after s r)
formed_after s r h now =
    let c : CoreState = rebuilt s in
    let w : CoreState = (step core_keeper c r).world in
    let new : IsNewEvent c r.input = judged_new c r now.new in
    let well : IsWell c = well_again s h.order h.pending h.own in
    let own : Each (IsOwn c.accepted) c.accepted = own_again s h.order in
    let set : set_part c ≡ set_again c.decisions c.accepted = set_too s h.own in
    let judged : WereJudged c.decisions no_core c.accepted = judged_again s h.own h.judged in
    let made : IsMade (words_of w) w.accepted = step_made c r new well set judged (made_too s h.own) in
    let later : IsWell w = step_well c r new well in
    let txns : HasTxnsAgain w = txns_rebuilt w later made in
    let calls : HasCallsAgain w = calls_rebuilt w later made in
    let called : AreListed w = step_listed c r new well h.own.called in
    record {
      order = order_after s r h.order now;
      judged = judged_shown w no_core w.accepted (step_judged c r new well set judged);
      pending = pending_shown w later w.accepted (each_accepted w.accepted (step_own c r new own));
      own = shown_of_events w later txns calls called;
      marked = marked_after s r h.marked;
      holds = held_shown w later (step_held c r new well (held_again s h.own h.holds)) txns calls;
      done = sums_done_shown w (step_sums c r new well own (sums_again s h.own h.done)) (sums_unkept c r new well (unkept_again s h.own h.done));
      fair = fair_after s r h.fair;
      told = told_after s r h.told;
      few = few_shown w later txns calls called (subst (λ (n : ℕ). HasFewNumbers n w) (sym (step_takes_up c r).count) (few_step s.records c r well new h.few));
    }

-- legal records ----

legal_listed : (rs : List Record) → IsLegal rs → AreListed (core_of rs)
legal_listed rs legal =
    let c : CoreState = core_of rs in
    all_of_each (StandsItself c.calls) (is_of_listed c.holdings.txns) (λ x stands. ap is_some (legal_calls rs legal x.opened.call.0 x stands).stands) c.calls (all_stand c.calls (core_well rs legal).docket.calls.numbers)

pub record_count : (rs : List Record) → (core_of rs).count ≡ length rs
record_count rs = ap (λ (f : Facts). f.count) (facts_history rs) ∙ ap (λ (xs : List Record). length xs) (records_history rs)

pub legal_formed : (rs : List Record) → IsLegal rs → AreRecords rs → length rs ≤ MOST_RECORDS → IsWellFormed (shown (core_of rs))
legal_formed rs legal form few =
    let w : CoreState = core_of rs in
    let held = core_held rs legal in
    let txns : HasTxnsAgain w = legal_txns_rebuilt rs legal in
    let calls : HasCallsAgain w = legal_calls_rebuilt rs legal in
    let called : AreListed w = legal_listed rs legal in
    record {
      order = legal_in_order rs legal form few;
      judged = legal_events_judged rs legal;
      pending = legal_pending rs legal;
      own = shown_of_events w held.well txns calls called;
      marked = legal_marked rs legal;
      holds = held_shown w held.well held.held txns calls;
      done = legal_sums_done rs legal;
      fair = legal_fair rs legal;
      told = legal_told rs legal;
      few = few_shown w held.well txns calls called (subst (λ (n : ℕ). HasFewNumbers n w) (sym (record_count rs)) (few_of_records rs legal));
    }

-- no record ----

pub nothing_formed : IsWellFormed no_state
nothing_formed = subst IsWellFormed nothing_shown (legal_formed [] tt refl (least MOST_RECORDS))
  where
    least : (n : ℕ) → length {A = Record} [] ≤ n
    least n = omega arith
