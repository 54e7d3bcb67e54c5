-- A step leaves notices addressed.
use Rattle.std.proofs.Common.{◌≡◌, ◌∙◌, ◌∷◌, ◌&&◌, ℕ, ap, Bool, fold, List, [], refl, subst, true}
use Rattle.std.specs.List.{list_all}
use Rattle.std.proofs.lemmas.Bool.{and_parts}
use Rattle.iss_model.specs.declared.call.Notice.{Notice}
use Rattle.iss_model.specs.declared.input.Input.{Input}
use Rattle.iss_model.specs.declared.input.Record.{Record}
use Rattle.iss_model.specs.declared.state.State.{State}
use Rattle.iss_model.specs.rules.Activity.{CallNow, TxnNow}
use Rattle.iss_model.specs.rules.Due.{DueThing, thing_entries}
use Rattle.iss_model.specs.rules.Histories.{IsLegal, history_of}
use Rattle.iss_model.specs.rules.Stepping.{after_due, entries_of, step}
use Rattle.iss_model.specs.state.Cores.{CoreState, after_entry, core_facts, core_keeper, core_of, no_core, with_record}
use Rattle.iss_model.proofs.Lists.{all_weaker}
use Rattle.iss_acts.specs.Causes.{ComesOf, FallsDue}
use Rattle.iss_acts.proofs.Stepping.{due_stays}
use Rattle.iss_acts.proofs.Walk.{due_goes, own_goes}
use Rattle.iss_state.specs.Holdings.{IsHeldWell}
use Rattle.iss_state.specs.Pending.{HasTakenUp, IsWell}
use Rattle.iss_state.specs.Sound.{IsNewEvent}
use Rattle.iss_state.proofs.calls.Legal.{nothing_well}
use Rattle.iss_state.proofs.calls.Steps.{ready_settled, ready_taken, step_well}
use Rattle.iss_state.proofs.docket.Lists.{both_so}
use Rattle.iss_state.proofs.held.Acts.{IsReadyFor}
use Rattle.iss_state.proofs.held.Inputs.{due_ready, input_ready}
use Rattle.iss_state.proofs.held.Steps.{nothing_held, step_held, thing_held}
use Rattle.iss_state.proofs.invariants.Legal.{legal_induction}
use Rattle.iss_state.proofs.invariants.NewEvents.{judged_new}
use Rattle.iss_states.specs.Order.{IsNewOnState}
use Rattle.iss_states.specs.OverBook.{state_of}
use Rattle.iss_states.specs.Rebuilding.{rebuilt, state_after}
use Rattle.iss_states.specs.Settled.{WereJudged, set_again, set_part}
use Rattle.iss_states.specs.Showing.{shown}
use Rattle.iss_states.proofs.StateOfBook.{state_shown}
use Rattle.iss_rebuilt.specs.Purchases.{HasCallsAgain, HasTxnsAgain}
use Rattle.iss_rebuilt.proofs.Made.{words_of}
use Rattle.iss_rebuilt.proofs.MadeShown.{IsMade, calls_rebuilt, txns_rebuilt}
use Rattle.iss_rebuilt.proofs.MadeSteps.{legal_calls_rebuilt, legal_txns_rebuilt, step_made}
use Rattle.iss_well_formed.specs.WellFormed.{IsWellFormed}
use Rattle.iss_well_formed.proofs.HeldAgain.{held_again}
use Rattle.iss_well_formed.proofs.MadeAgain.{judged_again, made_too, set_too}
use Rattle.iss_well_formed.proofs.WellAgain.{well_again}
use Rattle.iss_noticed.specs.Addressed.{AreAddressed, names_its_call, names_its_txn}
use Rattle.iss_noticed.proofs.AddressedActs.{address_lasts, all_addressed, is_addressed, start_known}
use Rattle.iss_noticed.proofs.KeptNotices.{AllPass, entries_pass}

-- a step of a core ----

-- each notice of a core is addressed
abbrev AreAllAddressed : CoreState → Type 0
AreAllAddressed s = AllPass is_addressed s

-- a record was taken up, all is held well, and notices are addressed
record StaysAddressed (i : Input) (s : CoreState) : Type 0 where
  taken : HasTakenUp s i
  held : IsHeldWell s
  told : AreAllAddressed s

thing_addressed : (s : CoreState) (i : Input) (thing : DueThing) (at : ℕ) → HasTakenUp s i → IsHeldWell s → AreAllAddressed s → AreAllAddressed (fold after_entry s (thing_entries thing at (core_facts s)))
thing_addressed s i thing at taken held told =
    let ready : IsReadyFor FallsDue s = due_ready taken.well held in
    entries_pass is_addressed address_lasts s (thing_entries thing at (core_facts s)) (due_goes (core_facts s) thing at s (all_addressed FallsDue at s ready) (start_known FallsDue at s ready)).holds told

own_addressed : (s : CoreState) (i : Input) (at : ℕ) → HasTakenUp s i → IsHeldWell s → AreAllAddressed s → AreAllAddressed (fold after_entry s (entries_of i at (core_facts s)))
own_addressed s i at taken held told =
    let ready : IsReadyFor (ComesOf i) s = input_ready taken held in
    entries_pass is_addressed address_lasts s (entries_of i at (core_facts s)) (own_goes (core_facts s) i at s (all_addressed (ComesOf i) at s ready) (start_known (ComesOf i) at s ready)).holds told

step_addressed : (c : CoreState) (r : Record) → IsNewEvent c r.input → IsWell c → IsHeldWell c → AreAllAddressed c → AreAllAddressed (step core_keeper c r).world
unfolding step
step_addressed c r new well held told =
    let up : CoreState = with_record c r in
    let due : CoreState = (after_due core_keeper up r.at).world in
    let now : StaysAddressed r.input due = due_stays (StaysAddressed r.input) r.at one up (record { taken = ready_taken c r well new; held = held; told = told }) in
    own_addressed due r.input r.at now.taken now.held now.told
  where
    one : (s : CoreState) (thing : DueThing) → StaysAddressed r.input s → StaysAddressed r.input (fold after_entry s (thing_entries thing r.at (core_facts s)))
    one s thing now =
        record { taken = ready_settled s r.input thing r.at now.taken; held = thing_held s r.input thing r.at now.taken now.held; told = thing_addressed s r.input thing r.at now.taken now.held now.told }

-- states ----

addressed_shown : (w : CoreState) → HasTxnsAgain w → HasCallsAgain w → AreAllAddressed w → AreAddressed (shown w)
addressed_shown w txns calls told =
    record {
      txns = ap (λ (ts : List TxnNow). list_all (names_its_txn ts) w.outbox.pending) txns ∙ all_weaker (is_addressed w) (names_its_txn w.holdings.txns) (λ n h. (and_parts (names_its_txn w.holdings.txns n) (names_its_call w.calls n) h).0) w.outbox.pending told;
      calls = ap (λ (xs : List CallNow). list_all (names_its_call xs) w.outbox.pending) calls ∙ all_weaker (is_addressed w) (names_its_call w.calls) (λ n h. (and_parts (names_its_txn w.holdings.txns n) (names_its_call w.calls n) h).1) w.outbox.pending told;
    }

both_tests : (p q : Notice → Bool) (ns : List Notice) → list_all p ns ≡ true → list_all q ns ≡ true → list_all (λ n. p n && q n) ns ≡ true
both_tests p q [] h k = refl
both_tests p q (n ∷ ns) h k =
    let its = and_parts (p n) (list_all p ns) h in
    let other = and_parts (q n) (list_all q ns) k in
    both_so (p n && q n) (list_all (λ n. p n && q n) ns) (both_so (p n) (q n) its.0 other.0) (both_tests p q ns its.1 other.1)

addressed_again : (s : State) → AreAddressed s → AreAllAddressed (rebuilt s)
addressed_again s h = both_tests (names_its_txn (rebuilt s).holdings.txns) (names_its_call (rebuilt s).calls) s.notices h.txns h.calls

-- what a step of a well-formed state leaves: its transactions and its calls are made again
pub record IsAgainAfter (w : CoreState) : Type 0 where
  pub txns : HasTxnsAgain w
  pub calls : HasCallsAgain w

pub again_after : (s : State) (r : Record) → IsWellFormed s → IsNewOnState s r → IsAgainAfter (step core_keeper (rebuilt s) r).world
again_after s r h now =
    let c : CoreState = rebuilt s in
    let w : CoreState = (step core_keeper c r).world in
    let new : IsNewEvent c r.input = judged_new c r now.new in
    let well : IsWell c = well_again s h.order h.pending h.own in
    let set : set_part c ≡ set_again c.decisions c.accepted = set_too s h.own in
    let judged : WereJudged c.decisions no_core c.accepted = judged_again s h.own h.judged in
    let made : IsMade (words_of w) w.accepted = step_made c r new well set judged (made_too s h.own) in
    let later : IsWell w = step_well c r new well in
    record { txns = txns_rebuilt w later made; calls = calls_rebuilt w later made }

pub addressed_after : (s : State) (r : Record) → IsWellFormed s → AreAddressed s → IsNewOnState s r → AreAddressed (state_after s r)
addressed_after s r h told now =
    let c : CoreState = rebuilt s in
    let again = again_after s r h now in
    addressed_shown (step core_keeper c r).world again.txns again.calls
    (step_addressed c r (judged_new c r now.new) (well_again s h.order h.pending h.own) (held_again s h.own h.holds) (addressed_again s told))

-- legal records ----

record IsAddressedWell (c : CoreState) : Type 0 where
  well : IsWell c
  held : IsHeldWell c
  told : AreAllAddressed c

pub legal_addressed : (rs : List Record) → IsLegal rs → AreAddressed (state_of (history_of rs))
legal_addressed rs legal =
    let h = legal_induction (λ rs c. IsAddressedWell c) (record { well = nothing_well; held = nothing_held; told = refl })
    (λ rs r new h. record {
      well = step_well (core_of rs) r new h.well;
      held = step_held (core_of rs) r new h.well h.held;
      told = step_addressed (core_of rs) r new h.well h.held h.told;
    }) rs legal
    in subst AreAddressed (state_shown rs) (addressed_shown (core_of rs) (legal_txns_rebuilt rs legal) (legal_calls_rebuilt rs legal) h.told)
