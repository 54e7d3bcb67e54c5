-- What is known of a core that is made again from a sound state, and of the core after a record that is new on it.
use Rattle.std.proofs.Common.{◌≡◌, ◌∙◌, ap, List, refl, sym}
use Rattle.iss_model.specs.declared.input.Record.{Record}
use Rattle.iss_model.specs.declared.state.State.{State}
use Rattle.iss_model.specs.rules.Activity.{TxnNow}
use Rattle.iss_model.specs.rules.Stepping.{step}
use Rattle.iss_model.specs.state.Cores.{ControlKept, CoreState, core_keeper, no_core}
use Rattle.iss_model.proofs.Lists.{map-alike, map-map}
use Rattle.iss_state.specs.Pending.{IsWell}
use Rattle.iss_state.specs.Sound.{IsNewEvent}
use Rattle.iss_state.proofs.calls.Steps.{step_well}
use Rattle.iss_state.proofs.docket.Lists.{Each}
use Rattle.iss_state.proofs.invariants.NewEvents.{judged_new}
use Rattle.iss_states.specs.Order.{IsNewOnState}
use Rattle.iss_states.specs.Rebuilding.{events_again, rebuilt, with_counters}
use Rattle.iss_states.specs.Settled.{WereJudged, set_again, set_part, uncounted}
use Rattle.iss_states.specs.Showing.{shown}
use Rattle.iss_states.proofs.SetSteps.{step_set}
use Rattle.iss_rebuilt.specs.Purchases.{HasCallsAgain, HasTxnsAgain}
use Rattle.iss_rebuilt.proofs.Made.{made_set, nothing_made, words_of}
use Rattle.iss_rebuilt.proofs.MadeShown.{IsMade, again, calls_rebuilt, txns_rebuilt}
use Rattle.iss_rebuilt.proofs.MadeSteps.{step_made}
use Rattle.iss_well_formed.specs.WellFormed.{IsWellFormed}
use Rattle.iss_well_formed.proofs.GrownAgain.{own_again}
use Rattle.iss_well_formed.proofs.MadeAgain.{judged_again, made_too, set_too}
use Rattle.iss_well_formed.proofs.OwnEvents.{IsOwn}
use Rattle.iss_well_formed.proofs.WellAgain.{well_again}

-- counters and sums set nothing
sums_set_nothing : (s : State) → set_part (rebuilt s) ≡ set_part (events_again s)
sums_set_nothing s =
    let c : CoreState = events_again s in
    let txns : List TxnNow = c.holdings.txns in
    ap (λ (ks : List ControlKept). record (set_part c) { controls = ks })
    (map-map (with_counters txns s.counters) uncounted c.controls ∙ map-alike (λ (k : ControlKept). uncounted (with_counters txns s.counters k)) uncounted (λ k. refl) c.controls)

-- what was set is made again from what is shown, if it is what the events set
pub set_rebuilt : (w : CoreState) → set_part w ≡ set_again w.decisions w.accepted → set_part (rebuilt (shown w)) ≡ set_part w
set_rebuilt w set = sums_set_nothing (shown w) ∙ (again w).set ∙ made_set (words_of w) nothing_made w.accepted ∙ sym set

-- Before the record the core is well, each event has a token of its own, and the record's is new. After it the core is well, and shows what it
-- is made of.
pub record IsStepped (s : State) (r : Record) : Type 0 where
  pub new : IsNewEvent (rebuilt s) r.input
  pub well : IsWell (rebuilt s)
  pub own : Each (IsOwn (rebuilt s).accepted) (rebuilt s).accepted
  pub later : IsWell (step core_keeper (rebuilt s) r).world
  pub set : set_part (rebuilt (shown (step core_keeper (rebuilt s) r).world)) ≡ set_part (step core_keeper (rebuilt s) r).world
  pub txns : HasTxnsAgain (step core_keeper (rebuilt s) r).world
  pub calls : HasCallsAgain (step core_keeper (rebuilt s) r).world

pub stepped : (s : State) (r : Record) → IsWellFormed s → IsNewOnState s r → IsStepped s r
stepped s r h now =
    let c : CoreState = rebuilt s in
    let w : CoreState = (step core_keeper c r).world in
    let new : IsNewEvent c r.input = judged_new c r now.new in
    let well : IsWell c = well_again s h.order h.pending h.own in
    let set : set_part c ≡ set_again c.decisions c.accepted = set_too s h.own in
    let judged : WereJudged c.decisions no_core c.accepted = judged_again s h.own h.judged in
    let made : IsMade (words_of w) w.accepted = step_made c r new well set judged (made_too s h.own) in
    let later : IsWell w = step_well c r new well in
    record {
      new = new;
      well = well;
      own = own_again s h.order;
      later = later;
      set = set_rebuilt w (step_set c r new well set);
      txns = txns_rebuilt w later made;
      calls = calls_rebuilt w later made;
    }
