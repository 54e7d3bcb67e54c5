-- What holds of the core that a well-formed state is made again as, and of that core after a step.
use Rattle.iss_model.specs.declared.input.Record.{Record}
use Rattle.iss_model.specs.declared.state.State.{State}
use Rattle.iss_model.specs.rules.Stepping.{step}
use Rattle.iss_model.specs.state.Cores.{CoreState, core_keeper}
use Rattle.iss_state.specs.Holdings.{IsHeldWell}
use Rattle.iss_state.specs.Pending.{IsWell}
use Rattle.iss_state.specs.Sound.{IsNewEvent}
use Rattle.iss_state.proofs.calls.Steps.{step_well}
use Rattle.iss_state.proofs.held.Steps.{step_held}
use Rattle.iss_state.proofs.invariants.NewEvents.{judged_new}
use Rattle.iss_states.specs.Order.{IsNewOnState}
use Rattle.iss_states.specs.Rebuilding.{rebuilt}
use Rattle.iss_rebuilt.specs.Purchases.{HasTxnsAgain}
use Rattle.iss_rebuilt.proofs.MadeShown.{txns_rebuilt}
use Rattle.iss_rebuilt.proofs.MadeSteps.{step_made}
use Rattle.iss_well_formed.specs.WellFormed.{IsWellFormed}
use Rattle.iss_well_formed.proofs.HeldAgain.{held_again}
use Rattle.iss_well_formed.proofs.MadeAgain.{judged_again, made_too, set_too}
use Rattle.iss_well_formed.proofs.WellAgain.{well_again}

-- the core before a record is well and holds well, and the record's event is new to it
pub record IsGood (c : CoreState) (r : Record) : Type 0 where
  pub new : IsNewEvent c r.input
  pub well : IsWell c
  pub held : IsHeldWell c

-- the core after it is well and holds well, and its transactions are made again
pub record IsGoodLater (w : CoreState) : Type 0 where
  pub well : IsWell w
  pub held : IsHeldWell w
  pub txns : HasTxnsAgain w

pub good_now : (s : State) (r : Record) → IsWellFormed s → IsNewOnState s r → IsGood (rebuilt s) r
good_now s r h now = record { new = judged_new (rebuilt s) r now.new; well = well_again s h.order h.pending h.own; held = held_again s h.own h.holds }

pub good_later : (s : State) (r : Record) → IsWellFormed s → IsNewOnState s r → IsGoodLater (step core_keeper (rebuilt s) r).world
good_later s r h now =
    let c : CoreState = rebuilt s in
    let good : IsGood c r = good_now s r h now in
    let later : IsWell (step core_keeper c r).world = step_well c r good.new good.well in
    record {
      well = later;
      held = step_held c r good.new good.well good.held;
      txns = txns_rebuilt (step core_keeper c r).world later (step_made c r good.new good.well (set_too s h.own) (judged_again s h.own h.judged) (made_too s h.own));
    }
