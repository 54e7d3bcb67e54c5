-- A step on a well-formed state keeps its sums within what was approved, and the programme pays nothing for account products.
use Rattle.iss_model.specs.declared.input.Record.{Record}
use Rattle.iss_model.specs.declared.state.State.{State}
use Rattle.iss_model.specs.rules.Stepping.{step}
use Rattle.iss_model.specs.state.Cores.{core_keeper}
use Rattle.iss_states.specs.Order.{IsNewOnState}
use Rattle.iss_states.specs.Rebuilding.{rebuilt, state_after}
use Rattle.iss_well_formed.specs.WellFormed.{IsWellFormed}
use Rattle.iss_decided.specs.Approved.{AreApproved, OwnAreUnpaid}
use Rattle.iss_decided.proofs.ApprovedSteps.{approved_again, approved_shown, step_approved}
use Rattle.iss_decided.proofs.AskedEvents.{asked_again}
use Rattle.iss_decided.proofs.Later.{good_later, good_now}
use Rattle.iss_decided.proofs.UnpaidSteps.{step_unpaid, unpaid_again, unpaid_shown}

pub unpaid_after : (s : State) (r : Record) → IsWellFormed s → OwnAreUnpaid s → IsNewOnState s r → OwnAreUnpaid (state_after s r)
unpaid_after s r h unpaid now =
    let good = good_now s r h now in
    let later = good_later s r h now in
    unpaid_shown (step core_keeper (rebuilt s) r).world later.well later.txns (step_unpaid (rebuilt s) r good.new good.well good.held (unpaid_again s unpaid))

pub approved_after : (s : State) (r : Record) → IsWellFormed s → AreApproved s → IsNewOnState s r → AreApproved (state_after s r)
approved_after s r h sums now =
    let good = good_now s r h now in
    let later = good_later s r h now in
    let so = step_approved (rebuilt s) r good.new good.well (record { asked = asked_again s; sums = approved_again s h.own sums }) in
    approved_shown (step core_keeper (rebuilt s) r).world later.held so.sums
