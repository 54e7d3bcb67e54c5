use Rattle.iss_state.proofs.invariants.Costs.{act_spends, input_paid, thing_paid}
use Rattle.iss_state.proofs.costs.inputs_are_paid.Goals as goal

pub returns-clause-due : goal.returns-clause-due
returns-clause-due c = thing_paid

pub returns-clause-own : goal.returns-clause-own
returns-clause-own c = input_paid

pub returns-clause-act : goal.returns-clause-act
returns-clause-act c = act_spends
