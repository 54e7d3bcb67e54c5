use Rattle.iss_state.proofs.invariants.Enterable.{due_enterable, own_enterable}
use Rattle.iss_state.proofs.entering.entries_can_be_entered.Goals as goal

pub returns-clause-due : goal.returns-clause-due
returns-clause-due c = due_enterable

pub returns-clause-own : goal.returns-clause-own
returns-clause-own c = own_enterable
