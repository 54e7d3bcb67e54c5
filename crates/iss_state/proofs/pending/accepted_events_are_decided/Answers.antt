use Rattle.iss_state.proofs.calls.Steps.{due_decides, own_decides}
use Rattle.iss_state.proofs.pending.accepted_events_are_decided.Goals as goal

pub returns-clause-due : goal.returns-clause-due
returns-clause-due c = due_decides

pub returns-clause-own : goal.returns-clause-own
returns-clause-own c = own_decides
