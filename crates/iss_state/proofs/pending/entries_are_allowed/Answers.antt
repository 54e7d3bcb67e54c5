use Rattle.iss_state.proofs.calls.Steps.{due_allowed, own_allowed, ready_settled, ready_taken}
use Rattle.iss_state.proofs.pending.entries_are_allowed.Goals as goal

pub returns-clause-taken : goal.returns-clause-taken
returns-clause-taken c = ready_taken

pub returns-clause-settled : goal.returns-clause-settled
returns-clause-settled c = ready_settled

pub returns-clause-due : goal.returns-clause-due
returns-clause-due c = due_allowed

pub returns-clause-own : goal.returns-clause-own
returns-clause-own c = own_allowed
