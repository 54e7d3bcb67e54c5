use Rattle.iss_state.proofs.invariants.Notices.{own_numbered, thing_numbered}
use Rattle.iss_state.proofs.numbers.notices_are_numbered.Goals as goal

pub returns-clause-due : goal.returns-clause-due
returns-clause-due c = thing_numbered

pub returns-clause-own : goal.returns-clause-own
returns-clause-own c = own_numbered
