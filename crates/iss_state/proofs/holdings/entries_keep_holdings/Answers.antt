use Rattle.iss_state.proofs.held.Inputs.{own_keeps, thing_keeps}
use Rattle.iss_state.proofs.holdings.entries_keep_holdings.Goals as goal

pub returns-clause-due : goal.returns-clause-due
returns-clause-due c = λ s i thing at ready held. thing_keeps ready.before s thing at ready.well held

pub returns-clause-own : goal.returns-clause-own
returns-clause-own c = own_keeps
