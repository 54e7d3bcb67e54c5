use Rattle.iss_state.proofs.held.Steps.{core_held, nothing_held, step_held}
use Rattle.iss_state.proofs.holdings.holdings_are_well.Goals as goal

pub returns-clause-begins : goal.returns-clause-begins
returns-clause-begins c = nothing_held

pub returns-clause-records : goal.returns-clause-records
returns-clause-records c = λ rs legal. (core_held rs legal).held

pub returns-clause-steps : goal.returns-clause-steps
returns-clause-steps c = step_held
