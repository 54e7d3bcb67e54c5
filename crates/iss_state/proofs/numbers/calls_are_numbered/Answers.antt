use Rattle.iss_state.proofs.invariants.Calls.{step_numbered}
use Rattle.iss_state.proofs.invariants.Legal.{records_numbered}
use Rattle.iss_state.proofs.numbers.calls_are_numbered.Goals as goal

pub returns-clause-records : goal.returns-clause-records
returns-clause-records c = records_numbered

pub returns-clause-step : goal.returns-clause-step
returns-clause-step c = step_numbered
