use Rattle.iss_state.proofs.calls.Steps.{step_well, asked_live}
use Rattle.iss_state.proofs.pending.calls_are_well.Goals as goal

pub returns-clause-steps : goal.returns-clause-steps
returns-clause-steps c = step_well

pub returns-clause-live : goal.returns-clause-live
returns-clause-live c = asked_live
