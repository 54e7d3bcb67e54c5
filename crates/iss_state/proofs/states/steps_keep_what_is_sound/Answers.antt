use Rattle.iss_state.proofs.invariants.Steps.{own_sound, ready_with_record, step_sound}
use Rattle.iss_state.proofs.states.steps_keep_what_is_sound.Goals as goal

pub returns-clause-step : goal.returns-clause-step
returns-clause-step c = step_sound

pub returns-clause-taken_up : goal.returns-clause-taken_up
returns-clause-taken_up c = ready_with_record

pub returns-clause-own : goal.returns-clause-own
returns-clause-own c = own_sound
