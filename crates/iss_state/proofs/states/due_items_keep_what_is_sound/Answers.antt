use Rattle.iss_state.proofs.invariants.Steps.{due_sound, ready_after_due, ready_after_thing, thing_sound}
use Rattle.iss_state.proofs.states.due_items_keep_what_is_sound.Goals as goal

pub returns-clause-item : goal.returns-clause-item
returns-clause-item c = thing_sound

pub returns-clause-all : goal.returns-clause-all
returns-clause-all c = due_sound

pub returns-clause-ready_after_item : goal.returns-clause-ready_after_item
returns-clause-ready_after_item c = ready_after_thing

pub returns-clause-ready_after_all : goal.returns-clause-ready_after_all
returns-clause-ready_after_all c = ready_after_due
