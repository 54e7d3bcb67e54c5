use Rattle.iss_state.proofs.invariants.FormStates.{entries_form, entry_form, nothing_form, record_form}
use Rattle.iss_state.proofs.forms.states_stay_in_form.Goals as goal

pub returns-clause-begins : goal.returns-clause-begins
returns-clause-begins c = nothing_form

pub returns-clause-taken_up : goal.returns-clause-taken_up
returns-clause-taken_up c = record_form

pub returns-clause-one : goal.returns-clause-one
returns-clause-one c = entry_form

pub returns-clause-entered : goal.returns-clause-entered
returns-clause-entered c = entries_form
