use Rattle.iss_state.proofs.invariants.FormEntries.{own_formed, thing_formed}
use Rattle.iss_state.proofs.forms.entries_are_in_form.Goals as goal

pub returns-clause-due : goal.returns-clause-due
returns-clause-due c = thing_formed

pub returns-clause-own : goal.returns-clause-own
returns-clause-own c = own_formed
