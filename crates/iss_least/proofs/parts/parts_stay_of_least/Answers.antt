-- Parts stay at least the least amount.
use Rattle.iss_least.proofs.FormsAgain.{forms_again}
use Rattle.iss_least.proofs.LeastSteps.{least_after, nothing_least}
use Rattle.iss_least.proofs.parts.parts_stay_of_least.Goals as goal

pub returns-clause-begins : goal.returns-clause-begins
returns-clause-begins c = nothing_least

pub returns-clause-steps : goal.returns-clause-steps
returns-clause-steps c = least_after

pub returns-clause-forms : goal.returns-clause-forms
returns-clause-forms c = forms_again
