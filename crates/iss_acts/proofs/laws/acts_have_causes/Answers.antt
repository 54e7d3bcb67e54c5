use Rattle.iss_acts.proofs.Causes.{input_row, thing_row}
use Rattle.iss_acts.proofs.laws.acts_have_causes.Goals as goal

pub returns-clause-due : goal.returns-clause-due
returns-clause-due c = thing_row

pub returns-clause-own : goal.returns-clause-own
returns-clause-own c = input_row
