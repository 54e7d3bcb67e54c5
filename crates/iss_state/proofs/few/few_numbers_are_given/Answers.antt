use Rattle.iss_state.proofs.calls.FewSteps.{few_due, few_of_records, few_own, few_step, few_taken, none_yet}
use Rattle.iss_state.proofs.calls.FewMoves.{no_fewer}
use Rattle.iss_state.proofs.few.few_numbers_are_given.Goals as goal

pub returns-clause-begins : goal.returns-clause-begins
returns-clause-begins c = none_yet

pub returns-clause-records : goal.returns-clause-records
returns-clause-records c = few_of_records

pub returns-clause-taken_up : goal.returns-clause-taken_up
returns-clause-taken_up c = few_taken

pub returns-clause-due : goal.returns-clause-due
returns-clause-due c = few_due

pub returns-clause-own : goal.returns-clause-own
returns-clause-own c = few_own

pub returns-clause-step : goal.returns-clause-step
returns-clause-step c = few_step

pub returns-clause-lasting : goal.returns-clause-lasting
returns-clause-lasting c = no_fewer
