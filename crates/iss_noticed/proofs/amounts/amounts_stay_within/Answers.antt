-- Amounts stay within the greatest amount for each record.
use Rattle.iss_noticed.proofs.AmountSteps.{amounts_after, legal_amounts, none_within}
use Rattle.iss_noticed.proofs.amounts.amounts_stay_within.Goals as goal

pub returns-clause-begins : goal.returns-clause-begins
returns-clause-begins c = none_within

pub returns-clause-steps : goal.returns-clause-steps
returns-clause-steps c = amounts_after

pub returns-clause-records : goal.returns-clause-records
returns-clause-records c = legal_amounts
