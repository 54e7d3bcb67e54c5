use Rattle.iss_opening.proofs.Openings.{closing_good, closing_opens, reading_good}
use Rattle.iss_opening.proofs.Readings.{all_read, fault_found, none_read, one_more_read, these_read}
use Rattle.iss_opening.proofs.laws.readings_go_on.Goals as goal

pub returns-clause-next : goal.returns-clause-next
returns-clause-next c = one_more_read

pub returns-clause-all : goal.returns-clause-all
returns-clause-all c = all_read

pub returns-clause-fault : goal.returns-clause-fault
returns-clause-fault c = fault_found

pub returns-clause-good : goal.returns-clause-good
returns-clause-good c = reading_good

pub returns-clause-closing : goal.returns-clause-closing
returns-clause-closing c = closing_good

pub returns-clause-closed : goal.returns-clause-closed
returns-clause-closed c = closing_opens

pub returns-clause-none : goal.returns-clause-none
returns-clause-none c = none_read

pub returns-clause-these : goal.returns-clause-these
returns-clause-these c = these_read
