use Rattle.iss_journal.proofs.ReadLemmas.{begins_to_read, reads_on, reads_to_the_end, bad_shows_nothing}
use Rattle.iss_journal.proofs.laws.reads_what_is_shown.Goals as goal

pub returns-clause-begins : goal.returns-clause-begins
returns-clause-begins c = begins_to_read

pub returns-clause-on : goal.returns-clause-on
returns-clause-on c = reads_on

pub returns-clause-ends : goal.returns-clause-ends
returns-clause-ends c = reads_to_the_end

pub returns-clause-bad : goal.returns-clause-bad
returns-clause-bad c = bad_shows_nothing
