use Rattle.iss_opening.proofs.OneJournals.{one_bad_history, one_history, one_stands}
use Rattle.iss_opening.proofs.laws.one_journal_has_a_history.Goals as goal

pub returns-clause-history : goal.returns-clause-history
returns-clause-history c = one_history

pub returns-clause-stands : goal.returns-clause-stands
returns-clause-stands c = one_stands

pub returns-clause-book : goal.returns-clause-book
returns-clause-book c = one_bad_history
