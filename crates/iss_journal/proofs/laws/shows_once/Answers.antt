use Rattle.iss_journal.proofs.Records.{one_list}
use Rattle.iss_journal.proofs.laws.shows_once.Goals as goal

pub returns : goal.returns
returns c = one_list
