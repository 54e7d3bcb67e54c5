-- Transactions stay fair.
use Rattle.iss_well_formed.proofs.FairAgain.{fair_after}
use Rattle.iss_well_formed.proofs.txns.transactions_stay_fair.Goals as goal

pub returns : goal.returns
returns c = fair_after
