use Rattle.iss_rebuilt.proofs.HeldAgain.{legal_held_rebuilt, legal_parts_rebuilt, legal_txn_sums_rebuilt}
use Rattle.iss_rebuilt.proofs.purchases.holdings_are_made_again.Goals as goal

pub returns-clause-parts : goal.returns-clause-parts
returns-clause-parts c = legal_parts_rebuilt

pub returns-clause-held : goal.returns-clause-held
returns-clause-held c = legal_held_rebuilt

pub returns-clause-sums : goal.returns-clause-sums
returns-clause-sums c = legal_txn_sums_rebuilt
