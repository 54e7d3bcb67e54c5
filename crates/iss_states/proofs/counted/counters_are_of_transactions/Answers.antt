-- An entry that fits keeps each counter of a single transaction on one that stands.
use Rattle.iss_states.proofs.CountedTxns.{counted_after}
use Rattle.iss_states.proofs.counted.counters_are_of_transactions.Goals as goal

pub returns-clause-enters : goal.returns-clause-enters
returns-clause-enters c = counted_after
