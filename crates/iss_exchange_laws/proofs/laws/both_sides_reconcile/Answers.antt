use Rattle.iss_exchange_laws.proofs.Honest.{honest_even, honest_reconcile}
use Rattle.iss_exchange_laws.proofs.laws.both_sides_reconcile.Goals as goal

pub returns-clause-honest : goal.returns-clause-honest
returns-clause-honest c = honest_reconcile

pub returns-clause-settled : goal.returns-clause-settled
returns-clause-settled c = honest_even
