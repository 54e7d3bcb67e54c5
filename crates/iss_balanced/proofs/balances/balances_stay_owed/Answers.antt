-- Balances stay owed.
use Rattle.std.proofs.Common.{subst}
use Rattle.iss_states.proofs.StateOfBook.{state_shown}
use Rattle.iss_balanced.specs.Owed.{AreOwed}
use Rattle.iss_balanced.proofs.OwedStates.{legal_owed, owed_after}
use Rattle.iss_balanced.proofs.balances.balances_stay_owed.Goals as goal

pub returns-clause-steps : goal.returns-clause-steps
returns-clause-steps c = owed_after

pub returns-clause-records : goal.returns-clause-records
returns-clause-records c rs legal form = subst AreOwed (state_shown rs) (legal_owed rs legal form)
