-- What the programme pays for account products stays nothing.
use Rattle.std.proofs.Common.{refl, subst}
use Rattle.iss_states.proofs.StateOfBook.{state_shown}
use Rattle.iss_decided.specs.Approved.{OwnAreUnpaid}
use Rattle.iss_decided.proofs.AfterSteps.{unpaid_after}
use Rattle.iss_decided.proofs.UnpaidSteps.{legal_unpaid}
use Rattle.iss_decided.proofs.approved.own_purchases_stay_unpaid.Goals as goal

pub returns-clause-begins : goal.returns-clause-begins
returns-clause-begins c = refl

pub returns-clause-steps : goal.returns-clause-steps
returns-clause-steps c = unpaid_after

pub returns-clause-records : goal.returns-clause-records
returns-clause-records c rs legal = subst OwnAreUnpaid (state_shown rs) (legal_unpaid rs legal)
