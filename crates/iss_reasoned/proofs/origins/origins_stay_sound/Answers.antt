-- Origins stay sound.
use Rattle.std.proofs.Common.{subst}
use Rattle.iss_states.proofs.StateOfBook.{state_shown}
use Rattle.iss_reasoned.specs.Origins.{ArePurchases}
use Rattle.iss_reasoned.proofs.BegunSteps.{bought_after, legal_bought}
use Rattle.iss_reasoned.proofs.origins.origins_stay_sound.Goals as goal

pub returns-clause-steps : goal.returns-clause-steps
returns-clause-steps c = bought_after

pub returns-clause-records : goal.returns-clause-records
returns-clause-records c rs legal = subst ArePurchases (state_shown rs) (legal_bought rs legal)
