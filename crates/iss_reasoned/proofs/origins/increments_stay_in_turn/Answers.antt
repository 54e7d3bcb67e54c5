-- Increments stay in turn.
use Rattle.std.proofs.Common.{subst}
use Rattle.iss_states.proofs.StateOfBook.{state_shown}
use Rattle.iss_reasoned.specs.Origins.{ComeInTurn}
use Rattle.iss_reasoned.proofs.TakenSteps.{legal_taken, taken_after}
use Rattle.iss_reasoned.proofs.origins.increments_stay_in_turn.Goals as goal

pub returns-clause-steps : goal.returns-clause-steps
returns-clause-steps c = taken_after

pub returns-clause-records : goal.returns-clause-records
returns-clause-records c rs legal = subst ComeInTurn (state_shown rs) (legal_taken rs legal)
