-- Names stay known.
use Rattle.std.proofs.Common.{subst}
use Rattle.iss_states.proofs.StateOfBook.{state_shown}
use Rattle.iss_named.specs.Kept.{AreNamesKnown}
use Rattle.iss_named.proofs.KeptSteps.{known_after, legal_known}
use Rattle.iss_named.proofs.kept.names_stay_known.Goals as goal

pub returns-clause-steps : goal.returns-clause-steps
returns-clause-steps c = known_after

pub returns-clause-records : goal.returns-clause-records
returns-clause-records c rs legal form few = subst AreNamesKnown (state_shown rs) (legal_known rs legal form few)
