-- Verdicts stay sound.
use Rattle.std.proofs.Common.{subst}
use Rattle.iss_states.proofs.StateOfBook.{state_shown}
use Rattle.iss_decided.specs.Verdicts.{HaveSoundVerdicts}
use Rattle.iss_decided.proofs.SoundVerdicts.{decided_after, legal_decided}
use Rattle.iss_decided.proofs.verdicts.verdicts_stay_sound.Goals as goal

pub returns-clause-steps : goal.returns-clause-steps
returns-clause-steps c = decided_after

pub returns-clause-records : goal.returns-clause-records
returns-clause-records c rs legal = subst HaveSoundVerdicts (state_shown rs) (legal_decided rs legal)
