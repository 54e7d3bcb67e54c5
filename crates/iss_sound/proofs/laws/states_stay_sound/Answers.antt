-- States stay sound.
use Rattle.iss_named.proofs.TxnsAgain.{state_again}
use Rattle.iss_sound.proofs.Apart.{settings_apart}
use Rattle.iss_sound.proofs.SoundSteps.{nothing_sound, records_sound, sound_after}
use Rattle.iss_sound.proofs.laws.states_stay_sound.Goals as goal

pub returns-clause-begins : goal.returns-clause-begins
returns-clause-begins c = nothing_sound

pub returns-clause-steps : goal.returns-clause-steps
returns-clause-steps c = sound_after

pub returns-clause-records : goal.returns-clause-records
returns-clause-records c = records_sound

pub returns-clause-again : goal.returns-clause-again
returns-clause-again c s h = state_again s h.formed h.names

pub returns-clause-apart : goal.returns-clause-apart
returns-clause-apart c = settings_apart
