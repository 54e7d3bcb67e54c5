use Rattle.iss_state.proofs.invariants.Enterable.{asked_small, records_small, sound_small}
use Rattle.iss_state.proofs.states.sums_are_small.Goals as goal

pub returns-clause-sound : goal.returns-clause-sound
returns-clause-sound c = sound_small

pub returns-clause-records : goal.returns-clause-records
returns-clause-records c = records_small

pub returns-clause-asked : goal.returns-clause-asked
returns-clause-asked c = asked_small
