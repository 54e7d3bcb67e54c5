-- Sums stay no more than the records.
use Rattle.std.proofs.Common.{subst}
use Rattle.iss_states.proofs.StateOfBook.{state_shown}
use Rattle.iss_bounded.specs.Many.{AreFewEnough}
use Rattle.iss_bounded.proofs.SoundNumbers.{legal_many, many_after}
use Rattle.iss_bounded.proofs.bounds.numbers_stay.Goals as goal

pub returns-clause-steps : goal.returns-clause-steps
returns-clause-steps c = many_after

pub returns-clause-records : goal.returns-clause-records
returns-clause-records c rs legal = subst AreFewEnough (state_shown rs) (legal_many rs legal)
