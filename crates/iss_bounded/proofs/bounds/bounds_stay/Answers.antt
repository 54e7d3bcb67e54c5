-- Sums stay within the records.
use Rattle.std.proofs.Common.{subst}
use Rattle.iss_states.proofs.StateOfBook.{state_shown}
use Rattle.iss_bounded.specs.Bounds.{AreBounded}
use Rattle.iss_bounded.proofs.SoundBounds.{legal_within, within_after}
use Rattle.iss_bounded.proofs.bounds.bounds_stay.Goals as goal

pub returns-clause-steps : goal.returns-clause-steps
returns-clause-steps c = within_after

pub returns-clause-records : goal.returns-clause-records
returns-clause-records c rs legal form = subst AreBounded (state_shown rs) (legal_within rs legal form)
