-- Reasons stay known.
use Rattle.std.proofs.Common.{subst}
use Rattle.iss_states.proofs.StateOfBook.{state_shown}
use Rattle.iss_reasoned.specs.Reasons.{HaveReasons}
use Rattle.iss_reasoned.proofs.ReasonSteps.{legal_reasons, reasons_after}
use Rattle.iss_reasoned.proofs.reasons.reasons_stay_known.Goals as goal

pub returns-clause-steps : goal.returns-clause-steps
returns-clause-steps c = reasons_after

pub returns-clause-records : goal.returns-clause-records
returns-clause-records c rs legal = subst HaveReasons (state_shown rs) (legal_reasons rs legal)
