use Rattle.iss_state.proofs.effects.Abandonment.{abandonment_effect}
use Rattle.iss_state.proofs.effects.Taking.{release_effect}
use Rattle.iss_state.proofs.pieces.pieces_are_paid.Goals as goal

pub returns-clause-release : goal.returns-clause-release
returns-clause-release c = release_effect

pub returns-clause-abandonment : goal.returns-clause-abandonment
returns-clause-abandonment c = λ s number f t why parts. abandonment_effect s number f t why
