-- States are shown again.
use Rattle.iss_named.proofs.TxnsAgain.{state_again}
use Rattle.iss_named.proofs.kept.states_are_shown_again.Goals as goal

pub returns : goal.returns
returns c = state_again
