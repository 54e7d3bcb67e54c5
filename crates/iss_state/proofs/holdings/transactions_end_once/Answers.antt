use Rattle.iss_state.proofs.held.Steps.{step_left}
use Rattle.iss_state.proofs.holdings.transactions_end_once.Goals as goal

pub returns : goal.returns
returns c = step_left
