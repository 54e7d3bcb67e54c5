use Rattle.iss_state.proofs.calls.Steps.{decided_once}
use Rattle.iss_state.proofs.pending.events_are_decided_once.Goals as goal

pub returns : goal.returns
returns c = decided_once
