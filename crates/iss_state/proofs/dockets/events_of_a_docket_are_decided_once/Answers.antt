use Rattle.iss_state.proofs.docket.Counts.{accounted_once}
use Rattle.iss_state.proofs.dockets.events_of_a_docket_are_decided_once.Goals as goal

pub returns : goal.returns
returns c = accounted_once
