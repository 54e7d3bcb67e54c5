use Rattle.iss_session.proofs.Closings.{run_closed, run_client_closed}
use Rattle.iss_session.proofs.channels.channels_are_closed.Goals as goal

pub returns-clause-dialled : goal.returns-clause-dialled
returns-clause-dialled c = run_closed

pub returns-clause-clients : goal.returns-clause-clients
returns-clause-clients c = run_client_closed
