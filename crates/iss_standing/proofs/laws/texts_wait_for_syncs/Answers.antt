use Rattle.iss_standing.proofs.Goings.{texts_wait_for_syncs}
use Rattle.iss_standing.proofs.laws.texts_wait_for_syncs.Goals as goal

pub returns : goal.returns
returns c = texts_wait_for_syncs
