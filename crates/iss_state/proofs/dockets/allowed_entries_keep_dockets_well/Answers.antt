use Rattle.iss_state.proofs.docket.Entering.{entry_well}
use Rattle.iss_state.proofs.dockets.allowed_entries_keep_dockets_well.Goals as goal

pub returns : goal.returns
returns c = entry_well
