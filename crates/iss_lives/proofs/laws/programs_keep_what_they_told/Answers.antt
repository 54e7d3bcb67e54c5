use Rattle.iss_lives.proofs.Lives.{programs_keep}
use Rattle.iss_lives.proofs.laws.programs_keep_what_they_told.Goals as goal

pub returns : goal.returns
returns c = programs_keep
