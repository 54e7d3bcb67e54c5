use Rattle.iss_lives.proofs.Lives.{runs_may_end}
use Rattle.iss_lives.proofs.laws.runs_may_end_anywhere.Goals as goal

pub returns : goal.returns
returns c = runs_may_end
