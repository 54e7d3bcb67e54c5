use Rattle.iss_standing.proofs.Counts.{puts_are_counted}
use Rattle.iss_standing.proofs.laws.puts_are_counted.Goals as goal

pub returns : goal.returns
returns c = puts_are_counted
