use Rattle.iss_velocity.proofs.NotedSums.{no_sums}
use Rattle.iss_velocity.proofs.laws.nothing_is_noted_at_first.Goals as goal

pub returns : goal.returns
returns c = no_sums
