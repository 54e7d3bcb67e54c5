use Rattle.iss_velocity.proofs.NotedSums.{noted_more}
use Rattle.iss_velocity.proofs.laws.counters_are_sums_of_noted_use.Goals as goal

pub returns : goal.returns
returns c = noted_more
