use Rattle.iss_velocity.proofs.NotedSums.{put_same}
use Rattle.iss_velocity.proofs.laws.control_that_is_put_counts_no_earlier_use.Goals as goal

pub returns : goal.returns
returns c = put_same
