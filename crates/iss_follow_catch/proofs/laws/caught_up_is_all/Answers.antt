use Rattle.iss_follow_catch.proofs.Pasts.{caught_up_is_all}
use Rattle.iss_follow_catch.proofs.laws.caught_up_is_all.Goals as goal

pub returns : goal.returns
returns c = caught_up_is_all
