use Rattle.iss_commando.specs.Trees.{kept_in}
use Rattle.iss_commando.proofs.TreeSums.{no_sums, none_small}
use Rattle.iss_commando.proofs.sets.Sets.new.Goals as goal

pub invariant_of-result : goal.invariant_of-result
invariant_of-result c = none_small (kept_in c.new-2.result) (no_sums c.new-2.result c.new-2.ensures.empty)
