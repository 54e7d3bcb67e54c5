use Rattle.iss_ledger.proofs.TreeSums.{no_sums}
use Rattle.iss_ledger.proofs.PostSums.{none_small}
use Rattle.iss_ledger.specs.Trees.{kept_in}
use Rattle.iss_ledger.proofs.ledger.Ledger.new.Goals as goal

pub invariant_of-result : goal.invariant_of-result
invariant_of-result c = (c.new.ensures.ordered, none_small (kept_in c.new.result) (no_sums c.new.result c.new.ensures.empty))

pub returns : goal.returns
returns c = no_sums c.new.result c.new.ensures.empty
