use Rattle.std.proofs.Common.{arith}
use Rattle.std.proofs.lemmas.Int.{ints, to_z-of_z}
use Rattle.iss_gateway.proofs.Trees.{added_sums}
use Rattle.iss_gateway.proofs.sums.add.Goals as goal

pub returns-clause-added : goal.returns-clause-added
returns-clause-added c =
    added_sums c.args.sums.now c.set_sum.new.sums c.args.key.now c.args.amount _ c.sum_of.result c.set_sum.ensures c.sum_of.ensures (grind (arith, ints, to_z-of_z))
