use Rattle.std.proofs.Common.{arith}
use Rattle.iss_parts_tests.proofs.First.{first_restorable}
use Rattle.iss_parts_tests.proofs.chain.restore_one.Goals as goal

pub restore-requires : goal.restore-requires
restore-requires c = first_restorable _ _ _ c.in_ok-new.ensures (omega arith) (omega arith) (omega arith) (omega arith)
