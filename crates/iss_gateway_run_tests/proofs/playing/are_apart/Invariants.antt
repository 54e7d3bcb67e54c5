use Rattle.std.proofs.Common.{◌≡◌, [], drop}
use Rattle.iss_edge.specs.Memory.{are_to_come}
use Rattle.iss_gateway_run_tests.proofs.playing.are_apart.Given as goal

abbrev pub invariant-loop-item : goal.invariant-loop-item
invariant-loop-item l = are_to_come [] l.script ≡ are_to_come l.known.items (drop l.item-index l.script)
