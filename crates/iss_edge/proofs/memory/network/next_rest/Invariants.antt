use Rattle.std.proofs.Common.{◌≡◌, drop}
use Rattle.iss_edge.specs.Memory.{next_rest}
use Rattle.iss_edge.proofs.memory.network.next_rest.Given as goal

abbrev pub invariant-loop-piece : goal.invariant-loop-piece
invariant-loop-piece l = next_rest l.ch.0 l.pieces ≡ next_rest l.ch.0 (drop l.piece-index l.pieces)
