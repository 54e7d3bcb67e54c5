use Rattle.std.proofs.Common.{◌≡◌, ◌≤◌, ◌++◌, length, take, drop}
use Rattle.iss_edge.specs.Memory.{next_rest, after_take}
use Rattle.iss_edge.proofs.memory.network.pass_next.Given as goal

abbrev pub invariant-loop-piece : goal.invariant-loop-piece
invariant-loop-piece l =
    record {
      within : l.count ≤ length (next_rest l.ch.0 (drop l.piece-index l.pieces));
      passes :
          take l.piece-index l.pieces ++ after_take l.ch.0 l.count (drop l.piece-index l.pieces)
          ≡ after_take l.ch.0 l.count l.initial.pieces;
    }
