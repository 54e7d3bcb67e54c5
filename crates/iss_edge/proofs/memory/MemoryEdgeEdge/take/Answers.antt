use Rattle.std.proofs.Common.{length}
use Rattle.iss_edge.proofs.Pieces.{memory_takes}
use Rattle.iss_edge.proofs.memory.MemoryEdgeEdge.take.Goals as goal

pub returns-clause-taken : goal.returns-clause-taken
returns-clause-taken c =
    let m = c.args.self.now in
    let copy = c.copy_next-count in
    rw c.pass.ensures (memory_takes c.args.ch copy.result (length c.args.buf.now) copy.new.buf m.device.items m.network.pieces m.network.script m.trace.items c.requires.room copy.ensures.count copy.ensures.bytes)
