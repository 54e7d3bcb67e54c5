use Rattle.std.proofs.Common.{rules}
use Rattle.iss_edge.proofs.Memories.{memory_writes_part}
use Rattle.iss_edge.specs.Memory.{left_on}
use Rattle.iss_edge.proofs.memory.MemoryEdgeEdge.write_at.Goals as goal

pub returns-then-fails_now-clause-part : goal.returns-then-fails_now-clause-part
returns-then-fails_now-clause-part c =
    let m = c.args.self.now in
    memory_writes_part c.note_write.result c.args.at c.args.bytes.now m.device.items (left_on m.network.pieces) m.network.script m.trace.items c.note_write.new.trace.items (search rules) c.note_write.ensures.ok c.note_write.ensures.err
