use Rattle.iss_edge.proofs.Memories.{memory_emits_part}
use Rattle.iss_edge.specs.Memory.{left_on}
use Rattle.iss_edge.proofs.memory.MemoryEdgeEdge.emit.Goals as goal

pub returns-then-fails_now-clause-part : goal.returns-then-fails_now-clause-part
returns-then-fails_now-clause-part c =
    let m = c.args.self.now in
    memory_emits_part c.send_prefix.result c.args.ch 3 c.args.bytes.now m.device.items (left_on m.network.pieces) m.network.script m.trace.items c.send_prefix.new.trace.items c.send_prefix.ensures.ok c.send_prefix.ensures.err
