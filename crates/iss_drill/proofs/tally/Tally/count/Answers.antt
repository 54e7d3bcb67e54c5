use Rattle.std.proofs.Common.{arith}
use Rattle.iss_drill.proofs.Counting.{room_left}
use Rattle.iss_drill.proofs.tally.Tally.count.Goals as goal

pub count_entry-requires : goal.count_entry-requires
count_entry-requires c =
    room_left c.args.entries.now c.loop-entry.entry-index c.args.self.now c.loop-entry.self (omega arith) c.requires c.loop-entry.invariant
