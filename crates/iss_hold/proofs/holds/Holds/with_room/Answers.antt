use Rattle.std.proofs.Common.{ap}
use Rattle.iss_hold.specs.Indexes.{names}
use Rattle.iss_hold.proofs.IndexesKept.{indexed_none}
use Rattle.iss_hold.proofs.holds.Holds.with_room.Goals as goal

pub invariant_of-result : goal.invariant_of-result
invariant_of-result c =
    indexed_none c.in_ok-with_room.field-0 (names c.in_ok-with_room.field-0) c.new.result c.new-2.result.places.items c.new-2.result.late
    c.in_ok-with_room.ensures (ap names c.in_ok-with_room.ensures) c.new.ensures.empty c.new-2.ensures.places c.new-2.ensures.late c.new-2.ensures.rising
