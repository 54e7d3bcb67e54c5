use Rattle.std.proofs.Common.{ap}
use Rattle.iss_hold.specs.Indexes.{names}
use Rattle.iss_hold.proofs.IndexesKept.{indexed_none}
use Rattle.iss_hold.proofs.holds.Holds.new.Goals as goal

pub invariant_of-result : goal.invariant_of-result
invariant_of-result c =
    indexed_none c.new.result (names c.new.result) c.new-2.result c.new-3.result.places.items c.new-3.result.late
    c.new.ensures (ap names c.new.ensures) c.new-2.ensures.empty c.new-3.ensures.places c.new-3.ensures.late c.new-3.ensures.rising
