use Rattle.iss_accepted.proofs.Changed.{short_none}
use Rattle.iss_accepted.proofs.events.Events.with_room.Goals as goal

pub invariant_of-result : goal.invariant_of-result
invariant_of-result c =
    short_none c.new-2.result.items c.new.result.items c.in_ok-with_capacity.field-0.items c.in_ok-with_room.field-0 c.in_ok-with_capacity-2.field-0.items
    c.in_ok-with_capacity.ensures.items c.in_ok-with_room.ensures c.in_ok-with_capacity-2.ensures.items
