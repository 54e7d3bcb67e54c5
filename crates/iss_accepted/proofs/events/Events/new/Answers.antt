use Rattle.iss_accepted.proofs.Changed.{short_none}
use Rattle.iss_accepted.proofs.events.Events.new.Goals as goal

pub invariant_of-result : goal.invariant_of-result
invariant_of-result c =
    short_none c.new-3.result.items c.new-2.result.items c.new.result.items c.new-4.result c.new-5.result.items c.new.ensures.items c.new-4.ensures c.new-5.ensures.items
