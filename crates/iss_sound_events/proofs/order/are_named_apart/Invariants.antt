use Rattle.std.proofs.Common.{◌≡◌, [], drop}
use Rattle.iss_sound_events.specs.Named.{are_named_apart}
use Rattle.iss_sound_events.proofs.order.are_named_apart.Given as goal

-- all events are named apart exactly if those that are left are, from one another and from these names
abbrev pub invariant-loop-event : goal.invariant-loop-event
invariant-loop-event l = are_named_apart [] l.events ≡ are_named_apart l.names (drop l.event-index l.events)
