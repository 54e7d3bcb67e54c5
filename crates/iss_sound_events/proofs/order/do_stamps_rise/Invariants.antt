use Rattle.std.proofs.Common.{◌≡◌, drop}
use Rattle.iss_states.specs.Order.{do_stamps_rise}
use Rattle.iss_sound_events.proofs.order.do_stamps_rise.Given as goal

-- no stamp falls exactly if none of those that are left falls from the last one on
abbrev pub invariant-loop-event : goal.invariant-loop-event
invariant-loop-event l = do_stamps_rise 0 l.now l.events ≡ do_stamps_rise l.last l.now (drop l.event-index l.events)
