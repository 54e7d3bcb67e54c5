use Rattle.std.proofs.Common.{◌≡◌, drop}
use Rattle.iss_states.specs.Order.{do_numbers_rise}
use Rattle.iss_sound_events.proofs.order.do_numbers_rise.Given as goal

-- all numbers rise exactly if those that are left rise from above the last one
abbrev pub invariant-loop-event : goal.invariant-loop-event
invariant-loop-event l = do_numbers_rise 0 l.records l.events ≡ do_numbers_rise l.last l.records (drop l.event-index l.events)
