use Rattle.std.proofs.Common.{take}
use Rattle.iss_sound_events.specs.Totals.{AreTotalsOf}
use Rattle.iss_sound_events.proofs.totals.totals_of.Given as goal

-- totals are what the events that were added come to
abbrev pub invariant-loop-event : goal.invariant-loop-event
invariant-loop-event l = AreTotalsOf l.totals (take l.event-index l.events)
