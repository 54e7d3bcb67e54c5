use Rattle.std.proofs.Common.{◌≡◌, drop}
use Rattle.iss_sound_balances.specs.Moves.{AllStaySmall, after_all, load_moves}
use Rattle.iss_sound_balances.proofs.owed.give_loads.Given as goal

-- what all events come to is what the rest comes to on what stands now
abbrev pub invariant-loop-event : goal.invariant-loop-event
invariant-loop-event l = record {
  small : AllStaySmall load_moves l.owed (drop l.event-index l.events);
  given : after_all load_moves l.owed (drop l.event-index l.events) ≡ after_all load_moves l.fn.owed l.events;
}
