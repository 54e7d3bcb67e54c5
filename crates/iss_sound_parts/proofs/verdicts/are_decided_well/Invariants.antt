use Rattle.std.proofs.Common.{◌≡◌, drop}
use Rattle.std.specs.List.{list_all}
use Rattle.iss_sound_parts.specs.Verdicts.{is_decided_well}
use Rattle.iss_sound_parts.proofs.verdicts.are_decided_well.Given as goal

abbrev pub invariant-loop-event : goal.invariant-loop-event
invariant-loop-event l = list_all (is_decided_well l.known) (drop l.event-index l.events) ≡ list_all (is_decided_well l.known) l.events
