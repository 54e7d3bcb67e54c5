use Rattle.std.proofs.Common.{◌≡◌, drop}
use Rattle.iss_image.specs.Lookups.{window_told, with_firsts, first_windows}
use Rattle.iss_image.proofs.lookups.windows_set.Given as goal

abbrev pub invariant-loop-event : goal.invariant-loop-event
invariant-loop-event l = with_firsts (λ w. w.control) window_told l.index (drop l.event-index l.events) ≡ first_windows l.events
