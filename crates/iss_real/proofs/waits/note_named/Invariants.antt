-- a name changes what is looked at, and no channel
use Rattle.std.specs.Prelude.{◌≡◌}
use Rattle.iss_real.proofs.waits.note_named.Given as goal

abbrev pub invariant-loop-event : goal.invariant-loop-event
invariant-loop-event l = (l.clients ≡ l.initial.clients) × (l.dialled ≡ l.initial.dialled)
