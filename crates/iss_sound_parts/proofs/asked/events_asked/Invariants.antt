use Rattle.iss_sound_parts.proofs.Entered.{AreEventsFrom}
use Rattle.iss_sound_parts.proofs.asked.events_asked.Given as goal

abbrev pub invariant-loop-call : goal.invariant-loop-call
invariant-loop-call l = AreEventsFrom l.only_authorizations l.calls l.call-iterator.iter.rest.now l.events
