use Rattle.std.proofs.Common.{drop}
use Rattle.iss_restored_lists.proofs.EventsAgain.{IsTakingUp}
use Rattle.iss_restored_lists.proofs.events.take_up_all.Given as goal

abbrev pub invariant-loop-event : goal.invariant-loop-event
invariant-loop-event l = IsTakingUp l.events (drop l.event-index l.events) l.accepted
