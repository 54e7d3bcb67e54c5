use Rattle.iss_drill.proofs.Courses.{IsUnderWay}
use Rattle.iss_drill.proofs.run.give_events.Given as goal

abbrev pub invariant-events : goal.invariant-events
invariant-events l = IsUnderWay l.n l.before l.generator.state l.last l.fn.tally l.tally l.fn.ready l.store l.device.size
