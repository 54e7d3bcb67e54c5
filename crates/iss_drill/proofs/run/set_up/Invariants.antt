use Rattle.iss_drill.proofs.Courses.{IsSetUp}
use Rattle.iss_drill.proofs.run.set_up.Given as goal

abbrev pub invariant-inputs : goal.invariant-inputs
invariant-inputs l = IsSetUp l.number l.fn.tally l.tally l.fn.fresh l.store l.fn.device.size l.device.size
