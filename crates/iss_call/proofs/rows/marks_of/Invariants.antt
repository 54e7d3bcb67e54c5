use Rattle.iss_call.proofs.Marks.{AreMarkedFrom}
use Rattle.iss_call.proofs.rows.marks_of.Given as goal

abbrev pub invariant-loop-row : goal.invariant-loop-row
invariant-loop-row l = AreMarkedFrom l.rows l.row-iterator.iter.rest.now l.marks
