use Rattle.std.proofs.Common.{List, subst}
use Rattle.iss_call.specs.declared.rows.CallRow.{CallRow}
use Rattle.iss_call.proofs.Marks.{AreMarkedFrom, one_marked}
use Rattle.iss_call.proofs.rows.marks_of.Goals as goal

pub loop-row-preserved : goal.loop-row-preserved
loop-row-preserved c =
    one_marked c.args.rows.now c.next.new.self.iter.rest.now c.in-Some.row.now c.loop-row.marks c.insert.new.self c.state_of.result c.state_of.ensures
    (subst (λ (left : List CallRow). AreMarkedFrom c.args.rows.now left c.loop-row.marks) c.in-Some.ensures.steps c.loop-row.invariant)
    c.in_ok-insert.ensures.updates
