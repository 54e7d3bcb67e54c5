use Rattle.iss_edge.specs.Outer.{outer_of}
use Rattle.iss_edge.specs.World.{Told}
use Rattle.iss_edge.proofs.Tolds.{later_self, later_then}
use Rattle.iss_attend.specs.Attendances.{manner_of}
use Rattle.iss_attend.specs.Held.{seen_held}
use Rattle.iss_attend.specs.Runs.{AttendsPart}
use Rattle.iss_attend.proofs.Causing.{anyway}
use Rattle.iss_attend.proofs.Going.{told_self_attends, told_attends_then, told_then_part}
use Rattle.iss_attend.proofs.running.wait_on.Goals as goal

pub turns-init : goal.turns-init
turns-init g c = record {
  attends = told_self_attends (manner_of g.A.AnswersBodies.after g.A.AnswersBodies.response) (seen_held c.args.held.now) (outer_of (g.E.Edge.told c.args.edge.now) (g.E.Edge.heard c.args.edge.now));
  held = c.requires;
  later = later_self (g.E.Edge.faults c.args.edge.now);
}

pub turns-preserved : goal.turns-preserved
turns-preserved g c = record {
  attends =
      told_attends_then (manner_of g.A.AnswersBodies.after g.A.AnswersBodies.response) (seen_held c.args.held.now) (seen_held c.turns.held) (seen_held c.hear.new.self)
      (outer_of (g.E.Edge.told c.args.edge.now) (g.E.Edge.heard c.args.edge.now)) (outer_of (g.E.Edge.told c.turns.edge) (g.E.Edge.heard c.turns.edge)) (outer_of (g.E.Edge.told c.hear.new.edge) (g.E.Edge.heard c.hear.new.edge))
      c.turns.invariant.attends c.in_ok-hear.ensures.attends;
  held = c.in_ok-hear.ensures.held;
  later = later_then _ _ _ c.turns.invariant.later c.hear.ensures.caused.later;
}

pub returns-in_err-hear-clause-part : goal.returns-in_err-hear-clause-part
returns-in_err-hear-clause-part g c =
    let manner = manner_of g.A.AnswersBodies.after g.A.AnswersBodies.response in
    anyway c.from_residual.result (Told (AttendsPart manner (seen_held c.args.held.now)) (outer_of (g.E.Edge.told c.args.edge.now) (g.E.Edge.heard c.args.edge.now)) (outer_of (g.E.Edge.told c.hear.new.edge) (g.E.Edge.heard c.hear.new.edge)))
    (told_then_part manner (seen_held c.args.held.now) (seen_held c.turns.held) (outer_of (g.E.Edge.told c.args.edge.now) (g.E.Edge.heard c.args.edge.now)) (outer_of (g.E.Edge.told c.turns.edge) (g.E.Edge.heard c.turns.edge)) (outer_of (g.E.Edge.told c.hear.new.edge) (g.E.Edge.heard c.hear.new.edge)) c.turns.invariant.attends c.in_err-hear.ensures.part)
