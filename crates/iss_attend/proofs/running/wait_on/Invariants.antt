use Rattle.iss_edge.specs.World.{Told, Later}
use Rattle.iss_edge.specs.Outer.{outer_of}
use Rattle.iss_attend.specs.Attendances.{manner_of}
use Rattle.iss_attend.specs.Held.{seen_held, IsHeld}
use Rattle.iss_attend.specs.Runs.{Attends}
use Rattle.iss_attend.proofs.running.wait_on.Given as goal

abbrev pub invariant-turns : goal.invariant-turns
invariant-turns g l = record {
  attends : Told (Attends (manner_of g.A.AnswersBodies.after g.A.AnswersBodies.response) (seen_held l.initial.held) (seen_held l.held))
      (outer_of (g.E.Edge.told l.initial.edge) (g.E.Edge.heard l.initial.edge)) (outer_of (g.E.Edge.told l.edge) (g.E.Edge.heard l.edge));
  held : IsHeld g.A.AnswersBodies.room l.held;
  later : Later (g.E.Edge.faults l.initial.edge) (g.E.Edge.faults l.edge);
}

abbrev pub decreases-turns : goal.decreases-turns
decreases-turns g l = l.held.turns
