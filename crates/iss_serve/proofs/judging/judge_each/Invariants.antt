use Rattle.std.proofs.Common.{◌≡◌, drop}
use Rattle.iss_edge.specs.World.{Told, Later}
use Rattle.iss_edge.specs.Outer.{outer_of}
use Rattle.iss_link.specs.Worlds.{StillTold}
use Rattle.iss_serve.specs.Held.{seen_held, to_judge, answers_unreached}
use Rattle.iss_serve.specs.Judged.{Judges}
use Rattle.iss_serve.specs.Runs.{ServesOn}
use Rattle.iss_serve.proofs.judging.judge_each.Given as goal

abbrev pub invariant-loop-call : goal.invariant-loop-call
invariant-loop-call g l = record {
  judged : Told (ServesOn (to_judge l.initial.next (seen_held l.initial.held) (answers_unreached l.calls)) (to_judge l.next (seen_held l.held) (answers_unreached (drop l.call-index l.calls))))
      (outer_of (g.E.Edge.told l.initial.edge) (g.E.Edge.heard l.initial.edge)) (outer_of (g.E.Edge.told l.edge) (g.E.Edge.heard l.edge));
  judges : Judges l.initial.next l.next l.initial.held l.held;
  size : g.E.Edge.extent l.edge ≡ l.next.layout.size;
  alone : StillTold g.E.Edge.told l.initial.edge l.edge;
  later : Later (g.E.Edge.faults l.initial.edge) (g.E.Edge.faults l.edge);
  kept : g.E.Edge.extent l.edge ≡ g.E.Edge.extent l.initial.edge;
}
