use Rattle.std.proofs.Common.{◌≡◌}
use Rattle.iss_edge.specs.World.{Told, Later}
use Rattle.iss_edge.specs.Outer.{outer_of}
use Rattle.iss_link.specs.Worlds.{StillTold}
use Rattle.iss_serve.specs.Held.{seen_held, idle, IsHeld, IsOf, records_left}
use Rattle.iss_serve.specs.Runs.{ServesOn}
use Rattle.iss_serve.proofs.Loops.{work_left}
use Rattle.iss_serve.proofs.judging.judge_unreached.Given as goal

abbrev pub invariant-calls : goal.invariant-calls
invariant-calls g l = record {
  judged : Told (ServesOn (idle l.initial.next (seen_held l.initial.held)) (idle l.next (seen_held l.held)))
      (outer_of (g.E.Edge.told l.initial.edge) (g.E.Edge.heard l.initial.edge)) (outer_of (g.E.Edge.told l.edge) (g.E.Edge.heard l.edge));
  held : IsHeld l.held;
  instance : IsOf l.next l.held;
  turns : l.held.turns ≡ l.initial.held.turns;
  same_size : l.next.layout.size ≡ l.initial.next.layout.size;
  size : g.E.Edge.extent l.edge ≡ l.next.layout.size;
  alone : StillTold g.E.Edge.told l.initial.edge l.edge;
  later : Later (g.E.Edge.faults l.initial.edge) (g.E.Edge.faults l.edge);
  kept : g.E.Edge.extent l.edge ≡ g.E.Edge.extent l.initial.edge;
}

abbrev pub decreases-calls : goal.decreases-calls
decreases-calls g l = work_left (records_left l.next) l.held.unreached.items
