use Rattle.std.proofs.Common.{◌≡◌, []}
use Rattle.iss_edge.specs.World.{Told, Later}
use Rattle.iss_edge.specs.Outer.{outer_of}
use Rattle.iss_link.specs.Worlds.{StillTold}
use Rattle.iss_serve.specs.Held.{seen_held, idle, IsHeld, IsOf}
use Rattle.iss_serve.specs.Runs.{ServesOn}
use Rattle.iss_serve.proofs.running.wait_on.Given as goal

abbrev pub invariant-turns : goal.invariant-turns
invariant-turns g l = record {
  waited : Told (ServesOn (idle l.initial.next (seen_held l.initial.held)) (idle l.next (seen_held l.held)))
      (outer_of (g.E.Edge.told l.initial.edge) (g.E.Edge.heard l.initial.edge)) (outer_of (g.E.Edge.told l.edge) (g.E.Edge.heard l.edge));
  held : IsHeld l.held;
  instance : IsOf l.next l.held;
  settled : l.held.unreached.items ≡ [];
  size : g.E.Edge.extent l.edge ≡ l.next.layout.size;
  alone : StillTold g.E.Edge.told l.initial.edge l.edge;
  later : Later (g.E.Edge.faults l.initial.edge) (g.E.Edge.faults l.edge);
}

abbrev pub decreases-turns : goal.decreases-turns
decreases-turns g l = l.held.turns
