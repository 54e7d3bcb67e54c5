use Rattle.std.proofs.Common.{◌≡◌, ◌-◌}
use Rattle.iss_edge.specs.World.{Told, Later}
use Rattle.iss_edge.specs.Calls.{HearsNothing}
use Rattle.iss_opening.specs.Progress.{HasRead}
use Rattle.iss_opening.proofs.opening.read_all.Given as goal

abbrev pub invariant-reading : goal.invariant-reading
invariant-reading g l = record {
  read : Told (HasRead l.reading) (g.E.Edge.told l.fn.edge) (g.E.Edge.told l.edge);
  size : l.reading.layout.size ≡ g.E.Edge.extent l.edge;
  later : Later (g.E.Edge.faults l.fn.edge) (g.E.Edge.faults l.edge);
  heard : Told HearsNothing (g.E.Edge.heard l.fn.edge) (g.E.Edge.heard l.edge);
  kept : g.E.Edge.extent l.edge ≡ g.E.Edge.extent l.fn.edge;
  channels : g.E.Edge.channels l.edge ≡ g.E.Edge.channels l.fn.edge;
}

abbrev pub decreases-reading : goal.decreases-reading
decreases-reading g l = l.reading.place.to - l.reading.place.gate
