use Rattle.std.proofs.Common.{◌≡◌, ◌-◌}
use Rattle.iss_edge.specs.World.{Told, Later}
use Rattle.iss_archive_run.proofs.Readings.{ReadsSteps}
use Rattle.iss_archive_run.proofs.reading.read_steps.Given as goal

abbrev pub invariant-reading : goal.invariant-reading
invariant-reading g l = record {
  read : Told (ReadsSteps l.reading l.steps.items) (g.E.Edge.told l.fn.edge) (g.E.Edge.told l.edge);
  size : l.reading.layout.size ≡ g.E.Edge.extent l.edge;
  later : Later (g.E.Edge.faults l.fn.edge) (g.E.Edge.faults l.edge);
}

abbrev pub decreases-reading : goal.decreases-reading
decreases-reading g l = l.reading.place.to - l.reading.place.gate
