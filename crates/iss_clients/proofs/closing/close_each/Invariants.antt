use Rattle.std.proofs.Common.{drop}
use Rattle.iss_edge.specs.Outer.{outer_of}
use Rattle.iss_edge.specs.World.{Later}
use Rattle.iss_link.specs.Worlds.{StillTold}
use Rattle.iss_clients.proofs.Closes.{ClosedUpTo}
use Rattle.iss_clients.proofs.closing.close_each.Given as goal

abbrev pub invariant-loop-ch : goal.invariant-loop-ch
invariant-loop-ch g l = record {
  closed : ClosedUpTo l.channels (drop l.ch-index l.channels) (outer_of (g.E.Edge.told l.initial.edge) (g.E.Edge.heard l.initial.edge)) (outer_of (g.E.Edge.told l.edge) (g.E.Edge.heard l.edge));
  alone : StillTold g.E.Edge.told l.initial.edge l.edge;
  later : Later (g.E.Edge.faults l.initial.edge) (g.E.Edge.faults l.edge);
}
