use Rattle.std.proofs.Common.{◌≡◌, drop}
use Rattle.std.specs.List.{flat_map}
use Rattle.iss_edge.specs.World.{Told, Later}
use Rattle.iss_edge.specs.Outer.{outer_of}
use Rattle.iss_store.specs.Saying.{StaysGood}
use Rattle.iss_store.specs.Serving.{SentFirst, tasks_by, HaveNumbers}
use Rattle.iss_store.proofs.entries.send_entries.Given as goal

abbrev pub invariant-loop-entry : goal.invariant-loop-entry
invariant-loop-entry g l = record {
  sent : SentFirst (flat_map (tasks_by l.instance l.waiters) l.entries) (flat_map (tasks_by l.instance l.waiters) (drop l.entry-index l.entries)) l.gone.items l.answered.items
      (g.E.Edge.faults l.initial.edge) (g.E.Edge.faults l.edge)
      (outer_of (g.E.Edge.told l.initial.edge) (g.E.Edge.heard l.initial.edge)) (outer_of (g.E.Edge.told l.edge) (g.E.Edge.heard l.edge));
  stays : Told StaysGood (g.E.Edge.told l.initial.edge) (g.E.Edge.told l.edge);
  numbered : HaveNumbers l.gone.items;
  later : Later (g.E.Edge.faults l.initial.edge) (g.E.Edge.faults l.edge);
  kept : g.E.Edge.extent l.edge ≡ g.E.Edge.extent l.initial.edge;
}
