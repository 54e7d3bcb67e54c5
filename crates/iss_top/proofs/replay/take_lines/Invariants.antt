use Rattle.std.proofs.Common.{◌≡◌, ◌≤◌, ◌+◌, ◌-◌, length}
use Rattle.iss_edge.specs.World.{Told, Later}
use Rattle.iss_edge.specs.Outer.{outer_of}
use Rattle.iss_model.specs.declared.limits.TheConstants.{MOST_INPUT}
use Rattle.iss_store.specs.Routes.{IsLines}
use Rattle.iss_top.specs.Reader.{may_come}
use Rattle.iss_top.specs.Replaying.{IsReplaying}
use Rattle.iss_top.specs.Promptness.{RunsPromptly}
use Rattle.iss_top.proofs.replay.take_lines.Given as goal

abbrev pub invariant-lines : goal.invariant-lines
invariant-lines g l = record {
  limit : l.reader.taken ≤ MOST_INPUT;
  told : Told (IsReplaying l.initial.store l.store l.reader) (g.E.Edge.told l.initial.edge) (g.E.Edge.told l.edge);
  prompt : Told (RunsPromptly l.initial.store) (outer_of (g.E.Edge.told l.initial.edge) (g.E.Edge.heard l.initial.edge)) (outer_of (g.E.Edge.told l.edge) (g.E.Edge.heard l.edge));
  size : g.E.Edge.extent l.edge ≡ l.store.layout.size;
  routes : IsLines l.routes;
  later : Later (g.E.Edge.faults l.initial.edge) (g.E.Edge.faults l.edge);
}

abbrev pub decreases-lines : goal.decreases-lines
decreases-lines g l = MOST_INPUT - l.reader.taken + length l.reader.unread + may_come l.reader
