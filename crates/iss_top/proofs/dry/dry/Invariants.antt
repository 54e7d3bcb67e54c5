use Rattle.std.proofs.Common.{◌+◌, ◌-◌, ◌≤◌, length}
use Rattle.iss_edge.specs.World.{Told, Later}
use Rattle.iss_edge.specs.Outer.{outer_of}
use Rattle.iss_model.specs.declared.limits.TheConstants.{MOST_INPUT}
use Rattle.iss_top.specs.Progress.{IsOnItsWay}
use Rattle.iss_top.specs.Reader.{may_come}
use Rattle.iss_top.specs.Promptness.{HearsPromptly, dry_owed}
use Rattle.iss_top.proofs.ToldRuns.{HasRoom}
use Rattle.iss_top.proofs.dry.dry.Given as goal

abbrev pub invariant-lines : goal.invariant-lines
invariant-lines g l = record {
  limit : l.reader.taken ≤ MOST_INPUT;
  room : HasRoom l.core.state l.reader;
  told : Told (IsOnItsWay l.core.state l.reader) (g.E.Edge.told l.initial.edge) (g.E.Edge.told l.edge);
  prompt : Told (HearsPromptly dry_owed) (outer_of (g.E.Edge.told l.initial.edge) (g.E.Edge.heard l.initial.edge)) (outer_of (g.E.Edge.told l.edge) (g.E.Edge.heard l.edge));
  later : Later (g.E.Edge.faults l.initial.edge) (g.E.Edge.faults l.edge);
}

abbrev pub decreases-lines : goal.decreases-lines
decreases-lines g l = MOST_INPUT - l.reader.taken + length l.reader.unread + may_come l.reader
