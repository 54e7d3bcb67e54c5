use Rattle.std.proofs.Common.{◌≡◌, ◌+◌, ◌-◌, ◌≤◌, false, length}
use Rattle.iss_edge.specs.World.{Told, Later}
use Rattle.iss_edge.specs.Outer.{outer_of}
use Rattle.iss_model.specs.declared.limits.TheConstants.{MOST_INPUT}
use Rattle.iss_top.specs.Pieces.{unread_of}
use Rattle.iss_top.specs.AtHand.{IsAtHand}
use Rattle.iss_top.specs.Hearing.{ReadsAsHeard}
use Rattle.iss_top.proofs.Reading.{ReadSoFar}
use Rattle.iss_top.proofs.reader.AtHand.read_line.Given as goal

abbrev pub invariant-pieces : goal.invariant-pieces
invariant-pieces g l = record {
  fit : IsAtHand l.self;
  start : l.self.start ≡ 0;
  end : l.self.end ≡ 0;
  going : l.self.ended ≡ false;
  read :
      Told (ReadSoFar (unread_of l.initial.self.pieces) l.initial.self.pieces.taken (unread_of l.self.pieces) l.self.kept l.self.pieces.taken)
      (g.E.Edge.told l.initial.edge) (g.E.Edge.told l.edge);
  heard : Told (ReadsAsHeard l.initial.self.ended (unread_of l.initial.self.pieces)) (outer_of (g.E.Edge.told l.initial.edge) (g.E.Edge.heard l.initial.edge)) (outer_of (g.E.Edge.told l.edge) (g.E.Edge.heard l.edge));
  room : length l.self.kept + length (unread_of l.self.pieces) + l.initial.self.pieces.taken ≤ length (unread_of l.initial.self.pieces) + l.self.pieces.taken;
  later : Later (g.E.Edge.faults l.initial.edge) (g.E.Edge.faults l.edge);
  extent : g.E.Edge.extent l.edge ≡ g.E.Edge.extent l.initial.edge;
}

abbrev pub decreases-pieces : goal.decreases-pieces
decreases-pieces g l = MOST_INPUT - l.self.pieces.taken
