use Rattle.std.proofs.Common.{◌≡◌, drop, length}
use Rattle.iss_edge.specs.World.{Told, Later}
use Rattle.iss_edge.specs.Outer.{outer_of}
use Rattle.iss_texts.specs.TextRows.{cut_at, AreEnds}
use Rattle.iss_texts.specs.Sending.{Says, SentEach}
use Rattle.iss_texts.proofs.Saying.{UpTo}
use Rattle.iss_texts.proofs.sending.send_each.Given as goal

abbrev pub invariant-loop-end : goal.invariant-loop-end
invariant-loop-end g l = record {
  ends : AreEnds l.start (length l.bytes) (drop l.end-index l.ends);
  said : Told (UpTo Says (cut_at 0 l.bytes l.ends) (cut_at l.start l.bytes (drop l.end-index l.ends))) (g.E.Edge.told l.initial.edge) (g.E.Edge.told l.edge);
  sent : Told (UpTo SentEach (cut_at 0 l.bytes l.ends) (cut_at l.start l.bytes (drop l.end-index l.ends)))
      (outer_of (g.E.Edge.told l.initial.edge) (g.E.Edge.heard l.initial.edge)) (outer_of (g.E.Edge.told l.edge) (g.E.Edge.heard l.edge));
  kept : g.E.Edge.extent l.edge ≡ g.E.Edge.extent l.initial.edge;
  channels : g.E.Edge.channels l.edge ≡ g.E.Edge.channels l.initial.edge;
  later : Later (g.E.Edge.faults l.initial.edge) (g.E.Edge.faults l.edge);
}
