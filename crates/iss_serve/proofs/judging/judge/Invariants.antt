use Rattle.std.proofs.Common.{◌≡◌, List, ◌∷◌}
use Rattle.iss_edge.specs.World.{Told, Later}
use Rattle.iss_edge.specs.Outer.{outer_of}
use Rattle.iss_session.specs.Sessions.{Queued}
use Rattle.iss_link.specs.Worlds.{StillTold}
use Rattle.iss_serve.specs.Held.{seen_held, queued_as, to_judge, records_left}
use Rattle.iss_serve.specs.Judged.{Judges}
use Rattle.iss_serve.specs.Runs.{ServesOn}
use Rattle.iss_serve.proofs.judging.judge.Given as goal

abbrev pub invariant-again : goal.invariant-again
invariant-again g l = record {
  judged : (rest : List Queued) → Told (ServesOn (to_judge l.initial.next (seen_held l.initial.held) (queued_as l.queued ∷ rest)) (to_judge l.next (seen_held l.held) (queued_as l.queued ∷ rest)))
      (outer_of (g.E.Edge.told l.initial.edge) (g.E.Edge.heard l.initial.edge)) (outer_of (g.E.Edge.told l.edge) (g.E.Edge.heard l.edge));
  judges : Judges l.initial.next l.next l.initial.held l.held;
  size : g.E.Edge.extent l.edge ≡ l.next.layout.size;
  alone : StillTold g.E.Edge.told l.initial.edge l.edge;
  later : Later (g.E.Edge.faults l.initial.edge) (g.E.Edge.faults l.edge);
  kept : g.E.Edge.extent l.edge ≡ g.E.Edge.extent l.initial.edge;
}

abbrev pub decreases-again : goal.decreases-again
decreases-again g l = records_left l.next
