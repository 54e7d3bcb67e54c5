use Rattle.std.proofs.Common.{◌≡◌, take}
use Rattle.iss_edge.specs.World.{Told, Later}
use Rattle.iss_follow_catch.specs.Committing.{TakesUp, Lasts}
use Rattle.iss_follow_catch.proofs.committing.commit_all.Given as goal

abbrev pub invariant-records : goal.invariant-records
invariant-records g l = record {
  takes : TakesUp l.fn.opened l.store (take l.record-index l.records);
  lasts : Told (Lasts l.fn.opened l.store (take l.record-index l.records)) (g.T.Edge.told l.fn.to) (g.T.Edge.told l.to);
  size : g.T.Edge.extent l.to ≡ l.store.layout.size;
  later : Later (g.T.Edge.faults l.fn.to) (g.T.Edge.faults l.to);
}
