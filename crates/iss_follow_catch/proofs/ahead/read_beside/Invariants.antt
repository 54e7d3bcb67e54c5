use Rattle.std.proofs.Common.{◌≡◌, ◌-◌, true}
use Rattle.std.specs.List.{list_all}
use Rattle.iss_edge.specs.World.{Told, Later}
use Rattle.iss_model.specs.texts.Spelling.{is_record}
use Rattle.iss_follow_catch.specs.Behind.{ReadsBeside}
use Rattle.iss_follow_catch.proofs.ahead.read_beside.Given as goal

abbrev pub invariant-reading : goal.invariant-reading
invariant-reading g l = record {
  read : Told (ReadsBeside l.reading l.other l.met l.later.items) (g.E.Edge.told l.fn.edge) (g.E.Edge.told l.edge);
  spelled : list_all is_record l.later.items ≡ true;
  size : l.reading.layout.size ≡ g.E.Edge.extent l.edge;
  later : Later (g.E.Edge.faults l.fn.edge) (g.E.Edge.faults l.edge);
}

abbrev pub decreases-reading : goal.decreases-reading
decreases-reading g l = l.reading.place.to - l.reading.place.gate
