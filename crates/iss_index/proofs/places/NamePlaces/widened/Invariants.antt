use Rattle.std.proofs.Common.{take}
use Rattle.iss_index.specs.Hashing.{AreFound}
use Rattle.iss_index.proofs.places.NamePlaces.widened.Given as goal

abbrev pub invariant-loop-place : goal.invariant-loop-place
invariant-loop-place l = AreFound l.places.groups.items l.places.others (take l.place l.names)
