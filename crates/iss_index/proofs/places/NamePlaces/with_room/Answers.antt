use Rattle.iss_index.proofs.Hashed.{found_none}
use Rattle.iss_index.proofs.places.NamePlaces.with_room.Goals as goal

pub returns : goal.returns
returns c = found_none c.max.result c.in_ok-free_groups.field-0.items c.new.result c.in_ok-free_groups.ensures c.new.ensures.empty
