use Rattle.std.proofs.Common.{◌<◌, length, take, rules}
use Rattle.iss_index.proofs.Hashed.{next_at, next_new, next_found, found_none}
use Rattle.iss_index.proofs.places.NamePlaces.widened.Goals as goal

pub loop-place-init : goal.loop-place-init
loop-place-init c = found_none c.max-count.result c.in_ok-free_groups.field-0.items c.new.result c.in_ok-free_groups.ensures c.new.ensures.empty

pub loop-place-preserved : goal.loop-place-preserved
loop-place-preserved c =
    let below : c.loop-place.place < length c.args.names.now = search rules in
    next_found c.args.names.now c.loop-place.place c.index-names-place.result below c.index-names-place.is c.put.new.self.groups.items c.put.new.self.others
    (c.in_ok-put.ensures.put (take c.loop-place.place c.args.names.now) c.loop-place.invariant
    (next_at c.args.names.now c.loop-place.place c.index-names-place.result below c.index-names-place.is)
    (next_new c.args.names.now c.loop-place.place c.index-names-place.result below c.index-names-place.is c.requires.apart))
