use Rattle.std.proofs.Common.{refl, arith}
use Rattle.iss_hold.proofs.Listed.{item_at, place_within, first_any}
use Rattle.iss_hold.proofs.queue.ExpiryQueue.is_first_due.Goals as goal

pub expiry_at-requires : goal.expiry_at-requires
expiry_at-requires c =
    let queue = c.args.self.now.places in
    let len = queue.ok.0 in
    let some = c.in-Some.ensures.variant.0 refl in
    place_within 0 c.in-Some.place.now c.requires.order.places (item_at queue.items 0 c.in-Some.place.now (omega arith) c.in-Some.ensures.lookup)

pub returns-in-Some : goal.returns-in-Some
returns-in-Some c =
    let queue = c.args.self.now.places in
    let len = queue.ok.0 in
    let some = c.in-Some.ensures.variant.0 refl in
    λ queued a.
    first_any c.args.now c.args.holds.now queue.items c.in-Some.place.now c.expiry_at.result queued a c.requires.first
    (item_at queue.items 0 c.in-Some.place.now (omega arith) c.in-Some.ensures.lookup) c.expiry_at.ensures
