use Rattle.std.proofs.Common.{◌-◌, refl, arith}
use Rattle.iss_hold.proofs.Listed.{item_at, place_within, after_last}
use Rattle.iss_hold.proofs.queue.ExpiryQueue.comes_last.Goals as goal

pub expiry_at-requires : goal.expiry_at-requires
expiry_at-requires c =
    let queue = c.args.self.now.places in
    let len = queue.ok.0 in
    let some = c.in-Some.ensures.variant.0 refl in
    place_within (queue.len - 1) c.in-Some.place.now c.requires.places (item_at queue.items (queue.len - 1) c.in-Some.place.now (omega arith) c.in-Some.ensures.lookup)

pub returns-in-Some : goal.returns-in-Some
returns-in-Some c =
    let queue = c.args.self.now.places in
    let len = queue.ok.0 in
    let some = c.in-Some.ensures.variant.0 refl in
    λ less.
    after_last c.args.holds.now queue.items (queue.len - 1) c.in-Some.place.now (c.args.txn.now.expires, c.args.txn.now.origin) c.expiry_at.result
    (omega arith) (item_at queue.items (queue.len - 1) c.in-Some.place.now (omega arith) c.in-Some.ensures.lookup) c.expiry_at.ensures (c.expires_before.ensures less)
