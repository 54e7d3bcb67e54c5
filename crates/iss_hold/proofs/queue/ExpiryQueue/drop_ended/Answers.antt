use Rattle.std.proofs.Common.{◌≡◌, ℕ, List, ◌∷◌, length, refl, ap, subst, arith}
use Rattle.std.specs.Prelude.{slice_get}
use Rattle.iss_hold.specs.Indexes.{AreInOrder}
use Rattle.iss_hold.proofs.ExpiriesKept.{in_order_dropped}
use Rattle.iss_hold.proofs.Listed.{item_at, place_within, popped, it_ended}
use Rattle.iss_hold.proofs.queue.ExpiryQueue.drop_ended.Goals as goal

pub ended-init : goal.ended-init
ended-init c = c.requires

pub is_live_at-requires : goal.is_live_at-requires
is_live_at-requires c =
    let len = c.ended.self.places.ok.0 in
    let some = c.in-Some.ensures.variant.0 refl in
    place_within 0 c.in-Some.place.now c.ended.invariant.places (item_at c.ended.self.places.items 0 c.in-Some.place.now (omega arith) c.in-Some.ensures.lookup)

pub returns-then-is_live_at-clause-order : goal.returns-then-is_live_at-clause-order
returns-then-is_live_at-clause-order c = c.ended.invariant

pub ended-smaller : goal.ended-smaller
ended-smaller c =
    let len = c.ended.self.places.ok.0 in
    let some = c.in-Some.ensures.variant.0 refl in
    let first = item_at c.ended.self.places.items 0 c.in-Some.place.now (omega arith) c.in-Some.ensures.lookup in
    let less : length c.ended.self.places.items ≡ length (c.in-Some.place.now ∷ c.pop_front.new.self.items) =
    ap (λ (ps : List ℕ). length ps)
    (popped c.in-Some.place.now c.ended.self.places.items c.pop_front.new.self.items c.pop_front.result first (c.pop_front.ensures.variant.1 some) c.pop_front.ensures.items) in
    omega arith

pub ended-preserved : goal.ended-preserved
ended-preserved c =
    let len = c.ended.self.places.ok.0 in
    let some = c.in-Some.ensures.variant.0 refl in
    let first = item_at c.ended.self.places.items 0 c.in-Some.place.now (omega arith) c.in-Some.ensures.lookup in
    in_order_dropped
    (subst (λ (ps : List ℕ). AreInOrder c.args.holds.now ps c.ended.self.late)
    (popped c.in-Some.place.now c.ended.self.places.items c.pop_front.new.self.items c.pop_front.result first (c.pop_front.ensures.variant.1 some) c.pop_front.ensures.items)
    c.ended.invariant)
    (λ h at. it_ended (slice_get c.args.holds.now c.in-Some.place.now) c.is_live_at.result h c.is_live_at.ensures at c.if-is_live_at.false)

pub returns-clause-order : goal.returns-clause-order
returns-clause-order c = c.ended.invariant
