use Rattle.std.proofs.Common.{ℕ, List, ◌++◌, fold, map, refl, ap, sym, ◌∙◌, subst}
use Rattle.std.specs.Prelude.{slice_get}
use Rattle.std.specs.declared.collections.vec_deque.Iter.{Iter}
use Rattle.iss_hold.specs.Expiries.{Expiry, live_ones, holds_come}
use Rattle.iss_hold.specs.Indexes.{put_expiry}
use Rattle.iss_hold.proofs.Listed.{AreTaken, taken_place, taken_live, taken_ended, taken_before, taken_all, no_item}
use Rattle.iss_hold.proofs.queue.ExpiryQueue.add_queued.Goals as goal

pub loop-place-init : goal.loop-place-init
loop-place-init c =
    λ queued a.
    record {
      rest = queued;
      there =
          ap (λ (from : Iter ℕ). map (λ p. slice_get c.args.holds.now p) (from.head.now ++ from.wrapped.now)) c.into_iter-place-iterator.ensures.into_iter_gives
          ∙ ap (λ (ps : List ℕ). map (λ p. slice_get c.args.holds.now p) ps) c.iter-place-items.ensures.rest
          ∙ a.there;
      whole = refl;
    }

pub at-hold-requires : goal.at-hold-requires
at-hold-requires c =
    taken_place
    (subst (λ (left : List ℕ). AreTaken c.args.holds.now c.args.now left c.loop-place.due.entries (fold put_expiry c.args.due.now.entries (live_ones (holds_come c.args.now c.requires.queued)))) c.in-Some.ensures.steps
    (c.loop-place.invariant c.requires.queued c.requires.places))

pub returns-then-hold-now : goal.returns-then-hold-now
returns-then-hold-now c =
    λ queued a.
    taken_before
    (subst (λ (left : List ℕ). AreTaken c.args.holds.now c.args.now left c.loop-place.due.entries (fold put_expiry c.args.due.now.entries (live_ones (holds_come c.args.now queued)))) c.in-Some.ensures.steps
    (c.loop-place.invariant queued a))
    c.at-hold.ensures c.if-hold-now.true

pub loop-place-preserved-in_ok-insert : goal.loop-place-preserved-in_ok-insert
loop-place-preserved-in_ok-insert c =
    λ queued a.
    let all : List Expiry = fold put_expiry c.args.due.now.entries (live_ones (holds_come c.args.now queued)) in
    subst (λ (listed : List Expiry). AreTaken c.args.holds.now c.args.now (c.next.new.self.head.now ++ c.next.new.self.wrapped.now) listed all) (sym c.in_ok-insert.ensures.entries)
    (taken_live
    (subst (λ (left : List ℕ). AreTaken c.args.holds.now c.args.now left c.loop-place.due.entries all) c.in-Some.ensures.steps (c.loop-place.invariant queued a))
    c.at-hold.ensures c.if-hold-now.false c.if-hold.true)

pub loop-place-preserved : goal.loop-place-preserved
loop-place-preserved c =
    λ queued a.
    taken_ended
    (subst (λ (left : List ℕ). AreTaken c.args.holds.now c.args.now left c.loop-place.due.entries (fold put_expiry c.args.due.now.entries (live_ones (holds_come c.args.now queued)))) c.in-Some.ensures.steps
    (c.loop-place.invariant queued a))
    c.at-hold.ensures c.if-hold-now.false c.if-hold.false

pub returns : goal.returns
returns c =
    λ queued a.
    taken_all
    (subst (λ (left : List ℕ). AreTaken c.args.holds.now c.args.now left c.loop-place.due.entries (fold put_expiry c.args.due.now.entries (live_ones (holds_come c.args.now queued))))
    (no_item (c.loop-place.place-iterator.head.now ++ c.loop-place.place-iterator.wrapped.now) c.in-None.ensures.steps.0)
    (c.loop-place.invariant queued a))
