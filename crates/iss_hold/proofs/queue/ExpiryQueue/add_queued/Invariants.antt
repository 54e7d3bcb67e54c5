use Rattle.std.proofs.Common.{List, ◌++◌, fold}
use Rattle.iss_hold.specs.declared.hold.Hold.{Hold}
use Rattle.iss_hold.specs.Expiries.{live_ones, holds_come}
use Rattle.iss_hold.specs.Indexes.{put_expiry, AreQueued}
use Rattle.iss_hold.proofs.Listed.{AreTaken}
use Rattle.iss_hold.proofs.queue.ExpiryQueue.add_queued.Given as goal

abbrev pub invariant-loop-place : goal.invariant-loop-place
invariant-loop-place l =
    (queued : List Hold) → AreQueued l.holds l.self.places.items queued
    → AreTaken l.holds l.now (l.place-iterator.head.now ++ l.place-iterator.wrapped.now) l.due.entries (fold put_expiry l.fn.due.entries (live_ones (holds_come l.now queued)))
