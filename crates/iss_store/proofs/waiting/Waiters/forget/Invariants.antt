use Rattle.std.proofs.Common.{◌≡◌, ◌==◌, not, filter, length}
use Rattle.iss_channels.specs.Placed.{things_of}
use Rattle.iss_store.specs.Waiting.{AreWaitersKept}
use Rattle.iss_store.proofs.waiting.Waiters.forget.Given as goal

abbrev pub invariant-loop-place : goal.invariant-loop-place
invariant-loop-place l = record {
  left : filter (λ w. not (w.ch.0 == l.ch.0)) (things_of l.self-inside.waiting) ≡ filter (λ w. not (w.ch.0 == l.ch.0)) (things_of l.initial.self-inside.waiting);
  kept : AreWaitersKept l.self-inside.events l.self-inside.waiting;
}

abbrev pub decreases-loop-place : goal.decreases-loop-place
decreases-loop-place l = length l.self-inside.waiting.entries
