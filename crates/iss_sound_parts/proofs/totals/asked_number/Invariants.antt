use Rattle.std.proofs.Common.{◌≡◌, ◌+◌, ◌≤◌, drop}
use Rattle.iss_bounded.specs.Bounds.{asked_number}
use Rattle.iss_sound_parts.proofs.totals.asked_number.Given as goal

abbrev pub invariant-loop-call : goal.invariant-loop-call
invariant-loop-call l = (l.number ≤ l.call-index) × (l.number + asked_number (drop l.call-index l.calls) ≡ asked_number l.calls)
