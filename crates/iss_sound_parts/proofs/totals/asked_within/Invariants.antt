use Rattle.std.proofs.Common.{◌≡◌, ◌+◌, ◌≤◌, drop}
use Rattle.iss_bounded.specs.Bounds.{asked_amounts}
use Rattle.iss_sound_parts.proofs.totals.asked_within.Given as goal

abbrev pub invariant-loop-call : goal.invariant-loop-call
invariant-loop-call l = (l.sum ≤ l.most) × (l.sum + asked_amounts (drop l.call-index l.calls) ≡ asked_amounts l.calls)
