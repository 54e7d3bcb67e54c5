use Rattle.std.proofs.Common.{◌≡◌, ◌+◌, ◌≤◌, drop}
use Rattle.iss_noticed.specs.Commitments.{held_together}
use Rattle.iss_sound_parts.proofs.totals.held_within.Given as goal

abbrev pub invariant-loop-carried : goal.invariant-loop-carried
invariant-loop-carried l = (l.sum ≤ l.most) × (l.sum + held_together (drop l.carried-index l.txns) ≡ held_together l.txns)
