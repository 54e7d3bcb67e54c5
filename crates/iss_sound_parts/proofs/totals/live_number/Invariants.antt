use Rattle.std.proofs.Common.{◌≡◌, ◌+◌, ◌≤◌, drop}
use Rattle.iss_sound_parts.specs.Totals.{live_carried}
use Rattle.iss_sound_parts.proofs.totals.live_number.Given as goal

abbrev pub invariant-loop-carried : goal.invariant-loop-carried
invariant-loop-carried l = (l.number ≤ l.carried-index) × (l.number + live_carried (drop l.carried-index l.txns) ≡ live_carried l.txns)
