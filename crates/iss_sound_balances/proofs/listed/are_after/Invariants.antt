use Rattle.std.proofs.Common.{◌≡◌, drop}
use Rattle.iss_sound_balances.specs.Listed.{rise_after}
use Rattle.iss_sound_balances.proofs.listed.are_after.Given as goal

-- all are in order exactly if those that are left are, after the last one
abbrev pub invariant-loop-balance : goal.invariant-loop-balance
invariant-loop-balance l = rise_after l.before (drop l.balance-index l.rest) ≡ rise_after l.fn.first l.rest
