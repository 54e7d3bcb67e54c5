use Rattle.std.proofs.Common.{drop}
use Rattle.iss_sound_balances.specs.Listed.{IsLeft}
use Rattle.iss_sound_balances.proofs.taken.take_out.Given as goal

abbrev pub invariant-loop-balance : goal.invariant-loop-balance
invariant-loop-balance l = IsLeft l.balances l.fn.owed (drop l.balance-index l.balances) l.owed
