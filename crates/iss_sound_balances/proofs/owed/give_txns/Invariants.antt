use Rattle.std.proofs.Common.{◌≡◌, drop}
use Rattle.iss_sound_balances.specs.Moves.{AllStaySmall, after_all, listed_moves}
use Rattle.iss_sound_balances.proofs.owed.give_txns.Given as goal

-- what all transactions come to is what the rest comes to on what stands now
abbrev pub invariant-loop-carried : goal.invariant-loop-carried
invariant-loop-carried l = record {
  small : AllStaySmall (listed_moves l.known.txns) l.owed (drop l.carried-index l.txns);
  given : after_all (listed_moves l.known.txns) l.owed (drop l.carried-index l.txns) ≡ after_all (listed_moves l.known.txns) l.fn.owed l.txns;
}
