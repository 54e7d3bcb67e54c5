use Rattle.std.proofs.Common.{◌≡◌, drop, fold}
use Rattle.iss_restored.specs.Again.{AreSmallSaldos, with_saldo}
use Rattle.iss_restored.proofs.chain.with_balances.Given as goal

-- what all balances come to is what the rest comes to on what stands now
abbrev pub invariant-loop-saldo : goal.invariant-loop-saldo
invariant-loop-saldo l = record {
  small : AreSmallSaldos (drop l.saldo-index l.balances);
  set : fold with_saldo l.chain (drop l.saldo-index l.balances) ≡ fold with_saldo l.fn.chain l.balances;
}
