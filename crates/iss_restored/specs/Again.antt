-- A chain that is made again: transactions are taken up one after the other, each with its sums, and then balances are set.
use Rattle.std.specs.Prelude.{List, [], ◌∷◌}
use Rattle.iss_model.specs.declared.state.Carried.{Carried}
use Rattle.iss_model.specs.declared.state.Saldo.{Saldo}
use Rattle.iss_model.specs.rules.Activity.{TxnNow}
use Rattle.iss_model.specs.state.Kept.{IsSmall}
use Rattle.iss_chain.specs.Carrying.{with_balance}
use Rattle.iss_chain.specs.Restoring.{IsRestorable, with_restored}
use Rattle.iss_chain.specs.Values.{ChainNow}

-- a chain with these transactions taken up again, each with the sums that are listed in its place
abbrev pub restored_from : ChainNow → List TxnNow → List Carried → ChainNow
restored_from c [] ts = c
restored_from c (x ∷ xs) [] = c
restored_from c (x ∷ xs) (t ∷ ts) = restored_from (with_restored c x.txn t.sums) xs ts

-- each of these transactions is new in its turn, and leaves small sums if it is taken up again
abbrev pub AreRestorable : ChainNow → List TxnNow → List Carried → Type 0
AreRestorable c [] ts = Unit {0}
AreRestorable c (x ∷ xs) [] = Unit {0}
AreRestorable c (x ∷ xs) (t ∷ ts) = IsRestorable c x.txn t.sums × AreRestorable (with_restored c x.txn t.sums) xs ts

-- a chain with a listed balance
abbrev pub with_saldo : ChainNow → Saldo → ChainNow
with_saldo c b = with_balance c b.account b.amount

-- each listed balance lies strictly between -2^62 and 2^62
abbrev pub AreSmallSaldos : List Saldo → Type 0
AreSmallSaldos [] = Unit {0}
AreSmallSaldos (b ∷ bs) = IsSmall b.amount × AreSmallSaldos bs
