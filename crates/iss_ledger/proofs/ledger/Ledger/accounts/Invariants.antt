use Rattle.std.proofs.Common.{◌≡◌, ◌++◌, map}
use Rattle.std.specs.FinMap as finite
use Rattle.iss_model.specs.Sums.{account_key}
use Rattle.iss_ledger.proofs.ledger.Ledger.accounts.Given as goal

abbrev pub invariant-loop-key : goal.invariant-loop-key
invariant-loop-key l = map account_key l.accounts.items ++ l.key-iterator ≡ finite.keys l.self
