-- Balances as they are listed.
use Rattle.std.specs.Prelude.{ℕ, ℤ, Bool, List}
use Rattle.std.specs.List.{list_all}
use Rattle.iss_model.specs.declared.state.Saldo.{Saldo}
use Rattle.iss_model.specs.Sums.{account_key}
use Rattle.iss_ledger.specs.Keys.{user_of, is_above_zero}

-- a balance, at the key of its account
abbrev pub saldo_entry : Saldo → List ℕ × ℤ
saldo_entry s = (account_key s.account, s.amount)

-- the user of an account has no byte 0, so the account is read from its key again
abbrev pub is_named : Saldo → Bool
is_named s = list_all is_above_zero (user_of s.account)
