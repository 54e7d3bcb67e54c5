-- How many sums, counters and users' accounts a state has, for the records that it has.
use Rattle.std.specs.Prelude.{◌≤◌, ◌+◌, ◌*◌, ℕ, Bool, true, false, List, [], ◌∷◌, filter, length, if◌then◌else◌}
use Rattle.std.specs.Str.{bytes_eq}
use Rattle.iss_model.specs.declared.account.Account.{Account}
use Rattle.iss_model.specs.declared.account.Account.TheVariants as account
use Rattle.iss_model.specs.declared.counted.Counter.{Counter}
use Rattle.iss_model.specs.declared.state.Saldo.{Saldo}
use Rattle.iss_model.specs.declared.state.State.{State}
use Rattle.iss_model.specs.rules.Activity.{TxnNow}
use Rattle.iss_states.specs.Rebuilding.{rebuilt}
use Rattle.iss_bounded.specs.Bounds.{asked_number}

-- how many transactions are live
abbrev pub live_number : List TxnNow → ℕ
live_number [] = 0
live_number (t ∷ ts) = (if t.live then 1 else 0) + live_number ts

-- how many of these counters are of a control
abbrev pub counters_of_control : List ℕ → List Counter → ℕ
counters_of_control name ks = length (filter (λ k. bytes_eq k.control name) ks)

-- an account is a user's
abbrev pub is_of_user : Account → Bool
is_of_user (account.User user currency) = true
is_of_user _ = false

-- how many of these balances are of users
abbrev pub user_accounts : List Saldo → ℕ
user_accounts [] = 0
user_accounts (b ∷ bs) = (if is_of_user b.account then 1 else 0) + user_accounts bs

-- The sums of stand-ins and the asked calls together are no more than the records. The counters of a control, the asked calls and the live
-- transactions together are no more than three for each record. So are users' accounts, the asked calls and the live transactions.
pub record AreFewEnough (s : State) : Type 0 where
  pub sums : length s.sums + asked_number (rebuilt s).calls ≤ s.records
  pub counters : (control : List ℕ) → counters_of_control control s.counters + asked_number (rebuilt s).calls + live_number (rebuilt s).holdings.txns ≤ 3 * s.records
  pub accounts : user_accounts s.balances + asked_number (rebuilt s).calls + live_number (rebuilt s).holdings.txns ≤ 3 * s.records
