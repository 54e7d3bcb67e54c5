-- What the balances of a state name.
use Rattle.std.specs.Prelude.{◌≡◌, ℕ, Bool, true, List, map}
use Rattle.std.specs.List.{list_all}
use Rattle.iss_model.specs.declared.account.Account.{Account}
use Rattle.iss_model.specs.declared.account.Account.TheVariants as account
use Rattle.iss_model.specs.declared.setting.User.{User}
use Rattle.iss_model.specs.declared.state.Saldo.{Saldo}
use Rattle.iss_model.specs.declared.state.State.{State}
use Rattle.iss_model.specs.Sums.{account_key}
use Rattle.iss_states.specs.Rebuilding.{rebuilt}
use Rattle.iss_named.specs.Known.{do_keys_rise, is_known_user}

-- the user of an account is known, if it is one's
abbrev pub is_known_account : List User → Account → Bool
is_known_account users (account.User user currency) = is_known_user users user
is_known_account users _ = true

-- where a balance stands in their order: by its account
abbrev pub place_of_balance : Saldo → List ℕ
place_of_balance b = account_key b.account

-- The balances of a state are of known accounts, in their order and once each.
pub record AreBalancesInOrder (s : State) : Type 0 where
  pub known : list_all (λ b. is_known_account (rebuilt s).cardholders.users b.account) s.balances ≡ true
  pub order : do_keys_rise (map place_of_balance s.balances) ≡ true
