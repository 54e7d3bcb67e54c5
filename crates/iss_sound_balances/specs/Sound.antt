-- When the balances of a state are sound.
use Rattle.std.specs.Prelude.{◌≤◌, ◌+◌, ◌*◌}
use Rattle.iss_model.specs.declared.state.State.{State}
use Rattle.iss_states.specs.Rebuilding.{rebuilt}
use Rattle.iss_balanced.specs.Owed.{AreOwed}
use Rattle.iss_bounded.specs.Bounds.{asked_number}
use Rattle.iss_bounded.specs.Many.{live_number, user_accounts}
use Rattle.iss_named.specs.Balances.{AreBalancesInOrder}

-- The balances of a state are sound: each account has the balance that it is owed, they are of known accounts and in order, and users'
-- accounts, the asked calls and the live transactions together are no more than three for each record.
pub record AreBalancesSound (s : State) : Type 0 where
  pub owed : AreOwed s
  pub listed : AreBalancesInOrder s
  pub few : user_accounts s.balances + asked_number (rebuilt s).calls + live_number (rebuilt s).holdings.txns ≤ 3 * s.records
