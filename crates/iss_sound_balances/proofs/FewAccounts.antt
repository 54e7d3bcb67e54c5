-- That few accounts are of users, as it is computed.
use Rattle.std.proofs.Common.{◌≡◌, ◌+◌, ◌-◌, ◌*◌, ◌&&◌, ℕ, arith, List, nat_le}
use Rattle.std.proofs.lemmas.Bool.Decides.{nat_tests}
use Rattle.iss_model.specs.declared.state.Saldo.{Saldo}
use Rattle.iss_bounded.specs.Many.{user_accounts}
use Rattle.iss_sound_balances.specs.Listed.{are_few_accounts}

few_of : (users others most : ℕ) → (nat_le others most && nat_le users (most - others)) ≡ nat_le (users + others) most
few_of users others most = grind (arith, nat_tests)

pub few_are : (records others : ℕ) (bs : List Saldo) → (nat_le others (3 * records) && nat_le (user_accounts bs) (3 * records - others)) ≡ are_few_accounts records others bs
few_are records others bs = few_of (user_accounts bs) others (3 * records)
