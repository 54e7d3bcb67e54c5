-- Calls and transactions of a core that is made again from what is shown, as they are in the core.
use Rattle.std.specs.Prelude.{◌≡◌, ℕ, List}
use Rattle.iss_model.specs.state.Cores.{CoreState}
use Rattle.iss_model.specs.state.Kept.{kept_at}
use Rattle.iss_states.specs.Rebuilding.{rebuilt}
use Rattle.iss_states.specs.Showing.{shown}

-- a core made again from what this one shows has its transactions
abbrev pub HasTxnsAgain : CoreState → Type 0
HasTxnsAgain c = (rebuilt (shown c)).holdings.txns ≡ c.holdings.txns

-- and its calls
abbrev pub HasCallsAgain : CoreState → Type 0
HasCallsAgain c = (rebuilt (shown c)).calls ≡ c.calls

-- and its transactions' parts, each at its key
abbrev pub HasPartsAgain : CoreState → Type 0
HasPartsAgain c = (rebuilt (shown c)).holdings.parts ≡ c.holdings.parts

-- and what is held of each user in a currency
abbrev pub HasHeldAgain : CoreState → Type 0
HasHeldAgain c = (rebuilt (shown c)).holdings.held ≡ c.holdings.held

-- Each transaction has its sums in a core made again: what was cleared of it, what was refunded, and what the programme has paid.
pub record HasTxnSumsAgain (c : CoreState) : Type 0 where
  pub cleared : (key : List ℕ) → kept_at (rebuilt (shown c)).txn_sums.cleared key ≡ kept_at c.txn_sums.cleared key
  pub refunded : (key : List ℕ) → kept_at (rebuilt (shown c)).txn_sums.refunded key ≡ kept_at c.txn_sums.refunded key
  pub paid : (key : List ℕ) → kept_at (rebuilt (shown c)).txn_sums.paid key ≡ kept_at c.txn_sums.paid key
