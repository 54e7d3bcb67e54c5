-- Cores that no rule tells apart. The order in which events were decided shows in nothing. A transaction's sum of 0 doesn't either.
use Rattle.std.specs.Prelude.{◌≡◌, ℕ, List, []}
use Rattle.iss_model.specs.rules.Facts.{verdict_in}
use Rattle.iss_model.specs.state.Cores.{CoreState, no_core}
use Rattle.iss_model.specs.state.Kept.{kept_at}

-- all that a core keeps, but its decisions and the sums of its transactions
abbrev pub all_else : CoreState → CoreState
all_else c = record c { decisions = []; txn_sums = no_core.txn_sums }

-- Two cores are alike: each event is decided alike, each transaction has the same sums, and all else is the same.
pub record AreAlike (c d : CoreState) : Type 0 where
  pub rest : all_else c ≡ all_else d
  pub decided : (event : List ℕ) → verdict_in c.decisions event ≡ verdict_in d.decisions event
  pub cleared : (key : List ℕ) → kept_at c.txn_sums.cleared key ≡ kept_at d.txn_sums.cleared key
  pub refunded : (key : List ℕ) → kept_at c.txn_sums.refunded key ≡ kept_at d.txn_sums.refunded key
  pub paid : (key : List ℕ) → kept_at c.txn_sums.paid key ≡ kept_at d.txn_sums.paid key
