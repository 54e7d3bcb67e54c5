-- What holds of a core that is made again from a state.
use Rattle.iss_model.specs.state.Cores.{CoreState}
use Rattle.iss_state.specs.Few.{HasFewNumbers}
use Rattle.iss_state.specs.InForm.{IsInForm}
use Rattle.iss_state.specs.Pending.{IsWell}
use Rattle.iss_state.specs.Sound.{IsSoundAt}
use Rattle.iss_states.specs.Counted.{CountsTxns}

-- What holds of every core. Its sums are within the reach of its records, its calls and decisions are well, and what it keeps
-- is in form. No more calls and notices were made than its records can make. What it has counted of single transactions is of
-- those that stand.
pub record HoldsOfCore (c : CoreState) : Type 0 where
  pub within : IsSoundAt c.count c
  pub well : IsWell c
  pub forms : IsInForm c
  pub few : HasFewNumbers c.count c
  pub counted : CountsTxns c
