-- What holds of every core, and of a state that a record was taken up on.
use Rattle.std.specs.Prelude.{ℕ, ◌<◌}
use Rattle.iss_model.specs.declared.limits.TheConstants.{MOST_RECORDS}
use Rattle.iss_model.specs.declared.input.Input.{Input}
use Rattle.iss_model.specs.state.Cores.{CoreState}
use Rattle.iss_state.specs.Sound.{IsSoundAt, IsReady}
use Rattle.iss_state.specs.InForm.{IsInForm}
use Rattle.iss_state.specs.Few.{HasFewNumbers}
use Rattle.iss_state.specs.Pending.{IsWell, HasTakenUp}
use Rattle.iss_states.specs.Counted.{CountsTxns}

-- What holds of every core. Its sums are within the reach of its records, its calls and decisions are well, and its stamps are in form.
-- No more calls and notices were made than its records can make. What it has counted of single transactions is of those that stand.
pub record IsSound (s : CoreState) : Type 0 where
  pub within : IsSoundAt s.count s
  pub well : IsWell s
  pub forms : IsInForm s
  pub few : HasFewNumbers s.count s
  pub counted : CountsTxns s

-- A record with this input was taken up and hasn't made its own entries yet.
pub record IsTakenUp (i : Input) (s : CoreState) : Type 0 where
  pub before : ℕ
  pub room : before < MOST_RECORDS
  pub ready : IsReady before s i
  pub taken : HasTakenUp s i
  pub forms : IsInForm s
  pub few : HasFewNumbers before s
  pub counted : CountsTxns s
