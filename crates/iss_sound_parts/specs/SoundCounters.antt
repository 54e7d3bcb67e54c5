-- When the counters of a state are sound.
use Rattle.std.specs.Prelude.{◌≤◌, ◌+◌, ◌*◌, ℕ, List}
use Rattle.iss_model.specs.declared.state.State.{State}
use Rattle.iss_states.specs.Rebuilding.{rebuilt}
use Rattle.iss_named.specs.Counters.{AreCountersInOrder}
use Rattle.iss_noticed.specs.Commitments.{most_of_records}
use Rattle.iss_bounded.specs.Bounds.{AreBetween, asked_number, open_amount}
use Rattle.iss_bounded.specs.Many.{counters_of_control, live_number}

-- The counters name what is known and stand in their order. The amount and the count of each are between their bounds. Those of
-- a control, the asked calls and the live transactions together are no more than three for each record.
pub record AreCountersSound (s : State) : Type 0 where
  pub order : AreCountersInOrder s
  pub amounts : AreBetween (λ k. k.used.amount) (open_amount s) (most_of_records s.records) s.counters
  pub counts : AreBetween (λ k. k.used.count) (asked_number (rebuilt s).calls) s.records s.counters
  pub few : (control : List ℕ)
      → counters_of_control control s.counters + asked_number (rebuilt s).calls + live_number (rebuilt s).holdings.txns ≤ 3 * s.records
