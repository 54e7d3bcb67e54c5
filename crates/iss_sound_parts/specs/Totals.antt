-- What is open in a state: amounts and numbers.
use Rattle.std.specs.Prelude.{◌≡◌, ◌≤◌, ℕ, ◌+◌, nat_le, List, [], ◌∷◌, Option, Some, None, option_map, if◌then◌else◌}
use Rattle.iss_model.specs.declared.state.Carried.{Carried}
use Rattle.iss_model.specs.declared.state.State.{State}
use Rattle.iss_model.specs.rules.Activity.{CallNow}
use Rattle.iss_states.specs.Rebuilding.{rebuilt}
use Rattle.iss_noticed.specs.Commitments.{held_together, most_of_records}
use Rattle.iss_bounded.specs.Bounds.{asked_amounts, asked_number, open_amount}
use Rattle.iss_bounded.specs.Many.{live_number}
use Rattle.iss_sound_parts.specs.declared.totals.Open.{Open}

-- This is open in a state: its amount, which is within what the records may come to, the amount of the asked calls, and how many calls are
-- asked and how many transactions are live.
pub record IsOpenIn (o : Open) (s : State) : Type 0 where
  pub amount : o.amount ≡ open_amount s
  pub within : open_amount s ≤ most_of_records s.records
  pub asked_amount : o.asked_amount ≡ asked_amounts (rebuilt s).calls
  pub asked : o.asked ≡ asked_number (rebuilt s).calls
  pub live : o.live ≡ live_number (rebuilt s).holdings.txns

-- a sum, if it is within a bound
abbrev pub if_within : ℕ → ℕ → Option ℕ
if_within most sum = if nat_le sum most then Some sum else None

-- how many of these are live
abbrev pub live_carried : List Carried → ℕ
live_carried [] = 0
live_carried (t ∷ ts) = (if t.sums.live then 1 else 0) + live_carried ts

-- what these transactions and calls have open, if that is within a bound
abbrev pub open_of : ℕ → List Carried → List CallNow → Option Open
open_of most ts xs =
    option_map (λ sum. record { amount = sum; asked_amount = asked_amounts xs; asked = asked_number xs; live = live_carried ts })
    (if_within most (held_together ts + asked_amounts xs))
