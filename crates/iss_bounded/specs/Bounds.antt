-- How far a state's sums reach, for the records that it has.
use Rattle.std.specs.Prelude.{◌≡◌, ◌≤◌, ◌≤ℤ◌, ◌-ℤ◌, ℕ, ◌+◌, ℤ, pos, Bool, true, nat_le, List, [], ◌∷◌, if◌then◌else◌}
use Rattle.std.specs.List.{list_all}
use Rattle.iss_model.specs.declared.call.Opened.{Opened}
use Rattle.iss_model.specs.declared.counted.Counter.{Counter}
use Rattle.iss_model.specs.declared.counted.Stood.{Stood}
use Rattle.iss_model.specs.declared.state.State.{State}
use Rattle.iss_model.specs.rules.Activity.{CallNow, is_asked}
use Rattle.iss_states.specs.Rebuilding.{rebuilt}
use Rattle.iss_noticed.specs.Commitments.{held_together, most_of_records}

-- what the asked calls come to, each by its worth
abbrev pub asked_worth : (Opened → ℕ) → List CallNow → ℕ
asked_worth worth [] = 0
asked_worth worth (x ∷ xs) = (if is_asked x then worth x.opened else 0) + asked_worth worth xs

-- the amounts of all asked calls together
abbrev pub asked_amounts : List CallNow → ℕ
asked_amounts calls = asked_worth (λ o. o.amount) calls

-- how many calls are asked
abbrev pub asked_number : List CallNow → ℕ
asked_number calls = asked_worth (λ o. 1) calls

-- a sum of stand-ins, with what calls ask, is within a bound
abbrev pub is_stood_within : ℕ → ℕ → Stood → Bool
is_stood_within asked most x = nat_le (x.amount + asked) most

-- a sum is at least a load less a bound, and at most the bound
pub record IsBetween (load bound : ℕ) (sum : ℤ) : Type 0 where
  pub low : (pos load -ℤ pos bound) ≤ℤ sum
  pub high : sum ≤ℤ pos bound

-- so is what each of these counters has, by this worth
abbrev pub AreBetween : (Counter → ℤ) → ℕ → ℕ → List Counter → Type 0
AreBetween worth load bound [] = Unit {0}
AreBetween worth load bound (k ∷ ks) = IsBetween load bound (worth k) × AreBetween worth load bound ks

-- what is open in a state: what its transactions hold, and the amounts of its asked calls
abbrev pub open_amount : State → ℕ
open_amount s = held_together s.txns + asked_amounts (rebuilt s).calls

-- What is open is at most what the records may come to. So is each sum of stand-ins with the amounts of all asked calls. A counter's amount
-- is at least what is open less what the records may come to, and at most that. Its count is at least the number of asked calls less that of
-- records, and at most that of records.
pub record AreBounded (s : State) : Type 0 where
  pub opened : open_amount s ≤ most_of_records s.records
  pub sums : list_all (is_stood_within (asked_amounts (rebuilt s).calls) (most_of_records s.records)) s.sums ≡ true
  pub amounts : AreBetween (λ k. k.used.amount) (open_amount s) (most_of_records s.records) s.counters
  pub counts : AreBetween (λ k. k.used.count) (asked_number (rebuilt s).calls) s.records s.counters
