-- How large the amounts of a state's notices are, by what its transactions hold and its calls ask.
use Rattle.std.specs.Prelude.{◌≡◌, ◌≤◌, ℕ, ◌+◌, ◌*◌, Bool, true, ◌&&◌, nat_le, List, [], ◌∷◌}
use Rattle.std.specs.List.{list_all}
use Rattle.iss_model.specs.declared.call.Notice.{Notice}
use Rattle.iss_model.specs.declared.limits.TheConstants.{GREATEST_AMOUNT}
use Rattle.iss_model.specs.declared.state.Carried.{Carried}
use Rattle.iss_model.specs.declared.state.State.{State}
use Rattle.iss_state.specs.Stakes.{total_asked}
use Rattle.iss_states.specs.Rebuilding.{rebuilt}

-- what these transactions hold together
abbrev pub held_together : List Carried → ℕ
held_together [] = 0
held_together (t ∷ ts) = (t.sums.g + t.sums.p + t.sums.s) + held_together ts

-- what a state's transactions hold, and what its asked calls ask
abbrev pub committed_in : State → ℕ
committed_in s = held_together s.txns + total_asked (rebuilt s).calls

-- the greatest amount for each of these records
abbrev pub most_of_records : ℕ → ℕ
most_of_records records = records * GREATEST_AMOUNT

-- a notice's amount and the gateway's part are no more than this
abbrev pub tells_at_most : ℕ → Notice → Bool
tells_at_most most n = nat_le n.amount most && nat_le n.gateway most

-- What transactions hold and calls ask is at most the greatest amount for each record. So are each notice's amount and the gateway's part.
pub record AmountsFit (s : State) : Type 0 where
  pub held : committed_in s ≤ most_of_records s.records
  pub told : list_all (tells_at_most (most_of_records s.records)) s.notices ≡ true
