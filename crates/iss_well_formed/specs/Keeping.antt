-- What a step on a well-formed state keeps.
use Rattle.iss_model.specs.declared.input.Record.{Record}
use Rattle.iss_model.specs.declared.state.State.{State}
use Rattle.iss_states.specs.Order.{IsNewOnState}
use Rattle.iss_states.specs.Rebuilding.{state_after}
use Rattle.iss_well_formed.specs.WellFormed.{IsWellFormed}

-- if a well-formed state has this property, so has the state after each record that is new on it
abbrev pub IsKeptBySteps : (State → Type 0) → Type 0
IsKeptBySteps P = (s : State) (r : Record) → IsWellFormed s → P s → IsNewOnState s r → P (state_after s r)
