-- What a core that is made again from a state shows.
use Rattle.std.specs.Prelude.{◌≡◌}
use Rattle.iss_model.specs.declared.state.State.{State}
use Rattle.iss_states.specs.Rebuilding.{rebuilt}
use Rattle.iss_states.specs.Showing.{shown}

-- a core that is made again from a state shows that state
abbrev pub IsShownAgain : State → Type 0
IsShownAgain s = shown (rebuilt s) ≡ s
