-- A step on states.
use Rattle.std.specs.Prelude.{◌≡◌, List, [], ◌∷◌, ◌++◌}
use Rattle.iss_model.specs.declared.input.Record.{Record}
use Rattle.iss_model.specs.rules.Histories.{history_of}
use Rattle.iss_states.specs.OverBook.{state_of}
use Rattle.iss_states.specs.Rebuilding.{state_after}

-- the state after a further record is that of the history with this record
abbrev pub StateFollows : List Record → Record → Type 0
StateFollows rs r = state_after (state_of (history_of rs)) r ≡ state_of (history_of (rs ++ r ∷ []))
