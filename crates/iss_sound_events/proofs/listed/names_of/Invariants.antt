use Rattle.std.proofs.Common.{◌≡◌, ℕ, List, drop}
use Rattle.std.specs.Prelude.{◌||◌, is_some}
use Rattle.iss_index.specs.Places.{place_of}
use Rattle.iss_states.specs.Rebuilding.{carried_named}
use Rattle.iss_sound_events.proofs.listed.names_of.Given as goal

-- a transaction is listed exactly if its name was added or it is among those that are left
abbrev pub invariant-loop-carried : goal.invariant-loop-carried
invariant-loop-carried l =
    (token : List ℕ)
    → is_some (carried_named token l.txns)
    ≡ (is_some (place_of token l.names) || is_some (carried_named token (drop l.carried-index l.txns)))
