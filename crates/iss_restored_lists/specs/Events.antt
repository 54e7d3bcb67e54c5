-- Events as they are taken up again.
use Rattle.std.specs.Prelude.{◌≡◌, ℕ, List, [], ◌∷◌, ◌++◌, map, find, None, unwrap_or}
use Rattle.std.specs.List.{flat_map}
use Rattle.std.specs.Str.{bytes_eq}
use Rattle.iss_model.specs.declared.state.Seen.{Seen}
use Rattle.iss_model.specs.Inputs.{event_token, is_event}
use Rattle.iss_model.specs.state.Cores.{CoreState}
use Rattle.iss_accepted.specs.Values.{EventsNow}
use Rattle.iss_states.specs.Rebuilding.{decisions_of_event}
use Rattle.iss_states.specs.Showing.{accepted_of_seen}

-- the accepted events of a core, and its decisions
abbrev pub events_of_core : CoreState → EventsNow
events_of_core c = record { accepted = c.accepted; decisions = c.decisions }

-- events of a state as they were accepted, and their decisions in the order of the events
abbrev pub events_of_seen : List Seen → EventsNow
events_of_seen es = record { accepted = map accepted_of_seen es; decisions = flat_map decisions_of_event es }

-- an event of a state is taken up after others
abbrev pub with_event_seen : EventsNow → Seen → EventsNow
with_event_seen now e =
    record { accepted = now.accepted ++ accepted_of_seen e ∷ []; decisions = now.decisions ++ decisions_of_event e }

-- the token of an event of a state
abbrev pub token_of_seen : Seen → List ℕ
token_of_seen e = unwrap_or (event_token e.body.input) []

-- An event's token is neither that of an accepted event nor of a decided one.
pub record IsNewAmong (now : EventsNow) (e : Seen) : Type 0 where
  pub accepted : find (λ a. is_event (token_of_seen e) a.input) now.accepted ≡ None
  pub decided : find (λ d. bytes_eq d.event (token_of_seen e)) now.decisions ≡ None
