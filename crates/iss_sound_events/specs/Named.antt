-- The tokens of events, as they are tested one after the other.
use Rattle.std.specs.Prelude.{ℕ, Bool, true, ◌&&◌, List, [], ◌∷◌, ◌++◌, is_none, is_some, unwrap_or}
use Rattle.iss_model.specs.declared.state.Seen.{Seen}
use Rattle.iss_model.specs.Inputs.{event_token}
use Rattle.iss_index.specs.Places.{place_of}

-- an event has a token
abbrev pub has_token : Seen → Bool
has_token e = is_some (event_token e.body.input)

-- the token of an event
abbrev pub token_of_seen : Seen → List ℕ
token_of_seen e = unwrap_or (event_token e.body.input) []

-- each of these events has a token, which neither is among these names nor is an earlier event's
abbrev pub are_named_apart : List (List ℕ) → List Seen → Bool
are_named_apart names [] = true
are_named_apart names (e ∷ es) =
    has_token e && is_none (place_of (token_of_seen e) names) && are_named_apart (names ++ token_of_seen e ∷ []) es
