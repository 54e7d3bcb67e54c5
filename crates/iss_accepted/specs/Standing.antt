-- Accepted events with their verdicts, as they stand.
use Rattle.std.specs.Prelude.{◌≡◌, ℕ, List, [], find, Option, Some, None, IsSome, option_map}
use Rattle.std.specs.List.{filter_map, slice_get, AllByRecursion}
use Rattle.std.specs.Option.{option_and_then}
use Rattle.std.specs.Str.{bytes_eq}
use Rattle.iss_model.specs.declared.decision.Verdict.{Verdict}
use Rattle.iss_model.specs.Inputs.{event_token}
use Rattle.iss_model.specs.rules.Facts.{Accepted, Decision}

-- an accepted event, and its verdict if it is decided
pub record Standing : Type 0 where
  pub event : Accepted
  pub verdict : Option Verdict

-- a token, or no bytes
abbrev pub token_or_none : Option (List ℕ) → List ℕ
token_or_none None = []
token_or_none (Some token) = token

-- the token of an event
abbrev pub name_of : Standing → List ℕ
name_of s = token_or_none (event_token s.event.input)

-- it is an event, since it has a token
abbrev pub IsNamed : Standing → Type 0
IsNamed s = IsSome (event_token s.event.input)

-- the first of a name
abbrev pub standing_named : List ℕ → List Standing → Option Standing
standing_named name ss = find (λ s. bytes_eq (name_of s) name) ss

-- the decision of an event that is decided
abbrev pub decision_made : Standing → Option Decision
decision_made s = option_map (λ verdict. record { event = name_of s; verdict = verdict }) s.verdict

-- the decision of the event at a place
abbrev pub decision_at : List Standing → ℕ → Option Decision
decision_at ss place = option_and_then decision_made (slice_get ss place)

-- the decisions of the events at these places
abbrev pub decisions_at : List Standing → List ℕ → List Decision
decisions_at ss places = filter_map (decision_at ss) places

-- the decision of a name
abbrev pub decision_named : List ℕ → List Decision → Option Decision
decision_named name ds = find (λ d. bytes_eq d.event name) ds

-- The places of the events that are decided, in the order of their decisions. Each has a verdict, which is found by its event's name.
pub record AreDecided (ss : List Standing) (places : List ℕ) : Type 0 where
  pub made : AllByRecursion (λ place. IsSome (decision_at ss place)) places
  pub found : (name : List ℕ) → decision_named name (decisions_at ss places) ≡ option_and_then decision_made (standing_named name ss)
