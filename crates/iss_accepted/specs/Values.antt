-- What the accepted events are to a caller, and what they tell.
use Rattle.std.specs.Prelude.{◌≡◌, ℕ, List, [], ◌∷◌, ◌++◌, find, is_some, Option, Some, None, unwrap_or, if◌then◌else◌}
use Rattle.std.specs.BTreeMap.{BTreeMap, get}
use Rattle.std.specs.Cmp.Lexicographic.{slice_cmp}
use Rattle.std.specs.Ordering.{nat_cmp}
use Rattle.iss_model.specs.declared.call.CallState.{CallState}
use Rattle.iss_model.specs.declared.decision.Answer.{Answer}
use Rattle.iss_model.specs.declared.decision.Verdict.{Verdict}
use Rattle.iss_model.specs.declared.input.Input.{Input}
use Rattle.iss_model.specs.declared.state.Seen.{Seen}
use Rattle.iss_model.specs.Inputs.{event_token, is_event}
use Rattle.iss_model.specs.rules.Facts.{Facts, Accepted, Decision, verdict_in}
use Rattle.iss_model.specs.rules.Judging.{token_answer}
use Rattle.iss_model.specs.state.Cores.{no_core, core_facts}

-- the accepted events in the order of their records, and the decisions in the order in which they were made
pub record EventsNow : Type 0 where
  pub accepted : List Accepted
  pub decisions : List Decision

-- nothing was accepted
abbrev pub no_events : EventsNow
no_events = record { accepted = []; decisions = [] }

-- the events with the input of a record, if it is an event
abbrev pub with_input : EventsNow → ℕ → ℕ → Input → EventsNow
with_input e number at i =
    record e {
      accepted = e.accepted ++ (if is_some (event_token i) then record { number = number; at = at; input = i } ∷ [] else []);
    }

-- the events with the verdict of one
abbrev pub with_decision : EventsNow → List ℕ → Verdict → EventsNow
with_decision e event verdict = record e { decisions = e.decisions ++ record { event = event; verdict = verdict } ∷ [] }

-- no event of an input's token was accepted
abbrev pub IsUnknown : EventsNow → Input → Type 0
IsUnknown e i = (token : List ℕ) → event_token i ≡ Some token → find (λ a. is_event token a.input) e.accepted ≡ None

-- the facts that the events tell, as a core would that keeps nothing else
abbrev pub events_facts : EventsNow → Facts
events_facts e = core_facts (record no_core { accepted = e.accepted; decisions = e.decisions })

-- the answer of an input if it is an event that stands
abbrev pub answer_in : Facts → Input → Option Answer
answer_in f i = token_answer f i (event_token i)

-- an accepted event as it stands, with the mark of its call among these
abbrev pub seen_among : EventsNow → BTreeMap (List ℕ) CallState → Accepted → Seen
seen_among e marks a =
    record {
      number = a.number;
      body = record { at = a.at; input = a.input };
      verdict = verdict_in e.decisions (unwrap_or (event_token a.input) []);
      mark = get (slice_cmp nat_cmp) marks (unwrap_or (event_token a.input) []);
    }
