-- What the verdicts and the marks of a state's events say.
use Rattle.std.specs.Prelude.{◌≡◌, ℕ, Bool, true, false, not, ◌&&◌, ◌||◌, nat_lt, List, [], ◌∷◌, Option, Some, is_none, if◌then◌else◌}
use Rattle.std.specs.List.{list_all}
use Rattle.iss_model.specs.declared.call.CallState.{CallState}
use Rattle.iss_model.specs.declared.call.CallState.TheVariants as call_state
use Rattle.iss_model.specs.declared.call.Failure.TheVariants as failure
use Rattle.iss_model.specs.declared.call.How.TheVariants as how
use Rattle.iss_model.specs.declared.currency.Currency.{Currency}
use Rattle.iss_model.specs.declared.decision.Verdict.TheVariants as verdict
use Rattle.iss_model.specs.declared.input.Input.{Input}
use Rattle.iss_model.specs.declared.input.Input.TheVariants as input
use Rattle.iss_model.specs.declared.state.Seen.{Seen}
use Rattle.iss_model.specs.declared.state.State.{State}
use Rattle.iss_model.specs.state.Cores.{CoreState, after_setting, core_facts}
use Rattle.iss_states.specs.Again.{amount_of_event}
use Rattle.iss_states.specs.Rebuilding.{is_done}
use Rattle.iss_states.specs.Settled.{IsJudged, reason_before, set_part, sets_something}
use Rattle.iss_states.specs.Showing.{is_asked_mark}

-- a setting among a state's events takes effect if it is done, with its record's number
abbrev pub with_seen_setting : CoreState → Seen → CoreState
with_seen_setting c e =
    if is_done e.verdict && sets_something e.body.input then set_part (after_setting (record c { count = e.number }) e.body.input) else c

-- each setting and load among these events is decided by what those before it have set
abbrev pub AreJudged : CoreState → List Seen → Type 0
AreJudged c [] = Unit {0}
AreJudged c (e ∷ es) = IsJudged (reason_before (core_facts c) e.body.input) e.verdict × AreJudged (with_seen_setting c e) es

-- both or neither
abbrev pub both_or_neither : Bool → Bool → Bool
both_or_neither a b = if a then b else not b

-- an event is pending exactly if its call is asked
abbrev pub is_pending_if_asked : Seen → Bool
is_pending_if_asked e = both_or_neither (is_none e.verdict) (is_asked_mark e.mark)

-- each event of a state is
abbrev pub ArePendingIfAsked : State → Type 0
ArePendingIfAsked s = list_all is_pending_if_asked s.events ≡ true

-- a mark says that a call is asked, or how it was closed; no call fails by the switch
abbrev pub may_stand : Option CallState → Bool
may_stand (Some call_state.Unknown) = false
may_stand (Some (call_state.Closed (how.Failed failure.Switch))) = false
may_stand _ = true

-- the mark of an event is one that may stand
abbrev pub is_marked_well : Seen → Bool
is_marked_well e = may_stand e.mark

-- each mark of a state is
abbrev pub AreMarkedWell : State → Type 0
AreMarkedWell s = list_all is_marked_well s.events ≡ true

-- an authorisation or an increment
abbrev pub is_ask : Input → Bool
is_ask (input.Authorization token card currency amount mcc mid partial) = true
is_ask (input.Increment token txn currency amount) = true
is_ask _ = false

-- a mark stands on an authorisation or an increment
abbrev pub is_marked_if_ask : Seen → Bool
is_marked_if_ask e = is_none e.mark || is_ask e.body.input

-- each mark of a state does
abbrev pub AreMarksOfAsks : State → Type 0
AreMarksOfAsks s = list_all is_marked_if_ask s.events ≡ true

-- An event is approved for a part exactly if its mark says that its call was funded in this part. The part is less than what was asked for.
pub record AgreesOnPart (e : Seen) : Type 0 where
  pub decided : (currency : Currency) (amount : ℕ) → e.verdict ≡ Some (verdict.Partial currency amount) → e.mark ≡ Some (call_state.Closed (how.Partial amount))
  pub marked : (amount : ℕ) → e.mark ≡ Some (call_state.Closed (how.Partial amount)) → (currency : Currency) × (e.verdict ≡ Some (verdict.Partial currency amount))
  pub less : (amount : ℕ) → e.mark ≡ Some (call_state.Closed (how.Partial amount)) → nat_lt amount (amount_of_event e.body.input) ≡ true

-- each of these events does
abbrev pub AgreeOnTheirParts : List Seen → Type 0
AgreeOnTheirParts [] = Unit {0}
AgreeOnTheirParts (e ∷ es) = AgreesOnPart e × AgreeOnTheirParts es
