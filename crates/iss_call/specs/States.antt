-- Calls as they stand, the state of one, those that are due and those of a transaction.
use Rattle.std.specs.Prelude.{◌≡◌, ℕ, nat_le, ◌&&◌, List, [], ◌∷◌, ◌++◌, map, filter, find, fold, Option, Some, None, option_to_list}
use Rattle.std.specs.BTreeMap.{BTreeMap, get}
use Rattle.std.specs.Cmp.Lexicographic.{slice_cmp}
use Rattle.std.specs.Option.{option_map}
use Rattle.std.specs.Ordering.{nat_cmp}
use Rattle.std.specs.Str.{bytes_eq}
use Rattle.iss_model.specs.declared.call.CallId.{CallId}
use Rattle.iss_model.specs.declared.call.How.{How}
use Rattle.iss_model.specs.declared.call.Opened.{Opened}
use Rattle.iss_model.specs.declared.call.CallState.{CallState}
use Rattle.iss_model.specs.declared.call.CallState.TheVariants as call_state
use Rattle.iss_model.specs.rules.Activity.{CallNow, call_numbered, is_asked}
use Rattle.iss_model.specs.rules.Due.{DueItem, due_call, items_with}
use Rattle.iss_call.specs.declared.call.Call.{Call}

-- a call as contracts see it
abbrev pub seen_call : Call → CallNow
seen_call call = record { opened = call.opened; how = call.how }

-- a call is asked until it was closed
abbrev pub state_by : Option How → CallState
state_by None = call_state.Asked
state_by (Some how) = call_state.Closed how

-- the state of a call, unknown if there is none
abbrev pub call_state_of : Option CallNow → CallState
call_state_of None = call_state.Unknown
call_state_of (Some c) = state_by c.how

-- the state of the call of this number
abbrev pub state_in : List CallNow → ℕ → CallState
state_in calls number = call_state_of (call_numbered number calls)

-- the asked calls whose deadline has come, by deadline and number
abbrev pub calls_due : List CallNow → ℕ → List DueItem
calls_due calls now = fold items_with [] (filter (λ item. nat_le item.since now) (map due_call (filter is_asked calls)))

-- the asked calls of a transaction, by number
abbrev pub asked_of : List CallNow → List ℕ → List CallNow
asked_of calls txn = filter (λ c. is_asked c && bytes_eq c.opened.txn txn) calls

-- the calls of these numbers as they were opened, if there are such
abbrev pub looked_up : List CallNow → List CallId → List Opened
looked_up calls [] = []
looked_up calls (id ∷ ids) = option_to_list (option_map (λ (c : CallNow). c.opened) (call_numbered id.0 calls)) ++ looked_up calls ids

-- how the first call of an event stands, if it has one
abbrev pub mark_among : List CallNow → List ℕ → Option CallState
mark_among calls event = option_map (λ c. state_by c.how) (find (λ c. bytes_eq c.opened.event event) calls)

-- the mark of each event is how its first call stands
abbrev pub AreMarks : List CallNow → BTreeMap (List ℕ) CallState → Type 0
AreMarks calls marks = (event : List ℕ) → get (slice_cmp nat_cmp) marks event ≡ mark_among calls event
