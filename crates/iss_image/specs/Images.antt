-- How a state is spelled: its parts one after the other, each token of its events' records by its place among them.
-- Each list stands after its length. All numbers are big-endian.
use Rattle.std.specs.Prelude.{ℕ, List, [], ◌∷◌, ◌++◌, fold, Option, Some, None, is_some, if◌then◌else◌}
use Rattle.std.specs.List.{flat_map}
use Rattle.iss_model.specs.declared.call.CallState.{CallState}
use Rattle.iss_model.specs.declared.call.CallState.TheVariants as call_state
use Rattle.iss_model.specs.declared.call.Failure.TheVariants as failure
use Rattle.iss_model.specs.declared.call.How.{How}
use Rattle.iss_model.specs.declared.call.How.TheVariants as how
use Rattle.iss_model.specs.declared.decision.Reason.{Reason}
use Rattle.iss_model.specs.declared.decision.Reason.TheVariants as reason
use Rattle.iss_model.specs.declared.decision.Verdict.{Verdict}
use Rattle.iss_model.specs.declared.decision.Verdict.TheVariants as verdict
use Rattle.iss_model.specs.declared.state.Seen.{Seen}
use Rattle.iss_model.specs.Inputs.{card_state_number, user_state_number}
use Rattle.iss_model.specs.texts.Spelling.{number_bytes, amount_bytes, spelled_input, tokens_of}
use Rattle.iss_index.specs.Places.{place_of}

-- the number of a reason, from 1 in the order of reasons. A refused move has one number, whomever it moves.
abbrev pub reason_number : Reason → ℕ
reason_number reason.Exists = 1
reason_number reason.Limit = 2
reason_number reason.UserUnknown = 3
reason_number reason.ProductUnknown = 4
reason_number reason.CardUnknown = 5
reason_number reason.GroupUnknown = 6
reason_number reason.ControlFixed = 7
reason_number reason.SetFixed = 8
reason_number (reason.MoveCard from to) = 9
reason_number (reason.MoveUser from to) = 9
reason_number reason.CardState = 10
reason_number reason.UserState = 11
reason_number reason.Currency = 12
reason_number reason.TxnUnknown = 13
reason_number reason.TxnClosed = 14
reason_number reason.TxnPending = 15
reason_number (reason.Control name) = 16
reason_number reason.InsufficientFunds = 17
reason_number reason.GatewayDeclined = 18
reason_number reason.GatewayConnection = 19
reason_number reason.GatewayTimeout = 20
reason_number reason.GatewayApplication = 21
reason_number reason.GatewaySwitch = 22
reason_number (reason.StandInLimit name) = 23
reason_number reason.Reversed = 24
reason_number reason.Cleared = 25
reason_number reason.Expired = 26
reason_number reason.RefundOver = 27

-- how a call was closed. No event is given up because of a switch: that number isn't read.
abbrev pub how_bytes : How → List ℕ
how_bytes how.Funded = 2 ∷ []
how_bytes how.Refused = 3 ∷ []
how_bytes (how.Failed failure.Connection) = 4 ∷ []
how_bytes (how.Failed failure.Timeout) = 5 ∷ []
how_bytes (how.Failed failure.Application) = 6 ∷ []
how_bytes (how.Failed failure.Switch) = 9 ∷ []
how_bytes how.Abandoned = 7 ∷ []
how_bytes (how.Partial amount) = 8 ∷ amount_bytes amount

-- how the call of an event stands, if it has one. A call that isn't known has a number that isn't read.
abbrev pub mark_bytes : Option CallState → List ℕ
mark_bytes None = 0 ∷ []
mark_bytes (Some call_state.Asked) = 1 ∷ []
mark_bytes (Some (call_state.Closed how)) = how_bytes how
mark_bytes (Some call_state.Unknown) = 10 ∷ []

-- What holds tokens, with each token as `token_bytes` spells it.
module _ (token_bytes : List ℕ → List ℕ) where
  -- what a reason says besides its number: the name of a control or of a set, or the states that a move was to go from and to
  abbrev pub reason_details : Reason → List ℕ
  reason_details (reason.MoveCard from to) = card_state_number from ∷ card_state_number to ∷ []
  reason_details (reason.MoveUser from to) = user_state_number from ∷ user_state_number to ∷ []
  reason_details (reason.Control name) = token_bytes name
  reason_details (reason.StandInLimit name) = token_bytes name
  reason_details _ = []

  -- a reason's number, and what it says besides
  abbrev pub reason_bytes : Reason → List ℕ
  reason_bytes r = reason_number r ∷ reason_details r

  -- the verdict on an event, if there is one. The currency of a part is the event's own.
  abbrev pub verdict_bytes : Option Verdict → List ℕ
  verdict_bytes None = 0 ∷ []
  verdict_bytes (Some verdict.Done) = 1 ∷ []
  verdict_bytes (Some verdict.Approved) = 2 ∷ []
  verdict_bytes (Some (verdict.Declined reason)) = 3 ∷ reason_bytes reason
  verdict_bytes (Some (verdict.Partial currency amount)) = 4 ∷ amount_bytes amount

  -- an event with what came of it
  abbrev pub seen_bytes : Seen → List ℕ
  seen_bytes e = number_bytes 4 e.number ++ spelled_input token_bytes e.body.at e.body.input ++ verdict_bytes e.verdict ++ mark_bytes e.mark

-- tokens with this one, each once
abbrev pub with_token : List (List ℕ) → List ℕ → List (List ℕ)
with_token tokens token = if is_some (place_of token tokens) then tokens else tokens ++ token ∷ []

-- tokens with those of these events' records, each once
abbrev pub tokens_with : List (List ℕ) → List Seen → List (List ℕ)
tokens_with tokens es = fold with_token tokens (flat_map (λ e. tokens_of e.body.input) es)

-- The tokens of the events' records, each once, in the order in which they first stand in their spellings.
abbrev pub tokens_first : List Seen → List (List ℕ)
tokens_first es = tokens_with [] es
