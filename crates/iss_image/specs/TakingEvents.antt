-- How the events of a state are read again: each word takes a field from the start, and returns it with the bytes after it.
use Rattle.std.specs.Prelude.{ℕ, ◌==◌, List, [], ◌∷◌, Option, Some, None, if◌then◌else◌}
use Rattle.iss_model.specs.declared.call.CallState.{CallState}
use Rattle.iss_model.specs.declared.call.CallState.TheVariants as call_state
use Rattle.iss_model.specs.declared.call.Failure.TheVariants as failure
use Rattle.iss_model.specs.declared.call.How.TheVariants as how
use Rattle.iss_model.specs.declared.currency.Currency.{Currency}
use Rattle.iss_model.specs.declared.decision.Reason.{Reason}
use Rattle.iss_model.specs.declared.decision.Reason.TheVariants as reason
use Rattle.iss_model.specs.declared.decision.Verdict.{Verdict}
use Rattle.iss_model.specs.declared.decision.Verdict.TheVariants as verdict
use Rattle.iss_model.specs.declared.input.Input.{Input}
use Rattle.iss_model.specs.declared.input.Input.TheVariants as input
use Rattle.iss_model.specs.declared.setting.Moved.TheVariants as moved
use Rattle.iss_model.specs.declared.state.Seen.{Seen}
use Rattle.iss_model.specs.Numbers.{of_number, card_state_numbered, user_state_numbered}
use Rattle.iss_codec.specs.Taking.{◌>>=◌, take_byte, take_number, take_numbered, take_named}
use Rattle.iss_codec.specs.TakingRecords.{take_input}
use Rattle.iss_image.specs.Images.{reason_number}

-- the reasons that their numbers say whole
abbrev pub plain_reasons : List Reason
plain_reasons =
    reason.Exists ∷ reason.Limit ∷ reason.UserUnknown ∷ reason.ProductUnknown ∷ reason.CardUnknown ∷ reason.GroupUnknown ∷ reason.ControlFixed ∷ reason.SetFixed
    ∷ reason.CardState ∷ reason.UserState ∷ reason.Currency ∷ reason.TxnUnknown ∷ reason.TxnClosed ∷ reason.TxnPending ∷ reason.InsufficientFunds
    ∷ reason.GatewayDeclined ∷ reason.GatewayConnection ∷ reason.GatewayTimeout ∷ reason.GatewayApplication ∷ reason.GatewaySwitch ∷ reason.Reversed
    ∷ reason.Cleared ∷ reason.Expired ∷ reason.RefundOver ∷ []

-- a reason by its number, if that says it whole
abbrev pub reason_numbered : ℕ → Option Reason
reason_numbered n = of_number reason_number plain_reasons n

-- a reason that its number says whole, with the bytes after it
abbrev pub plain_reason : ℕ → List ℕ → Option (Reason × List ℕ)
plain_reason n bytes = do
  reason ← reason_numbered n
  Some (reason, bytes)

-- the states that a card was to be moved from and to
unfoldable pub take_card_states : List ℕ → Option (Reason × List ℕ)
take_card_states bytes = do
  from ← take_numbered card_state_numbered bytes
  to ← take_numbered card_state_numbered from.1
  Some (reason.MoveCard from.0 to.0, to.1)

-- the states that a user was to be moved from and to
unfoldable pub take_user_states : List ℕ → Option (Reason × List ℕ)
take_user_states bytes = do
  from ← take_numbered user_state_numbered bytes
  to ← take_numbered user_state_numbered from.1
  Some (reason.MoveUser from.0 to.0, to.1)

-- the states of a move that was refused, if the event is a move
abbrev pub take_refused_move : Input → List ℕ → Option (Reason × List ℕ)
take_refused_move (input.Move token (moved.Card card to)) bytes = take_card_states bytes
take_refused_move (input.Move token (moved.User user to)) bytes = take_user_states bytes
take_refused_move _ bytes = None

-- the currency of an event's amount, if it has one
abbrev pub currency_of_event : Input → Option Currency
currency_of_event (input.Load token user currency amount) = Some currency
currency_of_event (input.Authorization token card currency amount mcc mid partial) = Some currency
currency_of_event (input.Increment token txn currency amount) = Some currency
currency_of_event (input.Reversal token txn currency amount) = Some currency
currency_of_event (input.Clearing token txn currency amount last) = Some currency
currency_of_event (input.Refund token txn currency amount) = Some currency
currency_of_event _ = None

-- an approval of a part in this currency
unfoldable pub take_part_approved : Currency → List ℕ → Option (Option Verdict × List ℕ)
take_part_approved currency bytes = do
  amount ← take_number 8 bytes
  Some (Some (verdict.Partial currency amount.0), amount.1)

-- an approval of a part, if the event has a currency
abbrev pub take_part_of : Option Currency → List ℕ → Option (Option Verdict × List ℕ)
take_part_of None bytes = None
take_part_of (Some currency) bytes = take_part_approved currency bytes

-- a call that the gateway funded in part
unfoldable pub take_part_funded : List ℕ → Option (Option CallState × List ℕ)
take_part_funded bytes = do
  amount ← take_number 8 bytes
  Some (Some (call_state.Closed (how.Partial amount.0)), amount.1)

-- a mark, by its first byte
abbrev pub take_mark_by : ℕ → List ℕ → Option (Option CallState × List ℕ)
take_mark_by n bytes =
    if n == 0 then Some (None, bytes)
    else if n == 1 then Some (Some call_state.Asked, bytes)
    else if n == 2 then Some (Some (call_state.Closed how.Funded), bytes)
    else if n == 3 then Some (Some (call_state.Closed how.Refused), bytes)
    else if n == 4 then Some (Some (call_state.Closed (how.Failed failure.Connection)), bytes)
    else if n == 5 then Some (Some (call_state.Closed (how.Failed failure.Timeout)), bytes)
    else if n == 6 then Some (Some (call_state.Closed (how.Failed failure.Application)), bytes)
    else if n == 7 then Some (Some (call_state.Closed how.Abandoned), bytes)
    else if n == 8 then take_part_funded bytes
    else None

-- how the call of an event stands, if it has one
unfoldable pub take_mark : List ℕ → Option (Option CallState × List ℕ)
take_mark bytes = do
  byte ← take_byte bytes
  take_mark_by byte.0 byte.1

-- What holds tokens, with each token as `take_name` takes it.
module _ (take_name : List ℕ → Option (List ℕ × List ℕ)) where
  -- a reason, by its number
  abbrev pub take_reason_by : Input → ℕ → List ℕ → Option (Reason × List ℕ)
  take_reason_by i n bytes =
      if n == 9 then take_refused_move i bytes
      else if n == 16 then take_named take_name reason.Control bytes
      else if n == 23 then take_named take_name reason.StandInLimit bytes
      else plain_reason n bytes

  -- why this event was declined
  unfoldable pub take_reason : Input → List ℕ → Option (Reason × List ℕ)
  take_reason i bytes = do
    byte ← take_byte bytes
    take_reason_by i byte.0 byte.1

  -- that this event was declined
  unfoldable pub take_declined : Input → List ℕ → Option (Option Verdict × List ℕ)
  take_declined i bytes = do
    why ← take_reason i bytes
    Some (Some (verdict.Declined why.0), why.1)

  -- a verdict, by its first byte
  abbrev pub take_verdict_by : Input → ℕ → List ℕ → Option (Option Verdict × List ℕ)
  take_verdict_by i n bytes =
      if n == 0 then Some (None, bytes)
      else if n == 1 then Some (Some verdict.Done, bytes)
      else if n == 2 then Some (Some verdict.Approved, bytes)
      else if n == 3 then take_declined i bytes
      else if n == 4 then take_part_of (currency_of_event i) bytes
      else None

  -- the verdict on this event, if there is one
  unfoldable pub take_verdict : Input → List ℕ → Option (Option Verdict × List ℕ)
  take_verdict i bytes = do
    byte ← take_byte bytes
    take_verdict_by i byte.0 byte.1

  -- an event with what came of it
  unfoldable pub take_seen : List ℕ → Option (Seen × List ℕ)
  take_seen bytes = do
    number ← take_number 4 bytes
    body ← take_input take_name number.1
    verdict ← take_verdict body.0.input body.1
    mark ← take_mark verdict.1
    Some (record { number = number.0; body = body.0; verdict = verdict.0; mark = mark.0 }, mark.1)
