-- What a state must be to be read again: each event's verdict and mark are those that its spelling can say.
use Rattle.std.specs.Prelude.{ℕ, Bool, true, false, ◌&&◌, List, Option, Some, None}
use Rattle.iss_model.specs.declared.call.CallState.{CallState}
use Rattle.iss_model.specs.declared.call.CallState.TheVariants as call_state
use Rattle.iss_model.specs.declared.call.Failure.TheVariants as failure
use Rattle.iss_model.specs.declared.call.How.{How}
use Rattle.iss_model.specs.declared.call.How.TheVariants as how
use Rattle.iss_model.specs.declared.currency.Currency.{Currency}
use Rattle.iss_model.specs.declared.decision.Reason.{Reason}
use Rattle.iss_model.specs.declared.decision.Reason.TheVariants as reason
use Rattle.iss_model.specs.declared.decision.Verdict.{Verdict}
use Rattle.iss_model.specs.declared.decision.Verdict.TheVariants as verdict
use Rattle.iss_model.specs.declared.input.Input.{Input}
use Rattle.iss_model.specs.declared.input.Input.TheVariants as input
use Rattle.iss_model.specs.declared.setting.Moved.TheVariants as moved
use Rattle.iss_model.specs.declared.state.Seen.{Seen}
use Rattle.iss_model.specs.Currencies.{same_currency}
use Rattle.iss_model.specs.Forms.{is_stamp}
use Rattle.iss_model.specs.texts.Spelling.{has_fields}
use Rattle.iss_image_lists.specs.Forms.{has_room}
use Rattle.iss_image.specs.TakingEvents.{currency_of_event}

-- an event moves a card
abbrev pub moves_card : Input → Bool
moves_card (input.Move token (moved.Card card to)) = true
moves_card _ = false

-- an event moves a user
abbrev pub moves_user : Input → Bool
moves_user (input.Move token (moved.User user to)) = true
moves_user _ = false

-- this is an event's currency
abbrev pub is_currency : Currency → Option Currency → Bool
is_currency currency None = false
is_currency currency (Some own) = same_currency own currency

-- how a call was closed has a number that is read
abbrev pub is_how : How → Bool
is_how how.Funded = true
is_how how.Refused = true
is_how (how.Failed failure.Connection) = true
is_how (how.Failed failure.Timeout) = true
is_how (how.Failed failure.Application) = true
is_how (how.Failed failure.Switch) = false
is_how how.Abandoned = true
is_how (how.Partial amount) = has_room 8 amount

-- a mark has a number that is read
abbrev pub is_mark : Option CallState → Bool
is_mark None = true
is_mark (Some call_state.Asked) = true
is_mark (Some (call_state.Closed how)) = is_how how
is_mark (Some call_state.Unknown) = false

-- What holds tokens, each of which passes the test `is_name`.
module _ (is_name : List ℕ → Bool) where
  -- a reason may be that of this event: a refused move is of its own kind
  abbrev pub is_reason : Input → Reason → Bool
  is_reason i (reason.MoveCard from to) = moves_card i
  is_reason i (reason.MoveUser from to) = moves_user i
  is_reason i (reason.Control name) = is_name name
  is_reason i (reason.StandInLimit name) = is_name name
  is_reason i _ = true

  -- a verdict may be that of this event: a part is in its currency
  abbrev pub is_verdict : Input → Option Verdict → Bool
  is_verdict i None = true
  is_verdict i (Some verdict.Done) = true
  is_verdict i (Some verdict.Approved) = true
  is_verdict i (Some (verdict.Declined reason)) = is_reason i reason
  is_verdict i (Some (verdict.Partial currency amount)) = is_currency currency (currency_of_event i) && has_room 8 amount

  -- an event with what came of it is read again
  abbrev pub is_seen : Seen → Bool
  is_seen e =
      has_room 4 e.number && (is_stamp e.body.at && has_fields is_name e.body.input) && is_verdict e.body.input e.verdict && is_mark e.mark
