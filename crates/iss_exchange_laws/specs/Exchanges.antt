-- The processor and the gateway together. Messages are lost, repeated and overtaken, and the processor crashes.
use Rattle.std.specs.Prelude.{ℕ, ◌+◌, ◌-◌, Bool, true, false, ◌&&◌, ◌==◌, nat_le, nat_lt, List, [], ◌∷◌, ◌++◌, length, take, slice_get, Option, Some, None, option_to_list, if◌then◌else◌}
use Rattle.std.specs.List.{filter_map}
use Rattle.iss_model.specs.declared.input.Input.{Input}
use Rattle.iss_model.specs.declared.input.Input.TheVariants as input
use Rattle.iss_model.specs.declared.input.Outcome.TheVariants as outcome
use Rattle.iss_model.specs.declared.input.Record.{Record}
use Rattle.iss_model.specs.declared.limits.TheConstants.{MOST_RECORDS}
use Rattle.iss_model.specs.Forms.{is_in_form, is_stamp}
use Rattle.iss_model.specs.rules.Histories.{history_keeper, history_of}
use Rattle.iss_model.specs.rules.Judging.{judge}
use Rattle.iss_model.specs.rules.Stepping.{step}
use Rattle.iss_model.specs.run.Rooms.{record_made}
use Rattle.iss_gateway.specs.declared.message.Given.{Given}
use Rattle.iss_gateway.specs.declared.message.Message.{Message}
use Rattle.iss_gateway.specs.Books.{Books, new_books}
use Rattle.iss_exchange_laws.specs.declared.moves.Sent.{Sent}
use Rattle.iss_exchange_laws.specs.Messages.{input_given, sent_by}

-- what the gateway gave for what was sent
pub record Answered : Type 0 where
  pub what : Sent
  pub given : Given

-- The processor's records, of which the first ones were released. Then what was sent, what the gateway gave, and the messages that it heard,
-- each in order, and the gateway's books.
pub record Exchange : Type 0 where
  pub records : List Record
  pub released : ℕ
  pub sent : List Sent
  pub given : List Answered
  pub heard : List Message
  pub books : Books

-- nothing has happened
abbrev pub new_exchange : Exchange
new_exchange = record { records = []; released = 0; sent = []; given = []; heard = []; books = new_books }

-- an input that only the gateway's word makes: that it funded a call, a part of one or none, or acted on a notice
abbrev pub is_gateways : Input → Bool
is_gateways (input.Answer call outcome.Funded) = true
is_gateways (input.Answer call (outcome.Partial currency amount)) = true
is_gateways (input.Answer call outcome.Refused) = true
is_gateways (input.Answer call outcome.Connection) = false
is_gateways (input.Answer call outcome.Application) = false
is_gateways (input.Ack notice) = true
is_gateways _ = false

-- the records after an input has come at a stamp, with the record that it makes if it makes one
abbrev pub records_after : List Record → Input → ℕ → List Record
records_after rs i at = rs ++ option_to_list (record_made (judge history_keeper (history_of rs) i at))

-- an input may come: its fields and its stamp are of their forms, and there is a number left for its record
abbrev pub may_come : List Record → Input → ℕ → Bool
may_come rs i at = is_in_form i && is_stamp at && nat_lt (length rs) MOST_RECORDS

-- an input comes to the processor, if it may
abbrev pub with_input : Exchange → Input → ℕ → Exchange
with_input x i at = if may_come x.records i at then record x { records = records_after x.records i at } else x

-- an input comes, if there is one
abbrev pub with_input_of : Exchange → Option Input → ℕ → Exchange
with_input_of x None at = x
with_input_of x (Some i) at = with_input x i at

-- what a record sends, after these
abbrev pub sent_after : List Record → Record → List Sent
sent_after rs r = filter_map sent_by (step history_keeper (history_of rs) r).entries

-- a record is released, if there is one
abbrev pub with_release : Exchange → Option Record → Exchange
with_release x None = x
with_release x (Some r) = record x { released = x.released + 1; sent = x.sent ++ sent_after (take x.released x.records) r }

-- the processor crashes, and this many records are left, unless a released one would go
abbrev pub with_crash : Exchange → ℕ → Exchange
with_crash x kept = if nat_le x.released kept then record x { records = take kept x.records } else x

-- the gateway has heard what was sent, gives this for it, and has these books then
abbrev pub with_heard : Exchange → Sent → Message → Given → Books → Exchange
with_heard x what m given books = record x { given = x.given ++ record { what = what; given = given } ∷ []; heard = x.heard ++ m ∷ []; books = books }

-- what was given reaches the processor, if it was
abbrev pub with_answer : Exchange → Option Answered → ℕ → Exchange
with_answer x None at = x
with_answer x (Some a) at = with_input_of x (input_given a.what a.given) at

-- the element at a place, from 1
abbrev pub at_place : {A : Type 0} → ℕ → List A → Option A
at_place i xs = if i == 0 then None else slice_get xs (i - 1)
