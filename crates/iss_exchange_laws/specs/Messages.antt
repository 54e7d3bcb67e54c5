-- What the processor sends to the gateway, as it is heard, and what the gateway's answers are to the processor.
use Rattle.std.specs.Prelude.{ℕ, ◌&&◌, ◌==◌, List, Option, Some, None, option_map, if◌then◌else◌}
use Rattle.iss_model.specs.declared.call.Opened.{Opened}
use Rattle.iss_model.specs.declared.entry.Entry.{Entry}
use Rattle.iss_model.specs.declared.entry.Entry.TheVariants as entry
use Rattle.iss_model.specs.declared.input.Input.{Input}
use Rattle.iss_model.specs.declared.input.Input.TheVariants as input
use Rattle.iss_model.specs.declared.input.Outcome.TheVariants as outcome
use Rattle.iss_model.specs.Forms.{is_limit}
use Rattle.iss_gateway.specs.declared.message.Given.{Given}
use Rattle.iss_gateway.specs.declared.message.Given.TheVariants.{Funded, Refused, Acked}
use Rattle.iss_gateway.specs.declared.message.Message.{Message}
use Rattle.iss_gateway.specs.declared.message.Message.TheVariants.{Ask, Note}
use Rattle.iss_exchange_laws.specs.declared.moves.Sent.{Sent}
use Rattle.iss_exchange_laws.specs.declared.moves.Sent.TheVariants as sent

-- what an entry sends
abbrev pub sent_by : Entry → Option Sent
sent_by (entry.Opened o) = Some (sent.Request o)
sent_by (entry.Notice n) = Some (sent.Notice n)
sent_by _ = None

-- The message that the gateway reads, if calls have these tokens. It reads none from a notice whose amount or gateway part is over what a
-- limit may be.
abbrev pub message_sent : (ℕ → List ℕ) → Sent → Option Message
message_sent token (sent.Request o) = Some (Ask (token o.call.0) o.amount o.currency o.user o.partial)
message_sent token (sent.Notice n) =
    if is_limit n.amount && is_limit n.gateway then Some (Note n.number (option_map (λ call. token call.0) n.call) n.currency n.user n.gateway) else None

-- the answer to a call that was funded this much: all of its amount, or a part
abbrev pub funded_answer : Opened → ℕ → Input
funded_answer o amount = if amount == o.amount then input.Answer o.call outcome.Funded else input.Answer o.call (outcome.Partial o.currency amount)

-- what was given for what was sent, as the processor's input
abbrev pub input_given : Sent → Given → Option Input
input_given (sent.Request o) (Funded amount) = Some (funded_answer o amount)
input_given (sent.Request o) Refused = Some (input.Answer o.call outcome.Refused)
input_given (sent.Request o) Acked = None
input_given (sent.Notice n) Acked = Some (input.Ack n.number)
input_given (sent.Notice n) _ = None
