-- What the issuer's requests and notices are as messages, and how far amounts may go.
use Rattle.std.specs.Prelude.{ℕ, Bool, option_map}
use Rattle.iss_model.specs.declared.call.Notice.{Notice}
use Rattle.iss_model.specs.declared.call.Opened.{Opened}
use Rattle.iss_model.specs.Forms.{is_limit}
use Rattle.iss_model.specs.texts.CallTokens.{call_uuid}
use Rattle.iss_gateway.specs.declared.message.Message.{Message}
use Rattle.iss_gateway.specs.declared.message.Message.TheVariants.{Ask, Note}
use Rattle.iss_gateway.specs.declared.message.Given.{Given}
use Rattle.iss_gateway.specs.declared.message.Given.TheVariants.{Funded, Refused, Acked}

-- the request of a call, as a message
abbrev pub message_asked : ℕ → Opened → Message
message_asked instance o = Ask (call_uuid instance o.call.0) o.amount o.currency o.user o.partial

-- a notice, as a message
abbrev pub message_noted : ℕ → Notice → Message
message_noted instance n = Note n.number (option_map (λ call. call_uuid instance call.0) n.call) n.currency n.user n.gateway

-- what is asked for, or what goes back to the gateway, is at most what a limit may be
abbrev pub is_within : Message → Bool
is_within (Ask token amount currency user partial) = is_limit amount
is_within (Note number token currency user gateway) = is_limit gateway

-- the HTTP status that tells what is given
abbrev pub status_of : Given → ℕ
status_of (Funded amount) = 200
status_of Refused = 402
status_of Acked = 200
