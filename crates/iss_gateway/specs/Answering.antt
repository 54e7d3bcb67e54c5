-- What the gateway answers to a body, by what it heard before.
use Rattle.std.specs.Prelude.{ℕ, List, Option, Some, None}
use Rattle.iss_gateway.specs.declared.answering.TheConstants.{BAD_REQUEST}
use Rattle.iss_gateway.specs.declared.message.Message.{Message}
use Rattle.iss_gateway.specs.Messages.{status_of}
use Rattle.iss_gateway.specs.Readings.{message_read}
use Rattle.iss_gateway.specs.Bodies.{body_of, unread_line}
use Rattle.iss_gateway.specs.Rules.{Reference, after_hearing, given_for}

-- what the gateway comes to by a message, or by a body that is none
abbrev pub after_message : Reference → Option Message → Reference
after_message r None = r
after_message r (Some m) = after_hearing r m

-- the status that tells what the gateway gives for a message, or that a body is none
abbrev pub message_status : Reference → Option Message → ℕ
message_status r None = BAD_REQUEST
message_status r (Some m) = status_of (given_for r m)

-- the body that tells what the gateway gives for a message, or that a body is none
abbrev pub message_body : Reference → Option Message → List ℕ
message_body r None = unread_line
message_body r (Some m) = body_of m (given_for r m)

-- what the gateway comes to by a body
abbrev pub after_body : Reference → List ℕ → Reference
after_body r text = after_message r (message_read text)

-- the status and the body of its answer
abbrev pub status_for : Reference → List ℕ → ℕ
status_for r text = message_status r (message_read text)

abbrev pub body_for : Reference → List ℕ → List ℕ
body_for r text = message_body r (message_read text)
