-- What is read from a text that was written.
use Rattle.std.proofs.Common.{◌≡◌, ℕ, List, ap, ◌∙◌}
use Rattle.std.specs.Prelude.{Result, Ok, Err, Option, IfOk}
use Rattle.iss_model.specs.declared.call.Notice.{Notice}
use Rattle.iss_model.specs.declared.call.Opened.{Opened}
use Rattle.iss_model.specs.texts.CallTokens.{call_uuid}
use Rattle.iss_model.specs.texts.GatewayTexts.{notice_text, request_text}
use Rattle.iss_gateway.specs.declared.message.Message.{Message}
use Rattle.iss_gateway.specs.Readings.{message_read}
use Rattle.iss_exchange_laws.specs.declared.moves.Sent.TheVariants as sent
use Rattle.iss_exchange_laws.specs.Messages.{message_sent}
use Rattle.iss_delivery.specs.Delivering.{IsAsking, IsTelling, IsTypedCall, IsTypedNotice}
use Rattle.iss_delivery.proofs.ReadAsSent.{is_read}

-- what is read from a text is what is read from one that is equal
pub read_equal : {E : Type 0} (text other : List ℕ) (result : Result (Option Message) E) → text ≡ other → IfOk result (λ read. read ≡ message_read text) → IfOk result (λ read. read ≡ message_read other)
read_equal text other (Ok read) e h = h ∙ ap message_read e
read_equal text other (Err why) e h = tt

pub request_heard : {E : Type 0} (instance : ℕ) (o : Opened) (text : List ℕ) (result : Result (Option Message) E) → IsAsking o → IsTypedCall o → text ≡ request_text instance o
    → IfOk result (λ read. read ≡ message_read text) → IfOk result (λ read. read ≡ message_sent (call_uuid instance) (sent.Request o))
request_heard instance o text (Ok read) asking typed e h = h ∙ ap message_read e ∙ is_read instance (sent.Request o) asking typed
request_heard instance o text (Err why) asking typed e h = tt

pub notice_heard : {E : Type 0} (instance : ℕ) (n : Notice) (text : List ℕ) (result : Result (Option Message) E) → IsTelling n → IsTypedNotice n → text ≡ notice_text instance n
    → IfOk result (λ read. read ≡ message_read text) → IfOk result (λ read. read ≡ message_sent (call_uuid instance) (sent.Notice n))
notice_heard instance n text (Ok read) telling typed e h = h ∙ ap message_read e ∙ is_read instance (sent.Notice n) telling typed
notice_heard instance n text (Err why) telling typed e h = tt
