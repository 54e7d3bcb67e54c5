use Rattle.iss_model.specs.texts.CallTokens.{call_uuid}
use Rattle.iss_exchange_laws.specs.Exchanges.{new_exchange}
use Rattle.iss_exchange_laws.proofs.Led.{all_sound, nothing_sound}
use Rattle.iss_delivery.proofs.ReadAsSent.{all_read}
use Rattle.iss_delivery.proofs.Sendable.{sound_sendable}
use Rattle.iss_delivery.proofs.laws.what_is_sent_is_read.Goals as goal

pub returns-clause-sendable : goal.returns-clause-sendable
returns-clause-sendable c = λ instance ms x led. sound_sendable (call_uuid instance) x (all_sound (call_uuid instance) ms new_exchange x led (nothing_sound (call_uuid instance)))

pub returns-clause-read : goal.returns-clause-read
returns-clause-read c = λ instance ms x led.
    all_read instance x.sent (sound_sendable (call_uuid instance) x (all_sound (call_uuid instance) ms new_exchange x led (nothing_sound (call_uuid instance))))
