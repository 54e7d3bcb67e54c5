-- What is sent, as a text, and what makes its text be read as its message.
use Rattle.std.specs.Prelude.{◌≡◌, ℕ, ◌^◌, ◌<◌, not, nat_le, List, [], ◌∷◌, IsTrue}
use Rattle.iss_model.specs.declared.call.Notice.{Notice}
use Rattle.iss_model.specs.declared.call.Opened.{Opened}
use Rattle.iss_model.specs.Forms.{is_amount}
use Rattle.iss_model.specs.Tokens.{is_token}
use Rattle.iss_model.specs.texts.CallTokens.{call_uuid}
use Rattle.iss_model.specs.texts.GatewayTexts.{notice_text, request_text}
use Rattle.iss_gateway.specs.Laws.{names_call}
use Rattle.iss_gateway.specs.Readings.{asks, message_read}
use Rattle.iss_exchange_laws.specs.declared.moves.Sent.{Sent}
use Rattle.iss_exchange_laws.specs.declared.moves.Sent.TheVariants as sent
use Rattle.iss_exchange_laws.specs.Messages.{message_sent}

-- the text of what is sent
abbrev pub text_sent : ℕ → Sent → List ℕ
text_sent instance (sent.Request o) = request_text instance o
text_sent instance (sent.Notice n) = notice_text instance n

-- ---- what records make so

-- a call asks for an amount by the method of a request, and is numbered from 1
pub record IsAsking (o : Opened) : Type 0 where
  pub method_asks : IsTrue (asks o.method)
  pub amount_fits : IsTrue (is_amount o.amount)
  pub numbered : IsTrue (nat_le 1 o.call.0)

-- a notice has no method of a request, names a call exactly if it is a void, and is numbered from 1
pub record IsTelling (n : Notice) : Type 0 where
  pub method_notes : IsTrue (not (asks n.method))
  pub call_is : IsTrue (names_call n.method n.call)
  pub numbered : IsTrue (nat_le 1 n.number)

-- what is sent is a call that asks, or a notice that tells
abbrev pub IsSendable : Sent → Type 0
IsSendable (sent.Request o) = IsAsking o
IsSendable (sent.Notice n) = IsTelling n

-- all of it is
abbrev pub AllAreSendable : List Sent → Type 0
AllAreSendable [] = Unit {0}
AllAreSendable (what ∷ whats) = IsSendable what × AllAreSendable whats

-- ---- what types make so

-- a call's number fits, and its names are tokens
pub record IsTypedCall (o : Opened) : Type 0 where
  pub number_fits : o.call.0 < 2 ^ 32
  pub card_is : IsTrue (is_token o.card)
  pub event_is : IsTrue (is_token o.event)
  pub mid_is : IsTrue (is_token o.mid)
  pub txn_is : IsTrue (is_token o.txn)
  pub user_is : IsTrue (is_token o.user)

-- a notice's number and amounts fit, and its names are tokens
pub record IsTypedNotice (n : Notice) : Type 0 where
  pub number_fits : n.number < 2 ^ 32
  pub amount_fits : n.amount < 2 ^ 64
  pub gateway_fits : n.gateway < 2 ^ 64
  pub txn_is : IsTrue (is_token n.txn)
  pub user_is : IsTrue (is_token n.user)

-- what is sent has names that are tokens, and numbers that fit
abbrev pub IsTyped : Sent → Type 0
IsTyped (sent.Request o) = IsTypedCall o
IsTyped (sent.Notice n) = IsTypedNotice n

-- ---- what follows

-- the text of what is sent is read as its message, if it is as its types say
abbrev pub IsRead : ℕ → Sent → Type 0
IsRead instance what = IsTyped what → message_read (text_sent instance what) ≡ message_sent (call_uuid instance) what

-- all of it is
abbrev pub AllAreRead : ℕ → List Sent → Type 0
AllAreRead instance [] = Unit {0}
AllAreRead instance (what ∷ whats) = IsRead instance what × AllAreRead instance whats
