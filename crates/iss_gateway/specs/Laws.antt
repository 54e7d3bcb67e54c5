-- What holds of texts that are read, of bodies that are read, and of the reference gateway over every list of messages.
use Rattle.std.specs.Prelude.{◌≡◌, ℕ, ◌^◌, ◌<◌, Bool, not, ◌&&◌, List, [], ◌∷◌, Option, Some, None, is_some, IsTrue}
use Rattle.iss_model.specs.declared.currency.Currency.{Currency}
use Rattle.iss_model.specs.declared.call.CallId.{CallId}
use Rattle.iss_model.specs.declared.call.Method.{Method}
use Rattle.iss_model.specs.declared.call.Method.TheVariants as method
use Rattle.iss_model.specs.declared.call.Notice.{Notice}
use Rattle.iss_model.specs.declared.call.Opened.{Opened}
use Rattle.iss_model.specs.declared.input.Outcome.{Outcome}
use Rattle.iss_model.specs.declared.input.Outcome.TheVariants as outcome
use Rattle.iss_model.specs.Forms.{is_amount, is_limit, is_number}
use Rattle.iss_model.specs.Tokens.{is_token}
use Rattle.iss_model.specs.texts.GatewayTexts.{notice_text, request_text}
use Rattle.iss_jit.specs.Outcomes.{outcome_of}
use Rattle.iss_gateway.specs.declared.message.Message.{Message}
use Rattle.iss_gateway.specs.declared.message.Given.{Given}
use Rattle.iss_gateway.specs.declared.message.Given.TheVariants.{Funded, Refused}
use Rattle.iss_gateway.specs.Messages.{message_asked, message_noted, status_of}
use Rattle.iss_gateway.specs.Readings.{asks, message_read}
use Rattle.iss_gateway.specs.Bodies.{body_of}
use Rattle.iss_gateway.specs.Books.{Books, new_books, heard, given_after, total}
use Rattle.iss_gateway.specs.Rules.{Reference, new_reference, after_hearing, given_for}
use Rattle.iss_gateway.specs.Honest.{Said, IsHonest, total_said}

-- ---- texts

-- a call as the issuer opens one: its names are tokens, and its amount, number and method are of a request's
pub record IsCall (o : Opened) : Type 0 where
  pub method_asks : IsTrue (asks o.method)
  pub amount_fits : IsTrue (is_amount o.amount)
  pub number_fits : IsTrue (is_number o.call.0)
  pub card_is : IsTrue (is_token o.card)
  pub event_is : IsTrue (is_token o.event)
  pub mid_is : IsTrue (is_token o.mid)
  pub txn_is : IsTrue (is_token o.txn)
  pub user_is : IsTrue (is_token o.user)

-- the method of a notice names a call exactly if it is a void
abbrev pub names_call : Method → Option CallId → Bool
names_call method.Void call = is_some call
names_call _ call = not (is_some call)

-- a notice as the issuer makes one
pub record IsNotice (n : Notice) : Type 0 where
  pub method_notes : IsTrue (not (asks n.method))
  pub call_is : IsTrue (names_call n.method n.call)
  pub number_fits : IsTrue (is_number n.number)
  pub amount_fits : n.amount < 2 ^ 64
  pub gateway_fits : n.gateway < 2 ^ 64
  pub txn_is : IsTrue (is_token n.txn)
  pub user_is : IsTrue (is_token n.user)

-- the text of a call's request is read as its message
abbrev pub RequestIsRead : ℕ → Opened → Type 0
RequestIsRead instance o = message_read (request_text instance o) ≡ Some (message_asked instance o)

-- the text of a notice is read as its message, unless its amount or gateway part is over what a limit may be; then it is read as none
pub record NoticeIsRead (instance : ℕ) (n : Notice) : Type 0 where
  pub within : IsTrue (is_limit n.amount) → IsTrue (is_limit n.gateway) → message_read (notice_text instance n) ≡ Some (message_noted instance n)
  pub over : IsTrue (not (is_limit n.amount && is_limit n.gateway)) → message_read (notice_text instance n) ≡ None

-- ---- bodies

-- what the gateway gives for the request of a call, told to the issuer, is this outcome
abbrev pub IsTold : ℕ → Opened → Given → Outcome → Type 0
IsTold instance o given said = outcome_of instance o (status_of given) (body_of (message_asked instance o) given) ≡ said

-- What is given reaches the issuer as it is: the call's amount funds it, a smaller one a part of it where that is permitted, and a refusal
-- refuses it.
pub record IsToldAsGiven (instance : ℕ) (o : Opened) : Type 0 where
  pub funded : IsTrue (is_amount o.amount) → IsTold instance o (Funded o.amount) outcome.Funded
  pub part : (amount : ℕ) → IsTrue (is_amount amount) → amount < o.amount → IsTrue o.partial
      → IsTold instance o (Funded amount) (outcome.Partial o.currency amount)
  pub refused : IsTold instance o Refused outcome.Refused

-- ---- lists of messages, the last first

-- a message, and how much a gateway would fund for it
pub record Wished : Type 0 where
  pub wish : ℕ
  pub message : Message

-- the books of a gateway that would fund so much for each of these messages
abbrev pub books_at : List Wished → Books
books_at [] = new_books
books_at (x ∷ before) = heard x.wish (books_at before) x.message

-- what it heard and gave
abbrev pub said_at : List Wished → List Said
said_at [] = []
said_at (x ∷ before) = record { message = x.message; given = given_after (books_at (x ∷ before)) x.message } ∷ said_at before

-- Over these messages it gave all rightly, and its total is that of an honest gateway.
pub record IsHonestAt (messages : List Wished) : Type 0 where
  pub honest : IsHonest (said_at messages)
  pub total_is : (c : Currency) → total (books_at messages) c ≡ total_said c (said_at messages)

-- the reference gateway after these messages
abbrev pub reference_after : ℕ → ℕ → List Message → Reference
reference_after most limit [] = new_reference most limit
reference_after most limit (m ∷ before) = after_hearing (reference_after most limit before) m

-- what it heard and gave
abbrev pub said_over : ℕ → ℕ → List Message → List Said
said_over most limit [] = []
said_over most limit (m ∷ before) =
    record { message = m; given = given_for (reference_after most limit before) m } ∷ said_over most limit before

-- Over these messages the reference gateway gave all rightly, and its total is that of an honest gateway.
pub record IsHonestOver (most limit : ℕ) (messages : List Message) : Type 0 where
  pub honest : IsHonest (said_over most limit messages)
  pub total_is : (c : Currency) → total (reference_after most limit messages).books c ≡ total_said c (said_over most limit messages)
