-- Lines of money and answers whose members stand in their usual order.
use Rattle.std.specs.Prelude.{◌≡◌, ℕ, ◌&&◌, nat_le, nat_lt, Bool, true, false, codes, List, length, Option, Some, None, option_map, option_and_then, Result, Ok, Err}
use Rattle.std.specs.Option.{ok_or, unwrap_or}
use Rattle.std.specs.Str.{IsAscii}
use Rattle.json.specs.Json.{boolean, number, string, Members, no_members, member}
use Rattle.iss_model.specs.declared.limits.TheConstants.{FIRST_NUMBER, GREATEST_NUMBER, LAST_STAMP, LONGEST_LINE}
use Rattle.iss_model.specs.Amounts.{if_form}
use Rattle.iss_model.specs.declared.currency.Currency.{Currency}
use Rattle.iss_model.specs.declared.input.Input.{Input}
use Rattle.iss_model.specs.declared.input.Input.TheVariants as input
use Rattle.iss_model.specs.declared.input.Outcome.{Outcome}
use Rattle.iss_model.specs.declared.input.Outcome.TheVariants as outcome
use Rattle.iss_field.specs.declared.name.Name.{Name}
use Rattle.iss_field.specs.declared.name.Name.TheVariants as name
use Rattle.iss_field.specs.declared.members.Whole.{Whole}
use Rattle.iss_field.specs.Fields.{◌>>=◌}
use Rattle.iss_field.specs.Names.{name_text}
use Rattle.iss_field.specs.PlainObjects.{member_text}
use Rattle.iss_field.specs.Texts.{token_known, currency_known, amount_known, mcc_known}
use Rattle.iss_event.specs.declared.kind.Kind.{Kind}
use Rattle.iss_event.specs.declared.kind.Kind.TheVariants as kind
use Rattle.iss_event.specs.declared.line.Mode.{Mode}
use Rattle.iss_event.specs.declared.line.Mode.TheVariants.{Lines, Client}
use Rattle.iss_event.specs.declared.line.Line.{Line}
use Rattle.iss_event.specs.declared.plain.Purchase.{Purchase}
use Rattle.iss_event.specs.declared.plain.Load.{Load}
use Rattle.iss_event.specs.declared.plain.OperationTexts.{OperationTexts}
use Rattle.iss_event.specs.declared.plain.OperationKind.{OperationKind}
use Rattle.iss_event.specs.declared.plain.OperationKind.TheVariants as operation
use Rattle.iss_event.specs.Readings.{as_fault, line_read}

-- the text that names a kind
abbrev pub kind_text : Kind → List ℕ
kind_text kind.User = codes "user"
kind_text kind.Card = codes "card"
kind_text kind.Move = codes "move"
kind_text kind.Product = codes "product"
kind_text kind.Group = codes "group"
kind_text kind.Control = codes "control"
kind_text kind.Set = codes "set"
kind_text kind.Switch = codes "switch"
kind_text kind.Load = codes "load"
kind_text kind.Authorization = codes "authorization"
kind_text kind.Increment = codes "increment"
kind_text kind.Reversal = codes "reversal"
kind_text kind.Clearing = codes "clearing"
kind_text kind.Refund = codes "refund"
kind_text kind.Answer = codes "answer"
kind_text kind.Ack = codes "ack"
kind_text kind.Time = codes "time"

-- a line of ASCII, and of no more bytes than a line may have, that is of this kind and goes on so after its type spells this
abbrev pub SaysAfter : Mode → Kind → List ℕ → Result Line Name → Type 0
SaysAfter mode k rest said =
    (line : List ℕ) → IsAscii line → nat_lt LONGEST_LINE (length line) ≡ false → line ≡ member_text 123 (name_text name.Kind) (string (kind_text k)) rest
    → line_read mode line ≡ as_fault said

-- a stamp and an input make a line, or the first of them that is bad is its fault
abbrev pub line_with : Result (Option ℕ) Name → Result Input Name → Result Line Name
line_with at said = do
  at ← at
  said ← said
  Ok (record { input = said; at = at })

-- ---- the stamp

-- the member of the stamp, if there is one
abbrev pub stamp_members : Option Whole → Members
stamp_members None = no_members
stamp_members (Some at) = member (name_text name.At) (number at.digits.now) no_members

-- when it happened; a client's stamp counts for nothing
abbrev pub stamp_known : Mode → Option Whole → Result (Option ℕ) Name
stamp_known Client at = Ok None
stamp_known Lines None = Ok None
stamp_known Lines (Some at) = ok_or (option_map Some (if_form (λ n. nat_le 0 n && nat_le n LAST_STAMP) at.value)) name.At

-- ---- a purchase

-- the members of a purchase, and those after them
abbrev pub purchase_members : Purchase → Members → Members
purchase_members p ms =
    member (name_text name.Token) (string p.token.now) (member (name_text name.Card) (string p.card.now) (member (name_text name.Currency) (string p.currency.now)
    (member (name_text name.Amount) (string p.amount.now) (member (name_text name.Mcc) (string p.mcc.now) (member (name_text name.Mid) (string p.mid.now) ms)))))

-- how they are spelled, each after a comma, before what follows them
abbrev pub purchase_text : Purchase → List ℕ → List ℕ
purchase_text p rest =
    member_text 44 (name_text name.Token) (string p.token.now) (member_text 44 (name_text name.Card) (string p.card.now) (member_text 44 (name_text name.Currency) (string p.currency.now)
    (member_text 44 (name_text name.Amount) (string p.amount.now) (member_text 44 (name_text name.Mcc) (string p.mcc.now) (member_text 44 (name_text name.Mid) (string p.mid.now) rest)))))

-- a merchant asks for an amount, and no part of it will do
unfoldable pub purchase_known : Purchase → Result Input Name
purchase_known p = do
  token ← token_known name.Token p.token.now
  card ← token_known name.Card p.card.now
  currency ← currency_known p.currency.now
  amount ← amount_known currency p.amount.now
  mcc ← mcc_known p.mcc.now
  mid ← token_known name.Mid p.mid.now
  Ok (input.Authorization token card currency amount mcc mid false)

-- ---- a load

-- the members of a load, and those after them
abbrev pub load_members : Load → Members → Members
load_members l ms =
    member (name_text name.Token) (string l.token.now) (member (name_text name.User) (string l.user.now) (member (name_text name.Currency) (string l.currency.now)
    (member (name_text name.Amount) (string l.amount.now) ms)))

-- how they are spelled, each after a comma, before what follows them
abbrev pub load_text : Load → List ℕ → List ℕ
load_text l rest =
    member_text 44 (name_text name.Token) (string l.token.now) (member_text 44 (name_text name.User) (string l.user.now) (member_text 44 (name_text name.Currency) (string l.currency.now)
    (member_text 44 (name_text name.Amount) (string l.amount.now) rest)))

-- the programme gives a user an amount
unfoldable pub load_known : Load → Result Input Name
load_known l = do
  token ← token_known name.Token l.token.now
  user ← token_known name.User l.user.now
  currency ← currency_known l.currency.now
  amount ← amount_known currency l.amount.now
  Ok (input.Load token user currency amount)

-- ---- an operation on a transaction

abbrev pub kind_of_operation : OperationKind → Kind
kind_of_operation operation.Increment = kind.Increment
kind_of_operation operation.Reversal = kind.Reversal
kind_of_operation operation.Clearing = kind.Clearing
kind_of_operation operation.Refund = kind.Refund

-- the member that says whether it is the last, if there is one, and those after it
abbrev pub last_members : Option Bool → Members → Members
last_members None ms = ms
last_members (Some last) ms = member (name_text name.Last) (boolean last) ms

abbrev pub last_text : Option Bool → List ℕ → List ℕ
last_text None rest = rest
last_text (Some last) rest = member_text 44 (name_text name.Last) (boolean last) rest

-- the members of an operation, and those after them
abbrev pub operation_members : OperationTexts → Members → Members
operation_members o ms =
    member (name_text name.Token) (string o.token.now) (member (name_text name.Txn) (string o.txn.now) (member (name_text name.Currency) (string o.currency.now)
    (member (name_text name.Amount) (string o.amount.now) (last_members o.last ms))))

-- how they are spelled, each after a comma, before what follows them
abbrev pub operation_text : OperationTexts → List ℕ → List ℕ
operation_text o rest =
    member_text 44 (name_text name.Token) (string o.token.now) (member_text 44 (name_text name.Txn) (string o.txn.now) (member_text 44 (name_text name.Currency) (string o.currency.now)
    (member_text 44 (name_text name.Amount) (string o.amount.now) (last_text o.last rest))))

-- the input of an operation of this kind
abbrev pub operation_as : OperationKind → List ℕ → List ℕ → Currency → ℕ → Option Bool → Input
operation_as operation.Increment token txn currency amount last = input.Increment token txn currency amount
operation_as operation.Reversal token txn currency amount last = input.Reversal token txn currency amount
operation_as operation.Clearing token txn currency amount last = input.Clearing token txn currency amount (unwrap_or last false)
operation_as operation.Refund token txn currency amount last = input.Refund token txn currency amount

-- a merchant does something with a transaction
unfoldable pub operation_known : OperationKind → OperationTexts → Result Input Name
operation_known k o = do
  token ← token_known name.Token o.token.now
  txn ← token_known name.Txn o.txn.now
  currency ← currency_known o.currency.now
  amount ← amount_known currency o.amount.now
  Ok (operation_as k token txn currency amount o.last)

-- ---- an answer

-- the text names the outcome, which is one of the three that come most often
abbrev pub IsOutcomeText : Outcome → List ℕ → Type 0
IsOutcomeText outcome.Funded text = codes "FUNDED" ≡ text
IsOutcomeText outcome.Refused text = codes "REFUSED" ≡ text
IsOutcomeText outcome.Connection text = codes "CONNECTION" ≡ text
IsOutcomeText outcome.Application text = ⊥
IsOutcomeText (outcome.Partial currency amount) text = ⊥

-- the members of an answer, and those after them
abbrev pub answer_members : Whole → List ℕ → Members → Members
answer_members call text ms = member (name_text name.Call) (number call.digits.now) (member (name_text name.Outcome) (string text) ms)

-- the number of a call
abbrev pub call_known : ℕ → Result ℕ Name
call_known n = ok_or (if_form (λ m. nat_le FIRST_NUMBER m && nat_le m GREATEST_NUMBER) n) name.Call

-- the gateway answered a call
abbrev pub answer_known : ℕ → Outcome → Result Input Name
answer_known n said = do
  call ← call_known n
  Ok (input.Answer (record { 0 = call }) said)
