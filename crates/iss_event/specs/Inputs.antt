-- The fields of each type of line, in order: the first bad one is the fault.
use Rattle.std.specs.Prelude.{ℕ, pos, Bool, true, false, ◌&&◌, codes, List, Option, Some, None, is_some, is_none, Result, Ok, Err}
use Rattle.serde_json.specs.Data.{Data}
use Rattle.serde_json.specs.Find.{as_bool}
use Rattle.iss_model.specs.declared.limits.TheConstants.{DEFAULT_TIMEOUT, DEFAULT_HOLD, SHORTEST_TIMEOUT, LONGEST_TIMEOUT, SHORTEST_HOLD, LONGEST_HOLD, GREATEST_USAGE, FIRST_NUMBER, GREATEST_NUMBER}
use Rattle.iss_model.specs.declared.currency.Currency.{Currency}
use Rattle.iss_model.specs.declared.input.Outcome.{Outcome}
use Rattle.iss_model.specs.declared.input.Outcome.TheVariants as outcome
use Rattle.iss_model.specs.declared.input.Input.{Input}
use Rattle.iss_model.specs.declared.input.Input.TheVariants as input
use Rattle.iss_model.specs.declared.setting.Moved.{Moved}
use Rattle.iss_model.specs.declared.setting.Moved.TheVariants as moved
use Rattle.iss_model.specs.declared.setting.Window.{Window}
use Rattle.iss_model.specs.declared.setting.Window.TheVariants as window
use Rattle.iss_model.specs.declared.setting.Association.{Association}
use Rattle.iss_model.specs.declared.setting.Association.TheVariants as association
use Rattle.iss_model.specs.declared.setting.Scope.{Scope}
use Rattle.iss_model.specs.declared.setting.Scope.TheVariants as scope
use Rattle.iss_field.specs.declared.name.Name.{Name}
use Rattle.iss_field.specs.declared.name.Name.TheVariants as name
use Rattle.iss_field.specs.declared.words.OutcomeWord.{OutcomeWord}
use Rattle.iss_field.specs.declared.words.OutcomeWord.TheVariants as word
use Rattle.iss_field.specs.Fields.{◌>>=◌, field, form_if, required_field, required_field_unless, optional_field, optional_field_or}
use Rattle.iss_field.specs.Values.{token_of, currency_value, amount_of, limit_of, whole_within, mcc_of, mccs_of, funding_of, window_of, offset_of, outcome_of, card_state_of, user_state_of}
use Rattle.iss_event.specs.declared.kind.Kind.{Kind}
use Rattle.iss_event.specs.declared.kind.Kind.TheVariants as kind
use Rattle.iss_event.specs.declared.payments.Operation.{Operation}

-- ---- settings

-- a user is made
unfoldable pub user_input : Data → Result Input Name
user_input d = do
  token ← required_field token_of name.Token d
  user ← required_field token_of name.User d
  Ok (input.User token user)

-- a card is made, of the product `default` and active unless the line says otherwise
unfoldable pub card_input : Data → Result Input Name
card_input d = do
  token ← required_field token_of name.Token d
  card ← required_field token_of name.Card d
  user ← required_field token_of name.User d
  product ← optional_field_or token_of (codes "default") name.Product d
  active ← optional_field_or as_bool true name.Active d
  Ok (input.Card token card user product active)

-- this card goes to a state of cards
unfoldable pub card_move : List ℕ → Data → Result Moved Name
card_move card d = do
  to ← required_field card_state_of name.To d
  Ok (moved.Card card to)

-- the user that the line names goes to a state of users
unfoldable pub user_move : Data → Result Moved Name
user_move d = do
  user ← required_field token_of name.User d
  to ← required_field user_state_of name.To d
  Ok (moved.User user to)

-- what is moved where: the card, if the line names one, else the user, and never both
abbrev pub whose_move : Option (List ℕ) → Bool → Data → Result Moved Name
whose_move (Some card) true d = Err name.User
whose_move (Some card) false d = card_move card d
whose_move None true d = user_move d
whose_move None false d = Err name.Card

-- a card or a user changes its state
unfoldable pub move_input : Data → Result Input Name
move_input d = do
  token ← required_field token_of name.Token d
  card ← optional_field token_of name.Card d
  who ← whose_move card (is_some (field name.User d)) d
  Ok (input.Move token who)

-- a product is made, with three seconds for an answer and seven days for a hold unless the line says otherwise
unfoldable pub product_input : Data → Result Input Name
product_input d = do
  token ← required_field token_of name.Token d
  product ← required_field token_of name.Product d
  currency ← required_field currency_value name.Currency d
  funding ← required_field funding_of name.Funding d
  timeout_ms ← optional_field_or (whole_within SHORTEST_TIMEOUT LONGEST_TIMEOUT) DEFAULT_TIMEOUT name.TimeoutMs d
  hold_ms ← optional_field_or (whole_within SHORTEST_HOLD LONGEST_HOLD) DEFAULT_HOLD name.HoldMs d
  Ok (input.Product token product currency funding timeout_ms hold_ms)

-- a group of codes is made
unfoldable pub group_input : Data → Result Input Name
group_input d = do
  token ← required_field token_of name.Token d
  group ← required_field token_of name.Group d
  mccs ← required_field mccs_of name.Mccs d
  Ok (input.Group token group mccs)

-- a control of single transactions counts no purchases
abbrev pub counts_purchases : Window → Bool
counts_purchases window.Transaction = false
counts_purchases window.Day = true
counts_purchases window.Week = true
counts_purchases window.Month = true
counts_purchases window.Lifetime = true

-- how much a control lets through, and how often: at least one of them
unfoldable pub limits_said : Currency → Window → Data → Result (Option ℕ × Option ℕ) Name
limits_said currency window d = do
  amount_limit ← required_field_unless (is_some (field name.UsageLimit d)) (limit_of currency) name.AmountLimit d
  usage_limit ← optional_field (form_if (counts_purchases window) (whole_within 0 GREATEST_USAGE)) name.UsageLimit d
  Ok (amount_limit, usage_limit)

-- a user, or a product, or anybody
abbrev pub association_named : Option (List ℕ) → Option (List ℕ) → Association
association_named (Some user) product = association.User user
association_named None (Some product) = association.Product product
association_named None None = association.Anybody

-- whose purchases a control counts: a line that names a user names no product
unfoldable pub association_said : Data → Result Association Name
association_said d = do
  user ← optional_field token_of name.User d
  product ← optional_field (form_if (is_none user) token_of) name.Product d
  Ok (association_named user product)

-- a code, or a group, or a merchant, or all
abbrev pub scope_named : Option ℕ → Option (List ℕ) → Option (List ℕ) → Scope
scope_named (Some mcc) group mid = scope.Mcc mcc
scope_named None (Some group) mid = scope.Group group
scope_named None None (Some mid) = scope.Mid mid
scope_named None None None = scope.All

-- where a control counts: a line names at most one scope
unfoldable pub scope_said : Data → Result Scope Name
scope_said d = do
  mcc ← optional_field mcc_of name.Mcc d
  group ← optional_field (form_if (is_none mcc) token_of) name.Group d
  mid ← optional_field (form_if (is_none mcc && is_none group) token_of) name.Mid d
  Ok (scope_named mcc group mid)

-- a control is made, or changes its limits; it is in UTC, and active, unless the line says otherwise
unfoldable pub control_input : Data → Result Input Name
control_input d = do
  token ← required_field token_of name.Token d
  control ← required_field token_of name.Control d
  currency ← required_field currency_value name.Currency d
  window ← required_field window_of name.Window d
  limits ← limits_said currency window d
  association ← association_said d
  scope ← scope_said d
  offset ← optional_field_or offset_of (pos 0) name.UtcOffset d
  active ← optional_field_or as_bool true name.Active d
  Ok (input.Control token control currency window limits.0 limits.1 association scope offset active)

-- a Commando Mode set is made, or changed; it covers nothing, and is active, unless the line says otherwise
unfoldable pub set_input : Data → Result Input Name
set_input d = do
  token ← required_field token_of name.Token d
  set ← required_field token_of name.Set d
  product ← required_field token_of name.Product d
  currency ← required_field currency_value name.Currency d
  connection ← optional_field_or as_bool false name.Connection d
  timeout ← optional_field_or as_bool false name.Timeout d
  application ← optional_field_or as_bool false name.Application d
  max ← required_field (limit_of currency) name.Max d
  day_limit ← required_field (limit_of currency) name.DayLimit d
  active ← optional_field_or as_bool true name.Active d
  Ok (input.Set token set product currency connection timeout application max day_limit active)

-- Commando Mode is turned on or off by hand
unfoldable pub switch_input : Data → Result Input Name
switch_input d = do
  token ← required_field token_of name.Token d
  product ← required_field token_of name.Product d
  on ← required_field as_bool name.On d
  Ok (input.Switch token product on)

-- ---- money

-- a user's money comes in
unfoldable pub load_input : Data → Result Input Name
load_input d = do
  token ← required_field token_of name.Token d
  user ← required_field token_of name.User d
  currency ← required_field currency_value name.Currency d
  amount ← required_field (amount_of currency) name.Amount d
  Ok (input.Load token user currency amount)

-- a merchant asks whether a card may pay; a part won't do unless the line says so
unfoldable pub authorization_input : Data → Result Input Name
authorization_input d = do
  token ← required_field token_of name.Token d
  card ← required_field token_of name.Card d
  currency ← required_field currency_value name.Currency d
  amount ← required_field (amount_of currency) name.Amount d
  mcc ← required_field mcc_of name.Mcc d
  mid ← required_field token_of name.Mid d
  partial ← optional_field_or as_bool false name.Partial d
  Ok (input.Authorization token card currency amount mcc mid partial)

-- what every operation on a transaction has
unfoldable pub operation_said : Data → Result Operation Name
operation_said d = do
  token ← required_field token_of name.Token d
  txn ← required_field token_of name.Txn d
  currency ← required_field currency_value name.Currency d
  amount ← required_field (amount_of currency) name.Amount d
  Ok (record { token = token; txn = txn; currency = currency; amount = amount })

-- a merchant asks for more
unfoldable pub increment_input : Data → Result Input Name
increment_input d = do
  o ← operation_said d
  Ok (input.Increment o.token o.txn o.currency o.amount)

-- a merchant lets go of what it asked for
unfoldable pub reversal_input : Data → Result Input Name
reversal_input d = do
  o ← operation_said d
  Ok (input.Reversal o.token o.txn o.currency o.amount)

-- a merchant collects; further clearings may come unless the line says that this is the last
unfoldable pub clearing_input : Data → Result Input Name
clearing_input d = do
  o ← operation_said d
  last ← optional_field_or as_bool false name.Last d
  Ok (input.Clearing o.token o.txn o.currency o.amount last)

-- a merchant refunds an amount
unfoldable pub refund_input : Data → Result Input Name
refund_input d = do
  o ← operation_said d
  Ok (input.Refund o.token o.txn o.currency o.amount)

-- ---- the gateway

-- a part of a call's amount
unfoldable pub part_said : Data → Result Outcome Name
part_said d = do
  currency ← required_field currency_value name.Currency d
  amount ← required_field (amount_of currency) name.Amount d
  Ok (outcome.Partial currency amount)

-- the outcome of this word; only a part has a currency and an amount
abbrev pub outcome_said : OutcomeWord → Data → Result Outcome Name
outcome_said word.Funded d = Ok outcome.Funded
outcome_said word.Refused d = Ok outcome.Refused
outcome_said word.Connection d = Ok outcome.Connection
outcome_said word.Application d = Ok outcome.Application
outcome_said word.Partial d = part_said d

-- the gateway answered a call
unfoldable pub answer_input : Data → Result Input Name
answer_input d = do
  call ← required_field (whole_within FIRST_NUMBER GREATEST_NUMBER) name.Call d
  word ← required_field outcome_of name.Outcome d
  outcome ← outcome_said word d
  Ok (input.Answer (record { 0 = call }) outcome)

-- the gateway acknowledged a notice
unfoldable pub ack_input : Data → Result Input Name
ack_input d = do
  notice ← required_field (whole_within FIRST_NUMBER GREATEST_NUMBER) name.Notice d
  Ok (input.Ack notice)

-- the input of a line of this kind
abbrev pub input_of_kind : Kind → Data → Result Input Name
input_of_kind kind.User d = user_input d
input_of_kind kind.Card d = card_input d
input_of_kind kind.Move d = move_input d
input_of_kind kind.Product d = product_input d
input_of_kind kind.Group d = group_input d
input_of_kind kind.Control d = control_input d
input_of_kind kind.Set d = set_input d
input_of_kind kind.Switch d = switch_input d
input_of_kind kind.Load d = load_input d
input_of_kind kind.Authorization d = authorization_input d
input_of_kind kind.Increment d = increment_input d
input_of_kind kind.Reversal d = reversal_input d
input_of_kind kind.Clearing d = clearing_input d
input_of_kind kind.Refund d = refund_input d
input_of_kind kind.Answer d = answer_input d
input_of_kind kind.Ack d = ack_input d
input_of_kind kind.Time d = Ok input.Time
