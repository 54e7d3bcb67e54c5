-- How each kind of record is read again, and the record that bytes spell.
use Rattle.std.specs.Prelude.{ℕ, Bool, true, false, ◌==◌, List, [], ◌∷◌, Option, Some, None, if◌then◌else◌}
use Rattle.iss_model.specs.declared.currency.Currency.{Currency}
use Rattle.iss_model.specs.declared.setting.Window.{Window}
use Rattle.iss_model.specs.declared.input.Outcome.TheVariants as outcome
use Rattle.iss_model.specs.declared.input.Input.{Input}
use Rattle.iss_model.specs.declared.input.Input.TheVariants as input
use Rattle.iss_model.specs.declared.input.Record.{Record}
use Rattle.iss_model.specs.Forms.{is_timeout, is_hold_time, are_limits}
use Rattle.iss_model.specs.Numbers.{funding_numbered, window_numbered, outcome_numbered}
use Rattle.iss_codec.specs.Taking.{◌>>=◌, only, take_byte, take_formed, take_stamp, take_amount, take_limit, take_mcc, take_id, take_token, take_flag, take_currency, take_numbered, take_optional, take_mccs, take_moved, take_association, take_scope, take_offset}

-- the limits of a control with this window
unfoldable pub take_limits : Window → List ℕ → Option ((Option ℕ × Option ℕ) × List ℕ)
take_limits window bytes = do
  amount ← take_optional 8 bytes
  usage ← take_optional 4 amount.1
  only (λ limits. are_limits window limits.0 limits.1) ((amount.0, usage.0), usage.1)

-- the gateway answers a call, and not with a part
unfoldable pub take_answer : List ℕ → Option (Input × List ℕ)
take_answer bytes = do
  call ← take_id bytes
  outcome ← take_numbered outcome_numbered call.1
  Some (input.Answer (record { 0 = call.0 }) outcome.0, outcome.1)

-- the gateway funds a part of a call's amount
unfoldable pub take_part : List ℕ → Option (Input × List ℕ)
take_part bytes = do
  call ← take_id bytes
  currency ← take_currency call.1
  amount ← take_amount currency.1
  Some (input.Answer (record { 0 = call.0 }) (outcome.Partial currency.0 amount.0), amount.1)

-- a notice is acknowledged
unfoldable pub take_ack : List ℕ → Option (Input × List ℕ)
take_ack bytes = do
  notice ← take_id bytes
  Some (input.Ack notice.0, notice.1)

-- What holds tokens, with each token as `take_name` takes it.
module _ (take_name : List ℕ → Option (List ℕ × List ℕ)) where
  -- a user is made
  unfoldable pub take_user : List ℕ → Option (Input × List ℕ)
  take_user bytes = do
    token ← take_name bytes
    user ← take_name token.1
    Some (input.User token.0 user.0, user.1)

  -- a card is made for a user
  unfoldable pub take_card : List ℕ → Option (Input × List ℕ)
  take_card bytes = do
    token ← take_name bytes
    card ← take_name token.1
    user ← take_name card.1
    product ← take_name user.1
    active ← take_flag product.1
    Some (input.Card token.0 card.0 user.0 product.0 active.0, active.1)

  -- a card or a user is moved to a state
  unfoldable pub take_move : List ℕ → Option (Input × List ℕ)
  take_move bytes = do
    token ← take_name bytes
    who ← take_moved take_name token.1
    Some (input.Move token.0 who.0, who.1)

  -- a product is set
  unfoldable pub take_product : List ℕ → Option (Input × List ℕ)
  take_product bytes = do
    token ← take_name bytes
    product ← take_name token.1
    currency ← take_currency product.1
    funding ← take_numbered funding_numbered currency.1
    timeout_ms ← take_formed 4 is_timeout funding.1
    hold_ms ← take_formed 4 is_hold_time timeout_ms.1
    Some (input.Product token.0 product.0 currency.0 funding.0 timeout_ms.0 hold_ms.0, hold_ms.1)

  -- a group of merchants is made
  unfoldable pub take_group : List ℕ → Option (Input × List ℕ)
  take_group bytes = do
    token ← take_name bytes
    group ← take_name token.1
    mccs ← take_mccs group.1
    Some (input.Group token.0 group.0 mccs.0, mccs.1)

  -- a velocity control is set, in UTC or by a local clock
  unfoldable pub take_control : Bool → List ℕ → Option (Input × List ℕ)
  take_control local bytes = do
    token ← take_name bytes
    control ← take_name token.1
    currency ← take_currency control.1
    window ← take_numbered window_numbered currency.1
    limits ← take_limits window.0 window.1
    association ← take_association take_name limits.1
    scope ← take_scope take_name association.1
    active ← take_flag scope.1
    offset ← take_offset local active.1
    Some (input.Control token.0 control.0 currency.0 window.0 limits.0.0 limits.0.1 association.0 scope.0 offset.0 active.0, offset.1)

  -- a Commando Mode set is set
  unfoldable pub take_set : List ℕ → Option (Input × List ℕ)
  take_set bytes = do
    token ← take_name bytes
    set ← take_name token.1
    product ← take_name set.1
    currency ← take_currency product.1
    connection ← take_flag currency.1
    timeout ← take_flag connection.1
    application ← take_flag timeout.1
    max ← take_limit application.1
    day_limit ← take_limit max.1
    active ← take_flag day_limit.1
    Some (input.Set token.0 set.0 product.0 currency.0 connection.0 timeout.0 application.0 max.0 day_limit.0 active.0, active.1)

  -- a product's switch is turned
  unfoldable pub take_switch : List ℕ → Option (Input × List ℕ)
  take_switch bytes = do
    token ← take_name bytes
    product ← take_name token.1
    on ← take_flag product.1
    Some (input.Switch token.0 product.0 on.0, on.1)

  -- an operation: its token, whom or what it is about, and an amount
  unfoldable pub take_operation : (List ℕ → List ℕ → Currency → ℕ → Input) → List ℕ → Option (Input × List ℕ)
  take_operation make bytes = do
    token ← take_name bytes
    about ← take_name token.1
    currency ← take_currency about.1
    amount ← take_amount currency.1
    Some (make token.0 about.0 currency.0 amount.0, amount.1)

  -- a card is used at a merchant, and a part of the amount is permitted or not
  unfoldable pub take_authorization : Bool → List ℕ → Option (Input × List ℕ)
  take_authorization partial bytes = do
    token ← take_name bytes
    card ← take_name token.1
    currency ← take_currency card.1
    amount ← take_amount currency.1
    mcc ← take_mcc amount.1
    mid ← take_name mcc.1
    Some (input.Authorization token.0 card.0 currency.0 amount.0 mcc.0 mid.0 partial, mid.1)

  -- a transaction is cleared, in part or at last
  unfoldable pub take_clearing : List ℕ → Option (Input × List ℕ)
  take_clearing bytes = do
    token ← take_name bytes
    txn ← take_name token.1
    currency ← take_currency txn.1
    amount ← take_amount currency.1
    last ← take_flag amount.1
    Some (input.Clearing token.0 txn.0 currency.0 amount.0 last.0, last.1)

  -- the fields of an input of this kind
  unfoldable pub take_fields : ℕ → List ℕ → Option (Input × List ℕ)
  take_fields kind bytes =
      if kind == 1 then take_user bytes
      else if kind == 2 then take_card bytes
      else if kind == 3 then take_move bytes
      else if kind == 4 then take_product bytes
      else if kind == 5 then take_group bytes
      else if kind == 6 then take_control false bytes
      else if kind == 7 then take_set bytes
      else if kind == 8 then take_switch bytes
      else if kind == 9 then take_operation input.Load bytes
      else if kind == 10 then take_authorization false bytes
      else if kind == 11 then take_operation input.Increment bytes
      else if kind == 12 then take_operation input.Reversal bytes
      else if kind == 13 then take_clearing bytes
      else if kind == 14 then take_operation input.Refund bytes
      else if kind == 15 then take_answer bytes
      else if kind == 16 then take_ack bytes
      else if kind == 17 then Some (input.Time, bytes)
      else if kind == 18 then take_control true bytes
      else if kind == 19 then take_part bytes
      else if kind == 20 then take_authorization true bytes
      else None

  -- the record at the start, and the bytes after it
  abbrev pub take_input : List ℕ → Option (Record × List ℕ)
  take_input bytes = do
    kind ← take_byte bytes
    at ← take_stamp kind.1
    fields ← take_fields kind.0 at.1
    Some (record { at = at.0; input = fields.0 }, fields.1)

-- the record at the start, each token after its length, and the bytes after it
unfoldable pub take_record : List ℕ → Option (Record × List ℕ)
take_record bytes = take_input take_token bytes

-- a record, if nothing is after it
abbrev pub alone : Record → List ℕ → Option Record
alone r [] = Some r
alone r (byte ∷ rest) = None

-- the record that these bytes spell, or none
unfoldable pub record_spelled : List ℕ → Option Record
record_spelled bytes = do
  taken ← take_record bytes
  alone taken.0 taken.1
