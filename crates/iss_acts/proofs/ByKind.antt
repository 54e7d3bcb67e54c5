-- The rows of inputs gone over once: what holds of the row of each kind holds of all.
use Rattle.std.proofs.Common.{Bool, List, [], refl, sym, ℕ, ◌∙◌, ◌∷◌, ◌≡◌}
use Rattle.std.specs.Prelude.{Option, Some, None, option_map}
use Rattle.iss_model.specs.declared.call.CallId.{CallId}
use Rattle.iss_model.specs.declared.currency.Currency.{Currency}
use Rattle.iss_model.specs.declared.decision.Reason.{Reason}
use Rattle.iss_model.specs.declared.input.Input.{Input}
use Rattle.iss_model.specs.declared.input.Input.TheVariants as input
use Rattle.iss_model.specs.declared.input.Outcome.{Outcome}
use Rattle.iss_model.specs.Inputs.{event_token}
use Rattle.iss_model.specs.rules.Activity.{TxnNow}
use Rattle.iss_model.specs.rules.Acts.{Act, Declines, Loads, Sets}
use Rattle.iss_model.specs.rules.Asks.{Ask}
use Rattle.iss_model.specs.rules.CardActs.{answer_acts, authorization_acts, clearing_acts, increment_acts, refund_acts, reversal_acts}
use Rattle.iss_model.specs.rules.CardReasons.{authorization_reason, clearing_reason, further_ask, increment_reason, refund_reason, reversal_reason}
use Rattle.iss_model.specs.rules.Facts.{Facts, txn_in}
use Rattle.iss_model.specs.rules.Reasons.{card_reason, control_reason, group_reason, load_reason, move_reason, product_reason, set_reason, switch_reason, user_reason}
use Rattle.iss_model.specs.rules.Stepping.{acknowledgement_acts, acts_of, acts_unless, authorization_ask}
use Rattle.iss_acts.specs.Sources.{setting_reason}

-- A property of an input and its acts, shown for declined inputs and for settings together, and for each other kind by itself.
pub record EachKind (P : Input → List Act → Type 0) (f : Facts) (at : ℕ) : Type 0 where
  pub declined : (i : Input) (token : List ℕ) (why : Reason) → event_token i ≡ Some token → P i (Declines token why ∷ [])
  pub setting : (i : Input) (token : List ℕ) → event_token i ≡ Some token → setting_reason f i ≡ None → P i (Sets i token ∷ [])
  pub load : (token user : List ℕ) (currency : Currency) (amount : ℕ) → P (input.Load token user currency amount) (Loads token user currency amount ∷ [])
  pub authorization : (token card : List ℕ) (currency : Currency) (amount mcc : ℕ) (mid : List ℕ) (partial : Bool) (ask : Option Ask)
      → authorization_ask f token card currency amount mcc mid partial at ≡ ask → authorization_reason f card currency ask ≡ None
      → P (input.Authorization token card currency amount mcc mid partial) (authorization_acts f ask)
  pub increment : (token txn : List ℕ) (currency : Currency) (amount : ℕ) (now : TxnNow) → txn_in f txn ≡ Some now
      → increment_reason f (Some now) currency (Some (further_ask token amount at now.txn)) ≡ None
      → P (input.Increment token txn currency amount) (increment_acts f (Some (further_ask token amount at now.txn)))
  pub reversal : (token txn : List ℕ) (currency : Currency) (amount : ℕ) (now : TxnNow) → txn_in f txn ≡ Some now → reversal_reason (Some now) currency ≡ None
      → P (input.Reversal token txn currency amount) (reversal_acts f token amount (Some now))
  pub clearing : (token txn : List ℕ) (currency : Currency) (amount : ℕ) (last : Bool) (now : TxnNow) → txn_in f txn ≡ Some now → clearing_reason (Some now) currency ≡ None
      → P (input.Clearing token txn currency amount last) (clearing_acts f token amount last at (Some now))
  pub refund : (token txn : List ℕ) (currency : Currency) (amount : ℕ) (now : TxnNow) → txn_in f txn ≡ Some now → refund_reason f (Some now) currency amount ≡ None
      → P (input.Refund token txn currency amount) (refund_acts f token amount (Some now))
  pub answer : (call : CallId) (what : Outcome) → P (input.Answer call what) (answer_acts call what at f)
  pub acknowledgement : (notice : ℕ) → P (input.Ack notice) (acknowledgement_acts f notice)
  pub time : P input.Time []

module _ {P : Input → List Act → Type 0} {f : Facts} {at : ℕ} (each : EachKind P f at) where
  unless : (i : Input) (token : List ℕ) (why : Option Reason) (acts : List Act) → event_token i ≡ Some token → (why ≡ None → P i acts) → P i (acts_unless why token acts)
  unless i token None acts its h = h refl
  unless i token (Some why) acts its h = each.declined i token why its

  set : (i : Input) (token : List ℕ) (why : Option Reason) → event_token i ≡ Some token → why ≡ setting_reason f i → P i (acts_unless why token (Sets i token ∷ []))
  set i token why its same = unless i token why (Sets i token ∷ []) its (λ none. each.setting i token its (sym same ∙ none))

  -- a transaction that isn't known has its reason
  pub walk : (i : Input) → P i (acts_of i at f)
  walk (input.User token user) = set _ token (user_reason f user) refl refl
  walk (input.Card token card user product active) = set _ token (card_reason f card user product) refl refl
  walk (input.Move token who) = set _ token (move_reason f who) refl refl
  walk (input.Product token product currency funding timeout_ms hold_ms) = set _ token (product_reason f product) refl refl
  walk (input.Group token group mccs) = set _ token (group_reason f group) refl refl
  walk (input.Control token control currency window amount_limit usage_limit association scope offset active) = set _ token (control_reason f control currency window association scope offset) refl refl
  walk (input.Set token name product currency connection timeout application max day_limit active) = set _ token (set_reason f name product currency) refl refl
  walk (input.Switch token product on) = set _ token (switch_reason f product) refl refl
  walk (input.Load token user currency amount) = unless _ token (load_reason f user) _ refl (λ none. each.load token user currency amount)
  walk (input.Authorization token card currency amount mcc mid partial) =
      let ask : Option Ask = authorization_ask f token card currency amount mcc mid partial at in
      unless _ token (authorization_reason f card currency ask) (authorization_acts f ask) refl (λ none. each.authorization token card currency amount mcc mid partial ask refl none)
  walk (input.Increment token txn currency amount) = by (txn_in f txn) refl
    where
      by : (now : Option TxnNow) → txn_in f txn ≡ now
          → P (input.Increment token txn currency amount) (acts_unless (increment_reason f now currency (option_map (λ now. further_ask token amount at now.txn) now)) token (increment_acts f (option_map (λ now. further_ask token amount at now.txn) now)))
      by None e = each.declined _ token _ refl
      by (Some now) e = unless (input.Increment token txn currency amount) token _ _ refl (λ none. each.increment token txn currency amount now e none)
  walk (input.Reversal token txn currency amount) = by (txn_in f txn) refl
    where
      by : (now : Option TxnNow) → txn_in f txn ≡ now → P (input.Reversal token txn currency amount) (acts_unless (reversal_reason now currency) token (reversal_acts f token amount now))
      by None e = each.declined _ token _ refl
      by (Some now) e = unless (input.Reversal token txn currency amount) token _ _ refl (λ none. each.reversal token txn currency amount now e none)
  walk (input.Clearing token txn currency amount last) = by (txn_in f txn) refl
    where
      by : (now : Option TxnNow) → txn_in f txn ≡ now → P (input.Clearing token txn currency amount last) (acts_unless (clearing_reason now currency) token (clearing_acts f token amount last at now))
      by None e = each.declined _ token _ refl
      by (Some now) e = unless (input.Clearing token txn currency amount last) token _ _ refl (λ none. each.clearing token txn currency amount last now e none)
  walk (input.Refund token txn currency amount) = by (txn_in f txn) refl
    where
      by : (now : Option TxnNow) → txn_in f txn ≡ now → P (input.Refund token txn currency amount) (acts_unless (refund_reason f now currency amount) token (refund_acts f token amount now))
      by None e = each.declined _ token _ refl
      by (Some now) e = unless (input.Refund token txn currency amount) token _ _ refl (λ none. each.refund token txn currency amount now e none)
  walk (input.Answer call what) = each.answer call what
  walk (input.Ack notice) = each.acknowledgement notice
  walk input.Time = each.time
