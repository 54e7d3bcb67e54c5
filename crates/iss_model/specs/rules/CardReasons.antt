-- Why a card event is declined: the first of its reasons that holds.
use Rattle.std.specs.Prelude.{ℕ, pos, ◌+ℤ◌, Bool, true, false, not, ◌&&◌, List, [], ◌∷◌, Option, is_some, is_none, unwrap_or, option_and_then, option_map, int_lt}
use Rattle.std.specs.List.{list_any}
use Rattle.iss_model.specs.declared.currency.Currency.{Currency}
use Rattle.iss_model.specs.declared.setting.Funding.{Funding}
use Rattle.iss_model.specs.declared.setting.Funding.TheVariants as funding
use Rattle.iss_model.specs.declared.setting.Card.{Card}
use Rattle.iss_model.specs.declared.txn.Txn.{Txn}
use Rattle.iss_model.specs.declared.decision.Reason.{Reason}
use Rattle.iss_model.specs.declared.decision.Reason.TheVariants as reason
use Rattle.iss_model.specs.Currencies.{same_currency}
use Rattle.iss_model.specs.rules.Settings.{card_named, product_named, is_active_user, is_active_card}
use Rattle.iss_model.specs.rules.Activity.{TxnNow}
use Rattle.iss_model.specs.rules.Facts.{Facts, available_in, asked_calls_of}
use Rattle.iss_model.specs.rules.Asks.{Ask, breach, txn_begun, is_authorization}
use Rattle.iss_model.specs.rules.Reasons.{first_reason, is_some_with, user_is}

-- purchases are paid from the user's own balance
abbrev pub is_account_funded : Funding → Bool
is_account_funded funding.Account = true
is_account_funded funding.Gateway = false

-- the card is of a product in this currency
abbrev pub is_in_currency : Facts → Currency → Card → Bool
is_in_currency f currency card =
    is_some_with (λ product. same_currency product.currency currency) (product_named card.product f.products)

-- the ask is paid from the user's own balance, and less than its amount is left there
abbrev pub lacks_funds : Facts → Ask → Bool
lacks_funds f ask =
    is_account_funded ask.txn.funding && int_lt (available_in f ask.txn.user ask.txn.currency) (pos ask.amount)

-- a control declines the ask: the reason has the control's name
abbrev pub control_breach : Option (List ℕ) → Bool × Reason
control_breach name = (is_some name, reason.Control (unwrap_or name []))

-- the transaction that an authorisation would begin: there is one if the card and its product are known
abbrev pub txn_asked : Facts → List ℕ → List ℕ → Currency → ℕ → List ℕ → ℕ → Option Txn
txn_asked f token card currency mcc mid at =
    option_and_then (λ c.
    option_map (λ product. txn_begun f c product token currency mcc mid at) (product_named c.product f.products))
    (card_named card f.cards)

-- an authorisation as an ask
abbrev pub first_ask : List ℕ → ℕ → Bool → ℕ → Txn → Ask
first_ask token amount partial at txn = record { event = token; txn = txn; amount = amount; is_first = true; partial = partial; at = at }

-- an increment as an ask
abbrev pub further_ask : List ℕ → ℕ → ℕ → Txn → Ask
further_ask token amount at txn = record { event = token; txn = txn; amount = amount; is_first = false; partial = false; at = at }

-- why an authorisation is declined: what stands of the card, its user and its product, and then its ask, if it makes one
abbrev pub authorization_reason : Facts → List ℕ → Currency → Option Ask → Option Reason
authorization_reason f card currency ask =
    let known = card_named card f.cards in
    first_reason (
    (is_none known, reason.CardUnknown)
    ∷ (not (is_some_with (λ c. is_active_card c.state) known), reason.CardState)
    ∷ (not (is_some_with (λ c. user_is is_active_user f c.user) known), reason.UserState)
    ∷ (not (is_some_with (is_in_currency f currency) known), reason.Currency)
    ∷ control_breach (option_and_then (breach f) ask)
    ∷ (is_some_with (lacks_funds f) ask, reason.InsufficientFunds)
    ∷ []
    )

-- the call of the transaction's authorisation is asked
abbrev pub is_pending : Facts → Txn → Bool
is_pending f t = list_any (λ c. is_authorization c.opened.method) (asked_calls_of f t.token)

-- why an increment is declined
abbrev pub increment_reason : Facts → Option TxnNow → Currency → Option Ask → Option Reason
increment_reason f known currency ask =
    first_reason (
    (is_none known, reason.TxnUnknown)
    ∷ (not (is_some_with (λ t. t.live) known), reason.TxnClosed)
    ∷ (is_some_with (λ t. is_pending f t.txn) known, reason.TxnPending)
    ∷ (not (is_some_with (λ t. is_some_with (λ c. is_active_card c.state) (card_named t.txn.card f.cards)) known), reason.CardState)
    ∷ (not (is_some_with (λ t. user_is is_active_user f t.txn.user) known), reason.UserState)
    ∷ (not (is_some_with (λ t. same_currency t.txn.currency currency) known), reason.Currency)
    ∷ control_breach (option_and_then (breach f) ask)
    ∷ (is_some_with (lacks_funds f) ask, reason.InsufficientFunds)
    ∷ []
    )

-- why a reversal is declined
abbrev pub reversal_reason : Option TxnNow → Currency → Option Reason
reversal_reason known currency =
    first_reason (
    (is_none known, reason.TxnUnknown)
    ∷ (not (is_some_with (λ t. t.live) known), reason.TxnClosed)
    ∷ (not (is_some_with (λ t. same_currency t.txn.currency currency) known), reason.Currency)
    ∷ []
    )

-- why a clearing is declined: it may come after the transaction ended
abbrev pub clearing_reason : Option TxnNow → Currency → Option Reason
clearing_reason known currency =
    first_reason (
    (is_none known, reason.TxnUnknown)
    ∷ (not (is_some_with (λ t. same_currency t.txn.currency currency) known), reason.Currency)
    ∷ []
    )

-- the transaction's refunds with this amount pass what was cleared of it
abbrev pub passes_cleared : Facts → ℕ → TxnNow → Bool
passes_cleared f amount t = int_lt (f.cleared t.txn.token) (f.refunded t.txn.token +ℤ pos amount)

-- why a refund is declined
abbrev pub refund_reason : Facts → Option TxnNow → Currency → ℕ → Option Reason
refund_reason f known currency amount =
    first_reason (
    (is_none known, reason.TxnUnknown)
    ∷ (not (is_some_with (λ t. same_currency t.txn.currency currency) known), reason.Currency)
    ∷ (is_some_with (passes_cleared f amount) known, reason.RefundOver)
    ∷ []
    )
