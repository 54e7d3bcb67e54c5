-- Card events by what is found of them: the card of a purchase, the transaction of what follows it.
use Rattle.std.specs.Prelude.{◌≡◌, ℕ, ◌==◌, ◌^◌, ◌<◌, Bool, not, ◌&&◌, ◌||◌, List, [], ◌∷◌, Option, Some, is_none}
use Rattle.std.specs.Option.{option_map, option_and_then}
use Rattle.iss_model.specs.declared.currency.Currency.{Currency}
use Rattle.iss_model.specs.declared.setting.Card.{Card}
use Rattle.iss_model.specs.declared.setting.Product.{Product}
use Rattle.iss_model.specs.declared.decision.Reason.{Reason}
use Rattle.iss_model.specs.declared.decision.Reason.TheVariants as reason
use Rattle.iss_model.specs.rules.Settings.{card_named, product_named, is_active_user, is_active_card}
use Rattle.iss_model.specs.rules.Activity.{TxnNow}
use Rattle.iss_model.specs.rules.Facts.{Facts, txn_in}
use Rattle.iss_model.specs.rules.Asks.{Ask, txn_begun, breach}
use Rattle.iss_model.specs.rules.Reasons.{first_reason, is_some_with, user_is}
use Rattle.iss_model.specs.rules.CardReasons.{is_in_currency, lacks_funds, control_breach, first_ask, further_ask, increment_reason, reversal_reason, clearing_reason, refund_reason}
use Rattle.iss_model.specs.rules.Pieces.{parts_held, in_all}
use Rattle.iss_model.specs.rules.Acts.{Act}
use Rattle.iss_model.specs.rules.CardActs.{after_clearing_acts, authorization_acts, cleared_acts, clearing_acts, increment_acts, refund_acts, reversal_acts, reversed_acts}
use Rattle.iss_model.specs.rules.Stepping.{acts_unless}
use Rattle.iss_model.specs.state.Cores.{CoreState, core_facts}
use Rattle.iss_core.specs.Asks.{ask_reason}
use Rattle.iss_hold.specs.declared.hold.Hold.{Hold}
use Rattle.iss_hold.specs.Holdings.{txn_of_hold, parts_of_hold, whole_of}
use Rattle.iss_core.specs.declared.purchases.Purchase.{Purchase}
use Rattle.iss_core.specs.declared.operations.Operation.{Operation}

-- a purchase on a card of a product, as an ask
abbrev pub purchase_ask : Facts → Purchase → Card → Product → Ask
purchase_ask f p card product =
    first_ask p.token p.amount p.partial p.at (txn_begun f card product p.token p.currency p.mcc p.mid p.at)

-- a purchase as an ask, if its card and product are known
abbrev pub card_ask : Facts → Purchase → Option Card → Option Ask
card_ask f p known =
    option_and_then (λ card. option_map (purchase_ask f p card) (product_named card.product f.products)) known

-- why a purchase on a card is declined
abbrev pub purchase_reason : Facts → Currency → Option Card → Option Ask → Option Reason
purchase_reason f currency known ask =
    first_reason (
    (is_none known, reason.CardUnknown)
    ∷ (not (is_some_with (λ c. is_active_card c.state) known), reason.CardState)
    ∷ (not (is_some_with (λ c. user_is is_active_user f c.user) known), reason.UserState)
    ∷ (not (is_some_with (is_in_currency f currency) known), reason.Currency)
    ∷ control_breach (option_and_then (breach f) ask)
    ∷ (is_some_with (lacks_funds f) ask, reason.InsufficientFunds)
    ∷ []
    )

-- the acts of a purchase on a card
abbrev pub purchase_acts : Facts → Purchase → Option Card → List Act
purchase_acts f p known =
    let ask = card_ask f p known in
    acts_unless (purchase_reason f p.currency known ask) p.token (authorization_acts f ask)

-- the acts of a purchase on the card that it names
abbrev pub named_card_acts : Facts → Purchase → List Act
named_card_acts f p = purchase_acts f p (card_named p.card f.cards)

-- the acts of a transaction's first ask, which is declined by what it asks for, or begins the transaction
abbrev pub first_ask_acts : Facts → Ask → List Act
first_ask_acts f ask = acts_unless (ask_reason f ask) ask.event (authorization_acts f (Some ask))

-- the acts of an increment of a transaction
abbrev pub increment_on : Facts → Operation → Option TxnNow → List Act
increment_on f o known =
    let ask = option_map (λ now. further_ask o.token o.amount o.at now.txn) known in
    acts_unless (increment_reason f known o.currency ask) o.token (increment_acts f ask)

-- the acts of a reversal of a transaction
abbrev pub reversal_on : Facts → Operation → Option TxnNow → List Act
reversal_on f o known = acts_unless (reversal_reason known o.currency) o.token (reversal_acts f o.token o.amount known)

-- the acts of a clearing of a transaction
abbrev pub clearing_on : Facts → Operation → Option TxnNow → List Act
clearing_on f o known = acts_unless (clearing_reason known o.currency) o.token (clearing_acts f o.token o.amount o.last o.at known)

-- the acts of a refund of a transaction
abbrev pub refund_on : Facts → Operation → Option TxnNow → List Act
refund_on f o known = acts_unless (refund_reason f known o.currency o.amount) o.token (refund_acts f o.token o.amount known)

-- the acts of what follows an authorisation, on the transaction that it names
abbrev pub acts_on_txn : (Facts → Operation → Option TxnNow → List Act) → Facts → Operation → List Act
acts_on_txn acts f o = acts f o (txn_in f o.txn)

-- why an increment of a transaction with this hold is declined, as an ask
abbrev pub further_ask_reason : Facts → Operation → Hold → Ask → Option Reason
further_ask_reason f o hold ask = increment_reason f (Some (txn_of_hold hold)) o.currency (Some ask)

-- the acts of a reversal that isn't declined, of a transaction with this hold
abbrev pub reversed_on : Facts → Operation → Hold → List Act
reversed_on f o hold = reversed_acts f o.token o.amount hold.txn (parts_of_hold hold)

-- the acts of a clearing that isn't declined, of a transaction with this hold
abbrev pub cleared_on : Facts → Operation → Hold → List Act
cleared_on f o hold = cleared_acts f o.token o.amount o.last o.at (txn_of_hold hold) (parts_of_hold hold)

-- the acts that follow on a clearing's money, which leaves this hold
abbrev pub captured_on : Facts → Hold → ℕ → Bool → List Act
captured_on f rest amount last =
    after_clearing_acts f rest.txn (parts_of_hold rest) amount (rest.live && (last || in_all (parts_of_hold rest) == 0))

-- the acts of a refund that isn't declined, of a transaction with this hold
abbrev pub refunded_on : Facts → Operation → Hold → List Act
refunded_on f o hold = refund_acts f o.token o.amount (Some (txn_of_hold hold))

-- a hold has what its transaction holds, and that is small
pub record IsHeld (s : CoreState) (hold : Hold) : Type 0 where
  pub parts : parts_of_hold hold ≡ parts_held (core_facts s) hold.txn
  pub small : whole_of hold < 2 ^ 62
