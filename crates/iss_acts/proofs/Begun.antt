-- The ask of an authorisation begins a transaction of a card and a product that stand in the facts.
use Rattle.std.proofs.Common.{refl, ℕ, ◌≡◌}
use Rattle.std.specs.Prelude.{None, Option, Some, option_and_then, option_map}
use Rattle.iss_model.specs.declared.setting.Card.{Card}
use Rattle.iss_model.specs.declared.setting.Product.{Product}
use Rattle.iss_model.specs.rules.Asks.{Ask, txn_begun}
use Rattle.iss_model.specs.rules.CardReasons.{first_ask}
use Rattle.iss_model.specs.rules.Facts.{Facts}
use Rattle.iss_model.specs.rules.Settings.{card_named, product_named}
use Rattle.iss_acts.specs.Causes.{Cause}
use Rattle.iss_acts.specs.Sources.{IsFirstAsk}

-- the card and the product of an authorisation, and the ask that they make
pub record IsBegun (f : Facts) (by : Cause) (at : ℕ) (ask : Ask) (first : IsFirstAsk f by at ask) : Type 0 where
  pub card : Card
  pub product : Product
  pub of_card : card_named first.card f.cards ≡ Some card
  pub of_product : product_named card.product f.products ≡ Some product
  pub same : ask ≡ first_ask first.token first.amount first.partial at (txn_begun f card product first.token first.currency first.mcc first.mid at)

pub is_begun : {f : Facts} {by : Cause} {at : ℕ} {ask : Ask} (first : IsFirstAsk f by at ask) → IsBegun f by at ask first
is_begun {f} {by} {at} {ask} first = with_card (card_named first.card f.cards) refl first.made
  where
    asked : Card → Option Product → Option Ask
    asked card product = option_map (first_ask first.token first.amount first.partial at) (option_map (λ product. txn_begun f card product first.token first.currency first.mcc first.mid at) product)

    with_product : (card : Card) → card_named first.card f.cards ≡ Some card → (product : Option Product) → product_named card.product f.products ≡ product → asked card product ≡ Some ask → IsBegun f by at ask first
    with_product card c None p e = cc
    with_product card c (Some product) p e = record { card = card; product = product; of_card = c; of_product = p; same = cc }

    with_card : (card : Option Card) → card_named first.card f.cards ≡ card
        → option_map (first_ask first.token first.amount first.partial at) (option_and_then (λ c. option_map (λ product. txn_begun f c product first.token first.currency first.mcc first.mid at) (product_named c.product f.products)) card) ≡ Some ask
        → IsBegun f by at ask first
    with_card None c e = cc
    with_card (Some card) c e = with_product card c (product_named card.product f.products) refl e
