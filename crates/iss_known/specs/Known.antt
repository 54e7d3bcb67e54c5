-- What the events of a state make known, as a test of the state looks it up.
use Rattle.std.specs.Prelude.{◌≡◌, ℕ, List, map, option_map, is_some}
use Rattle.iss_model.specs.declared.setting.Card.{Card}
use Rattle.iss_model.specs.declared.setting.Product.{Product}
use Rattle.iss_model.specs.declared.state.State.{State}
use Rattle.iss_model.specs.rules.Activity.{CallNow, TxnNow}
use Rattle.iss_model.specs.rules.Settings.{card_named, product_named, user_named}
use Rattle.iss_model.specs.state.Cores.{ControlKept, CoreState}
use Rattle.iss_index.specs.Places.{place_of}
use Rattle.iss_states.specs.Rebuilding.{rebuilt}
use Rattle.iss_states.specs.Showing.{shown}
use Rattle.iss_well_formed.specs.Again.{listed, standing}
pub use Rattle.iss_known.specs.declared.controls.ControlKnown.{ControlKnown}

-- What is known of a state: names of users and sets, cards, products and controls, each the first of its name. Then the transactions and
-- the calls, each in the order of its event.
pub record KnownNow : Type 0 where
  pub users : List (List ℕ)
  pub cards : List Card
  pub products : List Product
  pub controls : List ControlKnown
  pub sets : List (List ℕ)
  pub txns : List TxnNow
  pub calls : List CallNow

-- whose a card is, and of which product
abbrev pub card_leads_to : Card → List ℕ × List ℕ
card_leads_to c = (c.user, c.product)

-- a control as it is known
abbrev pub control_known : ControlKept → ControlKnown
control_known c = record { name = c.control.name; window = c.control.window }

-- What is known is what a core has: each look-up gives the same, and controls, sets, transactions and calls are the same lists.
pub record IsKnownOf (k : KnownNow) (c : CoreState) : Type 0 where
  pub users : (name : List ℕ) → is_some (place_of name k.users) ≡ is_some (user_named name c.cardholders.users)
  pub cards : (name : List ℕ)
      → option_map card_leads_to (card_named name k.cards) ≡ option_map card_leads_to (card_named name c.cardholders.cards)
  pub products : (name : List ℕ) → product_named name k.products ≡ product_named name (map (λ p. p.product) c.products)
  pub controls : k.controls ≡ map control_known c.controls
  pub sets : k.sets ≡ map (λ s. s.name) c.stand_ins.sets
  pub txns : k.txns ≡ c.holdings.txns
  pub calls : k.calls ≡ c.calls

-- A state's events are shown again by the core that is made from it. Its transactions are those that its events begin, in their order.
pub record IsReadAgain (s : State) : Type 0 where
  pub events : (shown (rebuilt s)).events ≡ s.events
  pub begun : map standing (rebuilt s).holdings.txns ≡ map listed s.txns
