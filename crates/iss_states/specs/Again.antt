-- Calls and transactions as they are made again, each of its event and of what it names.
use Rattle.std.specs.Prelude.{◌≡◌, ℕ, ◌+◌, Bool, false, List, [], find, map, Some}
use Rattle.iss_model.specs.declared.call.Method.{Method}
use Rattle.iss_model.specs.declared.call.Method.TheVariants as method
use Rattle.iss_model.specs.declared.call.Opened.{Opened}
use Rattle.iss_model.specs.declared.currency.Currency.{Currency}
use Rattle.iss_model.specs.declared.currency.Currency.TheVariants.{Usd}
use Rattle.iss_model.specs.declared.input.Input.{Input}
use Rattle.iss_model.specs.declared.input.Input.TheVariants as input
use Rattle.iss_model.specs.declared.setting.Card.{Card}
use Rattle.iss_model.specs.declared.setting.Product.{Product}
use Rattle.iss_model.specs.declared.txn.Txn.{Txn}
use Rattle.iss_model.specs.Inputs.{is_event}
use Rattle.iss_model.specs.rules.Activity.{CallNow, TxnNow, call_numbered, txn_named}
use Rattle.iss_model.specs.rules.Facts.{Accepted}
use Rattle.iss_model.specs.rules.Settings.{card_named, product_named}
use Rattle.iss_model.specs.state.Cores.{CoreState}
use Rattle.iss_states.specs.Showing.{token_of_event}

-- the method of the call for an event
abbrev pub method_of_event : Input → Method
method_of_event (input.Authorization token card currency amount mcc mid partial) = method.Authorization
method_of_event _ = method.Incremental

-- the amount that an event asks for
abbrev pub amount_of_event : Input → ℕ
amount_of_event (input.Authorization token card currency amount mcc mid partial) = amount
amount_of_event (input.Increment token txn currency amount) = amount
amount_of_event _ = 0

-- an event permits that the gateway funds a part
abbrev pub permits_part : Input → Bool
permits_part (input.Authorization token card currency amount mcc mid partial) = partial
permits_part _ = false

-- the call for an event, of its transaction, with its product's time for an answer
abbrev pub call_again : ℕ → Accepted → Txn → Product → Opened
call_again number a t p =
    record {
      call = record { 0 = number };
      event = token_of_event a;
      txn = t.token;
      method = method_of_event a.input;
      card = t.card;
      user = t.user;
      currency = t.currency;
      mcc = t.mcc;
      mid = t.mid;
      amount = amount_of_event a.input;
      partial = permits_part a.input;
      at = a.at;
      deadline = a.at + p.timeout_ms;
    }

-- A call is as its event, its transaction and its product make it.
pub record IsCallAgain (c : CoreState) (o : Opened) : Type 0 where
  pub its : TxnNow
  pub stands : txn_named o.txn c.holdings.txns ≡ Some its
  pub event : Accepted
  pub was_accepted : find (λ a. is_event o.event a.input) c.accepted ≡ Some event
  pub product : Product
  pub is_sold : product_named its.txn.product (map (λ p. p.product) c.products) ≡ Some product
  pub same : o ≡ call_again o.call.0 event its.txn product

-- each call of a core is
abbrev pub AreCallsAgain : CoreState → Type 0
AreCallsAgain c = (n : ℕ) (x : CallNow) → call_numbered n c.calls ≡ Some x → IsCallAgain c x.opened

-- the currency of a purchase
abbrev pub purchase_currency : Input → Currency
purchase_currency (input.Authorization token card currency amount mcc mid partial) = currency
purchase_currency _ = Usd

-- the merchant category code of a purchase
abbrev pub purchase_mcc : Input → ℕ
purchase_mcc (input.Authorization token card currency amount mcc mid partial) = mcc
purchase_mcc _ = 0

-- the merchant of a purchase
abbrev pub purchase_mid : Input → List ℕ
purchase_mid (input.Authorization token card currency amount mcc mid partial) = mid
purchase_mid _ = []

-- the transaction of an event, with a card and a product, which is let go when the product's holds are
abbrev pub txn_again : Accepted → Card → Product → Txn
txn_again a card product =
    record {
      token = token_of_event a;
      card = card.name;
      user = card.user;
      product = card.product;
      currency = purchase_currency a.input;
      funding = product.funding;
      mcc = purchase_mcc a.input;
      mid = purchase_mid a.input;
      origin = a.number;
      at = a.at;
      expires = a.at + product.hold_ms;
    }

-- A transaction is as its event, its card and its product make it.
pub record IsTxnAgain (c : CoreState) (t : Txn) : Type 0 where
  pub event : Accepted
  pub was_accepted : find (λ a. is_event t.token a.input) c.accepted ≡ Some event
  pub card : Card
  pub of_card : card_named t.card c.cardholders.cards ≡ Some card
  pub product : Product
  pub of_product : product_named card.product (map (λ p. p.product) c.products) ≡ Some product
  pub same : t ≡ txn_again event card product

-- each transaction of a core is
abbrev pub AreTxnsAgain : CoreState → Type 0
AreTxnsAgain c = (token : List ℕ) (x : TxnNow) → txn_named token c.holdings.txns ≡ Some x → IsTxnAgain c x.txn
