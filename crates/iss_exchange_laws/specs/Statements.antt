-- What is said of moves at an instance.
use Rattle.std.specs.Prelude.{ℕ, List}
use Rattle.iss_model.specs.declared.currency.Currency.{Currency}
use Rattle.iss_model.specs.texts.CallTokens.{call_uuid}
use Rattle.iss_exchange_laws.specs.declared.moves.Move.{Move}
use Rattle.iss_exchange_laws.specs.Exchanges.{Exchange, new_exchange}
use Rattle.iss_exchange_laws.specs.Honest.{LeadBy}
use Rattle.iss_exchange_laws.specs.Laws.{IsEven, IsSettled, Reconciles, facts_of}
use Rattle.iss_exchange_laws.specs.Rules.{exchange_of}

-- these moves lead there from the beginning, with an honest gateway
abbrev pub LeadTo : ℕ → List Move → Exchange → Type 0
LeadTo instance ms x = LeadBy (call_uuid instance) ms new_exchange x

-- both sides reconcile in each currency
abbrev pub BothReconcile : ℕ → Exchange → Type 0
BothReconcile instance x = (c : Currency) → Reconciles (call_uuid instance) x c

-- if all is settled, nothing is on its way in any currency
abbrev pub EvenIfSettled : ℕ → Exchange → Type 0
EvenIfSettled instance x = (c : Currency) → IsSettled (facts_of x) → IsEven (call_uuid instance) x c

-- what these moves come to with the reference gateway, which has these two limits
abbrev pub exchange_after : ℕ → ℕ → ℕ → List Move → Exchange
exchange_after instance most limit ms = exchange_of (call_uuid instance) most limit ms
