-- Whom a state's notices name.
use Rattle.std.specs.Prelude.{◌≡◌, ℕ, Bool, true, not, ◌&&◌, List, Option, Some, None}
use Rattle.std.specs.List.{list_all}
use Rattle.std.specs.Str.{bytes_eq}
use Rattle.iss_model.specs.declared.call.CallId.{CallId}
use Rattle.iss_model.specs.declared.call.Notice.{Notice}
use Rattle.iss_model.specs.declared.state.State.{State}
use Rattle.iss_model.specs.declared.txn.Txn.{Txn}
use Rattle.iss_model.specs.Currencies.{same_currency}
use Rattle.iss_model.specs.rules.Activity.{CallNow, TxnNow, call_numbered, txn_named}
use Rattle.iss_model.specs.rules.CardReasons.{is_account_funded}
use Rattle.iss_model.specs.rules.Reasons.{is_some_with}
use Rattle.iss_states.specs.Rebuilding.{rebuilt}

-- the gateway pays this transaction, and a notice has its user and its currency
abbrev pub is_of_gateway_txn : Notice → Txn → Bool
is_of_gateway_txn n t = not (is_account_funded t.funding) && bytes_eq t.user n.user && same_currency t.currency n.currency

-- the transaction that a notice names is listed, and the notice is of it
abbrev pub names_its_txn : List TxnNow → Notice → Bool
names_its_txn txns n = is_some_with (λ now. is_of_gateway_txn n now.txn) (txn_named n.txn txns)

-- if a call is named, it was opened for this transaction
abbrev pub is_call_of : List CallNow → List ℕ → Option CallId → Bool
is_call_of calls txn None = true
is_call_of calls txn (Some call) = is_some_with (λ c. bytes_eq c.opened.txn txn) (call_numbered call.0 calls)

-- if a notice names a call, that is one of its transaction
abbrev pub names_its_call : List CallNow → Notice → Bool
names_its_call calls n = is_call_of calls n.txn n.call

-- Each notice names a listed transaction that the gateway pays, and has its user and its currency. If it names a call, that is one of this
-- transaction.
pub record AreAddressed (s : State) : Type 0 where
  pub txns : list_all (names_its_txn (rebuilt s).holdings.txns) s.notices ≡ true
  pub calls : list_all (names_its_call (rebuilt s).calls) s.notices ≡ true
