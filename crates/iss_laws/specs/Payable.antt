-- What a funded call needs to be paid, and what entries leave of calls.
use Rattle.std.specs.Prelude.{◌≡◌, ℕ, false, ◌==◌, List, Some, if◌then◌else◌}
use Rattle.iss_model.specs.declared.call.Opened.{Opened}
use Rattle.iss_model.specs.rules.Activity.{CallNow, TxnNow, call_numbered, is_asked, txn_named}
use Rattle.iss_model.specs.rules.Reasons.{is_some_with}
use Rattle.iss_model.specs.state.Cores.{CoreState}

-- 1 if a call of this number is asked, and else 0
abbrev pub asked_at : List CallNow → ℕ → ℕ
asked_at calls number = if is_some_with is_asked (call_numbered number calls) then 1 else 0

-- A call asks for an amount, and its transaction stands and is of its user and currency.
pub record IsPayable (txns : List TxnNow) (o : Opened) : Type 0 where
  pub its : TxnNow
  pub stands : txn_named o.txn txns ≡ Some its
  pub of_user : its.txn.user ≡ o.user
  pub of_currency : its.txn.currency ≡ o.currency
  pub asks : (o.amount == 0) ≡ false

-- each call of a state is like that
abbrev pub ArePayable : CoreState → Type 0
ArePayable s = (n : ℕ) (c : CallNow) → call_numbered n s.calls ≡ Some c → IsPayable s.holdings.txns c.opened

-- a call of this number stands, as it was opened
pub record StandsAs (calls : List CallNow) (n : ℕ) (o : Opened) : Type 0 where
  pub its : CallNow
  pub stands : call_numbered n calls ≡ Some its
  pub opened : its.opened ≡ o

-- each call that stands in the first list stands in the second, as it was opened
abbrev pub CallsStand : List CallNow → List CallNow → Type 0
CallsStand calls later = (n : ℕ) (c : CallNow) → call_numbered n calls ≡ Some c → StandsAs later n c.opened
