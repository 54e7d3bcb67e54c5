-- What holds of the transactions, the calls and the decisions of every core.
use Rattle.std.specs.Prelude.{◌≡◌, ◌+◌, ℕ, Bool, true, false, ◌&&◌, List, [], ◌∷◌, length, filter, Some, None, is_some, ◌⊎◌}
use Rattle.std.specs.List.{list_any}
use Rattle.std.specs.Str.{bytes_eq}
use Rattle.iss_model.specs.rules.Activity.{TxnNow, CallNow, txn_named, call_numbered, is_asked}
use Rattle.iss_model.specs.rules.Asks.{is_authorization}
use Rattle.iss_model.specs.rules.Facts.{Decision}
use Rattle.iss_model.specs.rules.Reasons.{is_some_with}
use Rattle.iss_state.specs.Numbers.{CallsNumberedFrom}
use Rattle.iss_state.specs.Dockets.{Docket}

-- no two transactions have one token
abbrev pub HaveOwnTokens : List TxnNow → Type 0
HaveOwnTokens [] = Unit {0}
HaveOwnTokens (t ∷ ts) = (txn_named t.txn.token ts ≡ None) × HaveOwnTokens ts

-- a transaction of this token stands and is live
abbrev pub has_live : List TxnNow → List ℕ → Bool
has_live txns token = is_some_with (λ t. t.live) (txn_named token txns)

-- an event is decided
abbrev pub is_decided : List Decision → List ℕ → Bool
is_decided ds event = list_any (λ d. bytes_eq d.event event) ds

-- no event is decided twice
abbrev pub HaveOwnEvents : List Decision → Type 0
HaveOwnEvents [] = Unit {0}
HaveOwnEvents (d ∷ ds) = (is_decided ds d.event ≡ false) × HaveOwnEvents ds

-- how often an event is decided
abbrev pub decided_times : List Decision → List ℕ → ℕ
decided_times ds event = length (filter (λ d. bytes_eq d.event event) ds)

-- how many calls are asked for an event
abbrev pub asked_times : List CallNow → List ℕ → ℕ
asked_times calls event = length (filter (λ c. is_asked c && bytes_eq c.opened.event event) calls)

-- an event is ruled once: it is decided and no call is asked for it, or it isn't decided and one call is
abbrev pub IsRuledOnce : Docket → List ℕ → Type 0
IsRuledOnce d event = decided_times d.decisions event + asked_times d.calls event ≡ 1

-- the call of this number stands and is asked
pub record IsAsked (calls : List CallNow) (n : ℕ) (c : CallNow) : Type 0 where
  pub stands : call_numbered n calls ≡ Some c
  pub asked : is_asked c ≡ true

-- no call of this transaction is asked
abbrev pub NoneAskedOf : List CallNow → List ℕ → Type 0
NoneAskedOf calls token = (n : ℕ) (c : CallNow) → IsAsked calls n c → c.opened.txn ≡ token → ⊥

-- no authorisation's call of this transaction is asked
abbrev pub NonePendingOf : List CallNow → List ℕ → Type 0
NonePendingOf calls token =
    (n : ℕ) (c : CallNow) → IsAsked calls n c → c.opened.txn ≡ token → is_authorization c.opened.method ≡ true → ⊥

-- no call is asked for this event
abbrev pub NoneAskedFor : List CallNow → List ℕ → Type 0
NoneAskedFor calls event = (n : ℕ) (c : CallNow) → IsAsked calls n c → c.opened.event ≡ event → ⊥

-- no call was opened for this event
abbrev pub NoneOpenedFor : List CallNow → List ℕ → Type 0
NoneOpenedFor calls event = (n : ℕ) (c : CallNow) → call_numbered n calls ≡ Some c → c.opened.event ≡ event → ⊥

-- a call is asked for this event
pub record IsWaiting (calls : List CallNow) (event : List ℕ) : Type 0 where
  pub number : ℕ
  pub call : CallNow
  pub asked : IsAsked calls number call
  pub its_event : call.opened.event ≡ event

-- an event is decided, or a call is asked for it
abbrev pub IsAccounted : Docket → List ℕ → Type 0
IsAccounted d event = (is_decided d.decisions event ≡ true) ⊎ IsWaiting d.calls event

-- which events are known, and which products stand, by name
pub record Known : Type 0 where
  pub events : List ℕ → Bool
  pub products : List ℕ → Bool

-- Calls are numbered from 1. An event has at most one call. While an authorisation's call is asked, no other call of its
-- transaction is. Each is for a known event.
pub record AreWellCalls (known : Known) (calls : List CallNow) : Type 0 where
  pub numbers : CallsNumberedFrom 1 calls
  pub once : (n m : ℕ) (c e : CallNow) → call_numbered n calls ≡ Some c → call_numbered m calls ≡ Some e
      → c.opened.event ≡ e.opened.event → n ≡ m
  pub alone : (n m : ℕ) (c e : CallNow) → IsAsked calls n c → IsAsked calls m e → c.opened.txn ≡ e.opened.txn
      → is_authorization c.opened.method ≡ true → n ≡ m
  pub events : (n : ℕ) (c : CallNow) → call_numbered n calls ≡ Some c → known.events c.opened.event ≡ true

-- Transactions have tokens of their own, those of known events, and products that stand.
pub record AreWellTxns (known : Known) (txns : List TxnNow) : Type 0 where
  pub tokens : HaveOwnTokens txns
  pub events : (token : List ℕ) → is_some (txn_named token txns) ≡ true → known.events token ≡ true
  pub products : (token : List ℕ) (t : TxnNow) → txn_named token txns ≡ Some t → known.products t.txn.product ≡ true

-- No event is decided twice, and each that is decided is known.
pub record AreWellDecisions (known : Known) (ds : List Decision) : Type 0 where
  pub once : HaveOwnEvents ds
  pub events : (event : List ℕ) → is_decided ds event ≡ true → known.events event ≡ true

-- What holds of a docket after each entry. An asked call's transaction stands and is live, and its event isn't decided.
pub record IsWellAmong (known : Known) (d : Docket) : Type 0 where
  pub calls : AreWellCalls known d.calls
  pub txns : AreWellTxns known d.txns
  pub decisions : AreWellDecisions known d.decisions
  pub live : (n : ℕ) (c : CallNow) → IsAsked d.calls n c → has_live d.txns c.opened.txn ≡ true
  pub waits : (n : ℕ) (c : CallNow) → IsAsked d.calls n c → is_decided d.decisions c.opened.event ≡ false
