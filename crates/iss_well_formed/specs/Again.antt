-- What a core that is made again from a state has of its events, its calls and its transactions.
use Rattle.std.specs.Prelude.{◌≡◌, ℕ, Bool, true, not, ◌&&◌, ◌||◌, List, map, is_some}
use Rattle.std.specs.List.{list_all, list_any}
use Rattle.std.specs.Str.{bytes_eq}
use Rattle.iss_model.specs.declared.state.Carried.{Carried}
use Rattle.iss_model.specs.declared.state.State.{State}
use Rattle.iss_model.specs.rules.Activity.{CallNow, TxnNow, is_asked, txn_named}
use Rattle.iss_model.specs.rules.Asks.{is_authorization}
use Rattle.iss_states.specs.Rebuilding.{rebuilt}
use Rattle.iss_states.specs.Showing.{shown}

-- a transaction by its token, and whether it is live
abbrev pub listed : Carried → List ℕ × Bool
listed t = (t.txn, t.sums.live)

-- so it is of one that stands
abbrev pub standing : TxnNow → List ℕ × Bool
standing t = (t.txn.token, t.live)

-- a call is of a transaction that stands
abbrev pub is_of_listed : List TxnNow → CallNow → Bool
is_of_listed txns x = is_some (txn_named x.opened.txn txns)

-- an ended transaction has no asked call
abbrev pub is_unasked_if_ended : List CallNow → Carried → Bool
is_unasked_if_ended calls t = t.sums.live || not (list_any (λ x. is_asked x && bytes_eq x.opened.txn t.txn) calls)

-- while an authorisation is asked, no other call of its transaction is
abbrev pub is_alone : List CallNow → CallNow → Bool
is_alone calls x =
    not (is_asked x && is_authorization x.opened.method)
    || list_all (λ y. not (is_asked y && bytes_eq y.opened.txn x.opened.txn) || bytes_eq y.opened.event x.opened.event) calls

-- The verdict and the mark of each event, and the transactions, are those of the core that is made again. So a mark is that of the call
-- which its event asks for, and each transaction began with its event. Each call is of a listed transaction, of which it is asked only
-- while that is live. While an authorisation is asked, no other call of its transaction is.
pub record AreOfTheirEvents (s : State) : Type 0 where
  pub events : (shown (rebuilt s)).events ≡ s.events
  pub begun : map standing (rebuilt s).holdings.txns ≡ map listed s.txns
  pub called : list_all (is_of_listed (rebuilt s).holdings.txns) (rebuilt s).calls ≡ true
  pub ended : list_all (is_unasked_if_ended (rebuilt s).calls) s.txns ≡ true
  pub alone : list_all (is_alone (rebuilt s).calls) (rebuilt s).calls ≡ true
