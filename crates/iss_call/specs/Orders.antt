-- The numbers of calls, and the orders in which the asked ones are kept.
use Rattle.std.specs.Prelude.{◌≡◌, ℕ, suc, ◌<◌, ◌^◌, List, [], ◌∷◌, map, filter, fold, length}
use Rattle.std.specs.declared.cmp.Ordering.{Ordering}
use Rattle.std.specs.Ordering.{nat_cmp, ordering_then}
use Rattle.std.specs.Cmp.Lexicographic.{slice_cmp}
use Rattle.std.specs.BTreeSet.{insert_key}
use Rattle.iss_model.specs.declared.call.CallId.{CallId}
use Rattle.iss_model.specs.declared.call.Opened.{Opened}
use Rattle.iss_model.specs.rules.Activity.{CallNow, is_asked}
use Rattle.iss_call.specs.declared.orders.Orders.{Orders}

-- calls are numbered one after the other, the first by this number
abbrev pub AreNumbered : ℕ → List CallNow → Type 0
AreNumbered first [] = Unit {0}
AreNumbered first (c ∷ cs) = (c.opened.call.0 ≡ first) × AreNumbered (suc first) cs

-- keys in their order, each once
abbrev pub in_order : {K : Type 0} → (K → K → Ordering) → List K → List K
in_order order keys = fold (insert_key order) [] keys

-- a call's deadline and number
abbrev pub deadline_key : Opened → ℕ × ℕ
deadline_key o = (o.deadline, o.call.0)

-- a call's transaction and number
abbrev pub txn_key : Opened → List ℕ × ℕ
txn_key o = (o.txn, o.call.0)

-- the call of a number
abbrev pub id_of : ℕ → CallId
id_of number = record { 0 = number }

-- the call of a key
abbrev pub call_of : {A : Type 0} → A × ℕ → CallId
call_of key = id_of key.1

-- the order by deadline and number
abbrev pub by_deadline : (ℕ × ℕ) → (ℕ × ℕ) → Ordering
by_deadline a b = ordering_then (nat_cmp a.0 b.0) (nat_cmp a.1 b.1)

-- the order by transaction and number
abbrev pub by_txn : (List ℕ × ℕ) → (List ℕ × ℕ) → Ordering
by_txn a b = ordering_then (slice_cmp nat_cmp a.0 b.0) (nat_cmp a.1 b.1)

-- the keys of the asked calls
abbrev pub asked_keys : {K : Type 0} → (Opened → K) → List CallNow → List K
asked_keys key calls = map (λ c. key c.opened) (filter is_asked calls)

-- calls are numbered from 1, and each order holds the asked ones
pub record AreOrdered (calls : List CallNow) (orders : Orders) : Type 0 where
  pub numbered : AreNumbered 1 calls
  pub few : length calls < 2 ^ 32
  pub deadlines : orders.deadlines.keys ≡ in_order by_deadline (asked_keys deadline_key calls)
  pub txns : orders.txns.keys ≡ in_order by_txn (asked_keys txn_key calls)
