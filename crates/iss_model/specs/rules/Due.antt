-- What falls due: a call that isn't answered by its deadline, and a transaction whose holds expire.
use Rattle.std.specs.Prelude.{ℕ, ◌==◌, List, [], ◌∷◌, ◌++◌, Option, Some, None, if◌then◌else◌, Bool, ◌&&◌, ◌||◌, nat_le, nat_lt, true, false, filter, fold, map}
use Rattle.iss_model.specs.declared.call.Failure.TheVariants as failure
use Rattle.iss_model.specs.declared.decision.Reason.TheVariants as reason
use Rattle.iss_model.specs.declared.entry.Entry.{Entry}
use Rattle.iss_model.specs.declared.txn.Txn.{Txn}
use Rattle.iss_model.specs.rules.Activity.{CallNow, TxnNow, is_asked}
use Rattle.iss_model.specs.rules.Acts.{expired, Act, Tells, entries_of_acts}
use Rattle.iss_model.specs.rules.CardActs.{acts_for_gateway, acts_where, end_acts, failed_acts, acts_of_asked}
use Rattle.iss_model.specs.rules.Facts.{Facts, txn_in, call_in, next_notice}
use Rattle.iss_model.specs.rules.Pieces.{Parts, parts_held, in_all, notice_after_abandonment}

-- what is due, by name: a call's number, or a transaction's token
pub data DueThing : Type 0 where
  call_due : ℕ → DueThing
  txn_due : List ℕ → DueThing

-- A thing that has been due since a moment. Of one moment calls come before transactions, each by the number of a call or of an
-- authorisation's record.
pub record DueItem : Type 0 where
  pub since : ℕ
  pub rank : ℕ
  pub number : ℕ
  pub thing : DueThing

-- a call is due at its deadline
abbrev pub due_call : CallNow → DueItem
due_call c =
    record { since = c.opened.deadline; rank = 0; number = c.opened.call.0; thing = call_due c.opened.call.0 }

-- a transaction is due at its expiry
abbrev pub due_txn : TxnNow → DueItem
due_txn t = record { since = t.txn.expires; rank = 1; number = t.txn.origin; thing = txn_due t.txn.token }

-- the order in which due items are settled
abbrev pub is_before : DueItem → DueItem → Bool
is_before a b =
    nat_lt a.since b.since
    || a.since == b.since && (nat_lt a.rank b.rank || a.rank == b.rank && nat_lt a.number b.number)

-- an item at its place among ordered ones
abbrev pub items_with : List DueItem → DueItem → List DueItem
items_with [] item = item ∷ []
items_with (first ∷ rest) item = if is_before item first then item ∷ first ∷ rest else first ∷ items_with rest item

-- the asked calls whose deadline has come and the live transactions whose expiry has come, in their order
abbrev pub due_items : Facts → ℕ → List DueItem
due_items f at =
    fold items_with [] (filter (λ item. nat_le item.since at)
    (map due_call (filter is_asked f.calls) ++ map due_txn (filter (λ t. t.live) f.txns)))

-- nothing is due
abbrev pub is_quiet : List DueItem → Bool
is_quiet [] = true
is_quiet (item ∷ items) = false

-- a transaction that holds these parts expires
abbrev pub expired_acts : Facts → Txn → Parts → List Act
expired_acts f t parts =
    end_acts (next_notice f) f t parts reason.Expired
    ++ acts_for_gateway t (acts_where (in_all parts) (Tells (notice_after_abandonment (next_notice f) f t) expired t (in_all parts) parts.g ∷ []))

-- a transaction expires
abbrev pub expiry_acts : Facts → Txn → List Act
expiry_acts f t = expired_acts f t (parts_held f t)

-- an expiry, if the transaction is live
abbrev pub live_expiry_acts : Facts → Option TxnNow → List Act
live_expiry_acts f None = []
live_expiry_acts f (Some now) = if now.live then expiry_acts f now.txn else []

-- the acts of a due thing
abbrev pub thing_acts : DueThing → ℕ → Facts → List Act
thing_acts (call_due number) at f = acts_of_asked (λ o t. failed_acts f o t failure.Timeout at) (call_in f number) f
thing_acts (txn_due token) at f = live_expiry_acts f (txn_in f token)

-- what settling a due thing makes at a moment
abbrev pub thing_entries : DueThing → ℕ → Facts → List Entry
thing_entries thing at f = entries_of_acts (thing_acts thing at f)
