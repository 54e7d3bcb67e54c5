-- Which transactions expire, and in which order.
use Rattle.std.specs.Prelude.{◌≡◌, ℕ, nat_le, Bool, List, [], ◌∷◌, map, filter, fold, if◌then◌else◌}
use Rattle.iss_model.specs.rules.Due.{DueItem, txn_due, due_txn, is_before, items_with}
use Rattle.iss_model.specs.state.Cores.{Holdings}
use Rattle.iss_hold.specs.declared.hold.Hold.{Hold}

-- the live transactions whose expiry has come, by expiry and the number of the authorisation's record
abbrev pub txns_due : Holdings → ℕ → List DueItem
txns_due h now = fold items_with [] (filter (λ item. nat_le item.since now) (map due_txn (filter (λ t. t.live) h.txns)))

-- these are the tokens of the transactions that are due
abbrev pub AreDue : Holdings → ℕ → List (List ℕ) → Type 0
AreDue h now tokens = map (λ token. txn_due token) tokens ≡ map (λ item. item.thing) (txns_due h now)

-- a transaction's expiry and its authorisation's record, with its token
abbrev pub Expiry : Type 0
Expiry = (ℕ × ℕ) × List ℕ

-- a hold's transaction expires
abbrev pub expiry_of : Hold → Expiry
expiry_of hold = ((hold.txn.expires, hold.txn.origin), hold.txn.token)

-- an expiry as an item that is due
abbrev pub item_of : Expiry → DueItem
item_of e = record { since = e.0.0; rank = 1; number = e.0.1; thing = txn_due e.1 }

-- an expiry at its place among ordered ones
abbrev pub with_expiry : List Expiry → Expiry → List Expiry
with_expiry [] e = e ∷ []
with_expiry (first ∷ rest) e = if is_before (item_of e) (item_of first) then e ∷ first ∷ rest else first ∷ with_expiry rest e

-- the expiries of the live ones of these holds
abbrev pub live_ones : List Hold → List Expiry
live_ones holds = map expiry_of (filter (λ hold. hold.live) holds)

-- the expiries of the live transactions, in their order
abbrev pub expiries : List Hold → List Expiry
expiries holds = fold with_expiry [] (live_ones holds)

-- an expiry has come
abbrev pub has_come : ℕ → Expiry → Bool
has_come now e = nat_le e.0.0 now

-- the first expiries, up to one that hasn't come
abbrev pub come_of : ℕ → List Expiry → List Expiry
come_of now [] = []
come_of now (e ∷ es) = if has_come now e then e ∷ come_of now es else []

-- the first holds, up to one whose expiry hasn't come
abbrev pub holds_come : ℕ → List Hold → List Hold
holds_come now [] = []
holds_come now (hold ∷ holds) = if nat_le hold.txn.expires now then hold ∷ holds_come now holds else []
