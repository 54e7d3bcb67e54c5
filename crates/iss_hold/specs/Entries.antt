-- What calls on a started transaction do to the holdings, by the entries that are made of it.
use Rattle.std.specs.Prelude.{ℕ, suc, ◌-◌, ◌≤◌, ℤ, pos, negsuc, Bool, false, List, [], ◌∷◌, ◌++◌, fold, Option, Some, None}
use Rattle.iss_model.specs.declared.account.Part.{Part}
use Rattle.iss_model.specs.declared.account.Part.TheVariants as part
use Rattle.iss_model.specs.declared.txn.Txn.{Txn}
use Rattle.iss_model.specs.declared.entry.Entry.{Entry}
use Rattle.iss_model.specs.declared.entry.Entry.TheVariants as entry
use Rattle.iss_model.specs.Sums.{part_key}
use Rattle.iss_model.specs.state.Kept.{kept_at}
use Rattle.iss_model.specs.rules.Activity.{TxnNow, txn_named}
use Rattle.iss_model.specs.rules.Facts.{not_below}
use Rattle.iss_model.specs.rules.Pieces.{Parts, in_all, taken_to_clear, taken_to_release, unhold_entries}
use Rattle.iss_model.specs.state.Cores.{Holdings, with_hold}
use Rattle.iss_hold.specs.declared.hold.Taken.{Taken}

-- a transaction was started and hasn't ended
abbrev pub live_now : Option TxnNow → Bool
live_now None = false
live_now (Some now) = now.live

-- the entries that are made of a transaction
abbrev pub entries_on : Option TxnNow → (Txn → List Entry) → List Entry
entries_on None make = []
entries_on (Some now) make = make now.txn

-- the holdings after the holds that are made of a started transaction
abbrev pub after_holds : Holdings → List ℕ → (Txn → List Entry) → Holdings
after_holds h txn make = fold with_hold h (entries_on (txn_named txn h.txns) make)

-- what a transaction holds, by part
abbrev pub parts_in : Holdings → List ℕ → Parts
parts_in h txn =
    record {
      g = not_below (kept_at h.parts (part_key txn part.G));
      p = not_below (kept_at h.parts (part_key txn part.P));
      s = not_below (kept_at h.parts (part_key txn part.S));
    }

-- a clearing lets these parts go: the gateway's, the programme's, the user's own
abbrev pub clearing_unhold_entries : Parts → Txn → List Entry
clearing_unhold_entries taken t = unhold_entries t part.G taken.g ++ unhold_entries t part.P taken.p ++ unhold_entries t part.S taken.s

-- a release lets these parts go: the programme's, the gateway's, the user's own
abbrev pub release_unhold_entries : Parts → Txn → List Entry
release_unhold_entries taken t = unhold_entries t part.P taken.p ++ unhold_entries t part.G taken.g ++ unhold_entries t part.S taken.s

-- these parts of an amount, and its rest
abbrev pub taken_in_all : Parts → ℕ → Taken
taken_in_all taken amount = record { g = taken.g; p = taken.p; s = taken.s; rest = amount - in_all taken }

-- what a clearing of an amount takes of a transaction's parts
abbrev pub cleared_parts : Holdings → List ℕ → ℕ → Parts
cleared_parts h txn amount = taken_to_clear (parts_in h txn) amount

-- what a release of an amount takes of them
abbrev pub released_parts : Holdings → List ℕ → ℕ → Parts
released_parts h txn amount = taken_to_release (parts_in h txn) amount

-- the parts that were taken
abbrev pub parts_taken : Taken → Parts
parts_taken taken = record { g = taken.g; p = taken.p; s = taken.s }

-- a part of a hold changes by an amount, which is negative if it is let go
abbrev pub change_entries : Part → ℤ → Txn → List Entry
change_entries part amount t = entry.Hold t.token t.user t.currency part amount ∷ []

-- what is let go is there
abbrev pub IsHoldCovered : ℤ → ℕ → Type 0
IsHoldCovered (pos n) there = Unit {0}
IsHoldCovered (negsuc n) there = suc n ≤ there
