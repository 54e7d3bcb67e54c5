-- What transactions hold, as it is kept for each of them.
use Rattle.std.specs.Prelude.{ℕ, true, ◌+◌, ◌-◌, pos, List, [], ◌∷◌, map, fold}
use Rattle.iss_model.specs.declared.account.Part.{Part}
use Rattle.iss_model.specs.declared.account.Part.TheVariants as part
use Rattle.iss_model.specs.declared.txn.Txn.{Txn}
use Rattle.iss_model.specs.Sums.{Change, part_key, user_key}
use Rattle.iss_model.specs.state.Kept.{Kept, nothing_kept, after_changes}
use Rattle.iss_model.specs.rules.Activity.{TxnNow}
use Rattle.iss_model.specs.rules.Pieces.{Parts}
use Rattle.iss_model.specs.state.Cores.{Holdings}
use Rattle.iss_hold.specs.declared.hold.Hold.{Hold}

-- a hold with nothing in it
abbrev pub begun : Txn → Hold
begun t = record { txn = t; live = true; g = 0; p = 0; s = 0 }

-- the transaction of a hold as it stands
abbrev pub txn_of_hold : Hold → TxnNow
txn_of_hold hold = record { txn = hold.txn; live = hold.live }

-- the tokens of transactions, in the order in which they began
abbrev pub tokens : List TxnNow → List (List ℕ)
tokens txns = map (λ t. t.txn.token) txns

-- a part of a hold
abbrev pub part_of : Part → Hold → ℕ
part_of part.G hold = hold.g
part_of part.P hold = hold.p
part_of part.S hold = hold.s

-- a hold with another amount in a part
abbrev pub with_part : Part → ℕ → Hold → Hold
with_part part.G amount hold = record hold { g = amount }
with_part part.P amount hold = record hold { p = amount }
with_part part.S amount hold = record hold { s = amount }

-- the parts of a hold
abbrev pub parts_of_hold : Hold → Parts
parts_of_hold hold = record { g = hold.g; p = hold.p; s = hold.s }

-- a hold without these parts
abbrev pub without_parts : Parts → Hold → Hold
without_parts taken hold = record hold { g = hold.g - taken.g; p = hold.p - taken.p; s = hold.s - taken.s }

-- all that a hold holds
abbrev pub whole_of : Hold → ℕ
whole_of hold = hold.g + hold.p + hold.s

-- what a hold comes to by part
abbrev pub part_sums : Hold → List Change
part_sums hold =
    record { key = part_key hold.txn.token part.G; by = pos hold.g }
    ∷ record { key = part_key hold.txn.token part.P; by = pos hold.p }
    ∷ record { key = part_key hold.txn.token part.S; by = pos hold.s }
    ∷ []

-- what a hold comes to for its user
abbrev pub user_sums : Hold → List Change
user_sums hold = record { key = user_key hold.txn.user hold.txn.currency; by = pos (whole_of hold) } ∷ []

-- what holds come to together
abbrev pub sums_from : (Hold → List Change) → Kept → List Hold → Kept
sums_from changes sums holds = fold (λ kept hold. after_changes kept (changes hold)) sums holds

-- the holdings that these holds make
abbrev pub holdings_of : List Hold → Holdings
holdings_of holds =
    record {
      txns = map txn_of_hold holds;
      parts = sums_from part_sums nothing_kept holds;
      held = sums_from user_sums nothing_kept holds;
    }
