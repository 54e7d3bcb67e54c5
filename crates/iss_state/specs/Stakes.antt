-- What is at stake in a state: what its transactions hold and what its calls ask. It may be moved without a further input.
use Rattle.std.specs.Prelude.{Bool, List, [], false, if◌then◌else◌, map, not, suc, true, zero, ℕ, ◌&&◌, ◌*◌, ◌+◌, ◌∷◌, ◌≡◌}
use Rattle.iss_model.specs.declared.account.Part.{Part}
use Rattle.iss_model.specs.declared.account.Part.TheVariants as part
use Rattle.iss_model.specs.Sums.{part_key}
use Rattle.iss_model.specs.rules.Activity.{CallNow, TxnNow, is_asked}
use Rattle.iss_model.specs.rules.Facts.{not_below}
use Rattle.iss_model.specs.rules.Settings.{is_named_in}
use Rattle.iss_model.specs.state.Cores.{CoreState}
use Rattle.iss_model.specs.state.Kept.{Kept, kept_at}

-- what a transaction holds in a part
abbrev pub part_held : Kept → List ℕ → Part → ℕ
part_held parts token p = not_below (kept_at parts (part_key token p))

-- what a transaction holds in all three parts
abbrev pub whole_held : Kept → List ℕ → ℕ
whole_held parts token = part_held parts token part.G + part_held parts token part.P + part_held parts token part.S

-- what transactions hold together
abbrev pub total_held : List (List ℕ) → Kept → ℕ
total_held [] parts = 0
total_held (t ∷ ts) parts = whole_held parts t + total_held ts parts

-- a number, and 1 in the place of 0
abbrev pub at_least_one : ℕ → ℕ
at_least_one zero = 1
at_least_one (suc n) = suc n

-- what a call asks, and at least 1: the one time that its use is given back with must be there too
abbrev pub asked_amount : CallNow → ℕ
asked_amount c = if is_asked c then at_least_one c.opened.amount else 0

-- what calls ask together
abbrev pub total_asked : List CallNow → ℕ
total_asked [] = 0
total_asked (c ∷ cs) = asked_amount c + total_asked cs

-- the tokens of transactions, in their order
abbrev pub txn_tokens : List TxnNow → List (List ℕ)
txn_tokens txns = map (λ t. t.txn.token) txns

-- What may still be moved without a further input: all that is held, and twice what is asked.
abbrev pub at_stake : CoreState → ℕ
at_stake s = total_held (txn_tokens s.holdings.txns) s.holdings.parts + 2 * total_asked s.calls

-- no name stands twice
abbrev pub are_distinct : List (List ℕ) → Bool
are_distinct [] = true
are_distinct (t ∷ ts) = not (is_named_in ts t) && are_distinct ts

-- transactions have names of their own, and a transaction that hasn't begun holds nothing
pub record IsOrderly (names : List (List ℕ)) (parts : Kept) : Type 0 where
  pub distinct : are_distinct names ≡ true
  pub unbegun : (token : List ℕ) → is_named_in names token ≡ false → whole_held parts token ≡ 0

-- the transactions and holdings of a state are orderly
abbrev pub IsOrderlyState : CoreState → Type 0
IsOrderlyState s = IsOrderly (txn_tokens s.holdings.txns) s.holdings.parts
