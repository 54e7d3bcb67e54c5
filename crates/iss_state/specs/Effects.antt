-- What lists of entries do to a state, and how it is paid.
use Rattle.std.specs.Prelude.{List, fold, ℕ, ◌*◌, ◌+◌, ◌≡◌, ◌≤◌}
use Rattle.iss_model.specs.declared.account.Part.TheVariants as part
use Rattle.iss_model.specs.declared.entry.Entry.{Entry}
use Rattle.iss_model.specs.declared.txn.Txn.{Txn}
use Rattle.iss_model.specs.rules.Pieces.{Parts}
use Rattle.iss_model.specs.state.Cores.{CoreState, after_entry}
use Rattle.iss_state.specs.Bounds.{moved_money, moved_use, total_of}
use Rattle.iss_state.specs.Needs.{AllFit, Stands, begun_txns}
use Rattle.iss_state.specs.Stakes.{IsOrderlyState, at_least_one, at_stake, part_held}

-- What entries that begin no transaction do: how far they move sums of money and use, and what they put at stake or take. Each fits.
pub record Effect (s : CoreState) (es : List Entry) (moved used up down : ℕ) : Type 0 where
  pub money : total_of moved_money es ≤ moved
  pub usage : total_of moved_use es ≤ used
  pub stake : at_stake (fold after_entry s es) + down ≤ at_stake s + up
  pub fit : AllFit s es
  pub txns : begun_txns (fold after_entry s es) ≡ begun_txns s
  pub orderly : IsOrderlyState (fold after_entry s es)

-- Entries are paid from what was at stake, and by this much further money and use. What is put at stake is paid twice in money, once in use.
pub record Paid (more_money more_use : ℕ) (s : CoreState) (es : List Entry) : Type 0 where
  pub moved : ℕ
  pub used : ℕ
  pub up : ℕ
  pub down : ℕ
  pub effect : Effect s es moved used up down
  pub money : moved + 2 * up ≤ 2 * down + more_money
  pub usage : used + up ≤ down + more_use

-- Entries are paid by what a closed call of an amount took from what was at stake. That is four times the amount in money, and twice in use.
abbrev pub PaidByAsk : ℕ → CoreState → List Entry → Type 0
PaidByAsk amount s es = Paid (4 * at_least_one amount) (2 * at_least_one amount) s es

-- a transaction holds at least these parts
pub record HoldsParts (s : CoreState) (t : Txn) (parts : Parts) : Type 0 where
  pub of_gateway : parts.g ≤ part_held s.holdings.parts t.token part.G
  pub of_programme : parts.p ≤ part_held s.holdings.parts t.token part.P
  pub of_user : parts.s ≤ part_held s.holdings.parts t.token part.S

-- what holds if a state is orderly, and a transaction stands in it
abbrev pub IfStands : CoreState → Txn → Type 0 → Type 0
IfStands s t Holds = IsOrderlyState s → Stands s t → Holds

-- what holds if, besides, the transaction holds at least these parts
abbrev pub IfHolds : CoreState → Txn → Parts → Type 0 → Type 0
IfHolds s t parts Holds = IfStands s t (HoldsParts s t parts → Holds)
