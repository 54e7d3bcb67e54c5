-- The transactions of a state, by their tokens and by the records that they began with.
use Rattle.std.specs.Prelude.{◌≡◌, false, ℕ, nat_le, nat_lt, ◌==◌, Bool, List, Option, option_map}
use Rattle.std.specs.List.{list_all, list_any}
use Rattle.iss_model.specs.declared.txn.Txn.{Txn}
use Rattle.iss_model.specs.rules.Activity.{TxnNow, txn_named}
use Rattle.iss_model.specs.rules.Settings.{is_named_in}
use Rattle.iss_model.specs.state.Cores.{CoreState}
use Rattle.iss_state.specs.Needs.{begun_txns}
use Rattle.iss_state.specs.Sound.{is_accepted}
use Rattle.iss_state.specs.Stakes.{txn_tokens, whole_held}

-- a transaction of this token has begun
abbrev pub has_begun : CoreState → List ℕ → Bool
has_begun s token = is_named_in (txn_tokens s.holdings.txns) token

-- the transaction of a token as it began
abbrev pub begun_txn : CoreState → List ℕ → Option Txn
begun_txn s token = option_map (λ (now : TxnNow). now.txn) (txn_named token s.holdings.txns)

-- each transaction began with a record before the one of this number
abbrev pub have_begun_before : CoreState → ℕ → Bool
have_begun_before s origin = list_all (λ (x : Txn). nat_lt x.origin origin) (begun_txns s)

-- a transaction began with the record of this number
abbrev pub has_origin : CoreState → ℕ → Bool
has_origin s origin = list_any (λ (x : TxnNow). origin == x.txn.origin) s.holdings.txns

-- the token of each transaction is that of an accepted event
abbrev pub are_of_accepted : CoreState → Bool
are_of_accepted s = list_all (is_accepted s.accepted) (txn_tokens s.holdings.txns)

-- each transaction began with one of the records so far
abbrev pub are_of_records : CoreState → Bool
are_of_records s = list_all (λ t. nat_le t.origin s.count) (begun_txns s)

-- a transaction that hasn't begun holds nothing
abbrev pub HoldsOnceBegun : CoreState → List ℕ → Type 0
HoldsOnceBegun s token = has_begun s token ≡ false → whole_held s.holdings.parts token ≡ 0
