-- Counters of single transactions, and the transactions that stand.
use Rattle.std.specs.Prelude.{◌≡◌, ℕ, pos, Bool, true, List}
use Rattle.std.specs.List.{list_all, list_any}
use Rattle.std.specs.FinMap as finite
use Rattle.std.specs.Str.{bytes_eq}
use Rattle.iss_model.specs.declared.setting.Window.{Window}
use Rattle.iss_model.specs.declared.setting.Window.TheVariants as window
use Rattle.iss_model.specs.rules.Activity.{TxnNow}
use Rattle.iss_model.specs.rules.Controls.{counter_key}
use Rattle.iss_model.specs.state.Cores.{ControlKept, CoreState}

-- a key is of a transaction that stands: its user, and the number of its first record
abbrev pub is_key_of_txn : List TxnNow → List ℕ → Bool
is_key_of_txn txns key = list_any (λ t. bytes_eq key (counter_key t.txn.user (pos t.txn.origin))) txns

-- each key is, if the window is that of single transactions
abbrev pub are_keys_of_txns : List TxnNow → Window → List (List ℕ) → Bool
are_keys_of_txns txns window.Transaction keys = list_all (is_key_of_txn txns) keys
are_keys_of_txns txns window.Day keys = true
are_keys_of_txns txns window.Week keys = true
are_keys_of_txns txns window.Month keys = true
are_keys_of_txns txns window.Lifetime keys = true

-- what a control has counted of a single transaction is of one that stands
abbrev pub counts_txns : List TxnNow → ControlKept → Bool
counts_txns txns k = are_keys_of_txns txns k.control.window (finite.keys k.amounts)

-- Each counter of a control of single transactions is of a transaction that stands.
abbrev pub CountsTxns : CoreState → Type 0
CountsTxns s = list_all (counts_txns s.holdings.txns) s.controls ≡ true
