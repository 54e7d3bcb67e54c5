-- What reading means, in terms of spelling alone.
use Rattle.std.specs.Prelude.{◌≡◌, ℕ, Bool, List, ◌++◌, Option, Some, IsTrue}
use Rattle.iss_model.specs.declared.currency.Currency.{Currency}
use Rattle.iss_model.specs.declared.setting.Window.{Window}
use Rattle.iss_model.specs.texts.Spelling.{AreBytes}
use Rattle.iss_image_lists.specs.Forms.{are_balances, are_counters, are_notices, are_sums_of_stand_ins, are_txns}
use Rattle.iss_image_lists.specs.Spelling.{balances_bytes, counters_bytes, notices_bytes, sums_bytes, txns_bytes}
use Rattle.iss_image_lists.specs.Taking.{take_balances, take_counters, take_notices, take_sums, take_txns}

-- What is read was spelled so and is of its form, and what is of its form is read again, whatever follows it.
pub record IsSpelledSo {A : Type 0} (taker : List ℕ → Option (A × List ℕ)) (text : A → List ℕ) (form : A → Bool) : Type 0 where
  pub back : (bytes : List ℕ) (x : A × List ℕ) → AreBytes bytes → taker bytes ≡ Some x → (bytes ≡ text x.0 ++ x.1) × IsTrue (form x.0)
  pub again : (x : A) (rest : List ℕ) → IsTrue (form x) → taker (text x ++ rest) ≡ Some (x, rest)

-- transactions are spelled so, if their tokens are
abbrev pub TxnsAreSpelledSo : Type 0
TxnsAreSpelledSo =
    (take_name : List ℕ → Option (List ℕ × List ℕ)) (name_bytes : List ℕ → List ℕ) (is_name : List ℕ → Bool)
    → IsSpelledSo take_name name_bytes is_name → IsSpelledSo (take_txns take_name) (txns_bytes name_bytes) (are_txns is_name)

-- balances are, likewise
abbrev pub BalancesAreSpelledSo : Type 0
BalancesAreSpelledSo =
    (take_name : List ℕ → Option (List ℕ × List ℕ)) (name_bytes : List ℕ → List ℕ) (is_name : List ℕ → Bool)
    → IsSpelledSo take_name name_bytes is_name → IsSpelledSo (take_balances take_name) (balances_bytes name_bytes) (are_balances is_name)

-- counters are, whatever the windows of their controls
abbrev pub CountersAreSpelledSo : Type 0
CountersAreSpelledSo =
    (take_name : List ℕ → Option (List ℕ × List ℕ)) (name_bytes : List ℕ → List ℕ) (is_name : List ℕ → Bool) (window_of : List ℕ → Option Window)
    → IsSpelledSo take_name name_bytes is_name → IsSpelledSo (take_counters take_name window_of) (counters_bytes name_bytes) (are_counters is_name window_of)

-- sums of stand-ins are, likewise
abbrev pub SumsAreSpelledSo : Type 0
SumsAreSpelledSo =
    (take_name : List ℕ → Option (List ℕ × List ℕ)) (name_bytes : List ℕ → List ℕ) (is_name : List ℕ → Bool)
    → IsSpelledSo take_name name_bytes is_name → IsSpelledSo (take_sums take_name) (sums_bytes name_bytes) (are_sums_of_stand_ins is_name)

-- notices are, whoever holds their transactions
abbrev pub NoticesAreSpelledSo : Type 0
NoticesAreSpelledSo =
    (take_name : List ℕ → Option (List ℕ × List ℕ)) (name_bytes : List ℕ → List ℕ) (is_name : List ℕ → Bool) (holder_of : List ℕ → Option (List ℕ × Currency))
    → IsSpelledSo take_name name_bytes is_name → IsSpelledSo (take_notices take_name holder_of) (notices_bytes name_bytes) (are_notices is_name holder_of)
