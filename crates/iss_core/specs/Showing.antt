-- Counters as they are shown, and the transactions that records began.
use Rattle.std.specs.Prelude.{◌≡◌, ℕ, ℤ, pos, Bool, true, false, cond, List, find, Option, Some, None, is_some, option_map, unwrap_or, []}
use Rattle.std.specs.BTreeMap.{BTreeMap, get}
use Rattle.std.specs.List.{list_all}
use Rattle.std.specs.Ordering.{int_cmp, int_eq}
use Rattle.iss_model.specs.declared.counted.Counter.{Counter}
use Rattle.iss_model.specs.declared.counted.Span.{Span}
use Rattle.iss_model.specs.declared.counted.Span.TheVariants as span
use Rattle.iss_model.specs.declared.setting.Window.{Window}
use Rattle.iss_model.specs.declared.setting.Window.TheVariants as window
use Rattle.iss_model.specs.declared.state.Carried.{Carried}
use Rattle.iss_model.specs.rules.Activity.{TxnNow, txn_named}
use Rattle.iss_states.specs.Keys.{has_no_zero}
use Rattle.iss_states.specs.Showing.{span_at}
use Rattle.iss_velocity.specs.declared.counted.Counted.{Counted}

-- a transaction by its token, of the record of this number
abbrev pub begun_by : List TxnNow → ℤ → Option (List ℕ)
begun_by txns number = option_map (λ t. t.txn.token) (find (λ t. int_eq (pos t.txn.origin) number) txns)

-- the first transaction of each record is found by the record's number
abbrev pub AreOrigins : List TxnNow → BTreeMap ℤ (List ℕ) → Type 0
AreOrigins txns origins = (number : ℤ) → get int_cmp origins number ≡ begun_by txns number

-- there is a number, and it is this one
abbrev pub is_number : ℤ → Option ℕ → Bool
is_number number None = false
is_number number (Some n) = int_eq (pos n) number

-- a transaction is entered by the number of its first record, if there is one
abbrev pub IsEntered : Option ℕ → List ℕ → BTreeMap ℤ (List ℕ) → BTreeMap ℤ (List ℕ) → Type 0
IsEntered origin txn before after = (number : ℤ) → get int_cmp after number ≡ cond (is_number number origin) (Some txn) (get int_cmp before number)

-- the number of the record that a transaction began with
abbrev pub origin_named : List TxnNow → List ℕ → Option ℕ
origin_named txns token = option_map (λ t. t.txn.origin) (txn_named token txns)

-- the first of these transactions that began with the record of this number
abbrev pub carried_by_origin : List TxnNow → List Carried → ℤ → Option (List ℕ)
carried_by_origin txns carried number = option_map (λ c. c.txn) (find (λ c. is_number number (origin_named txns c.txn)) carried)

-- no byte of the user's token is 0, if there is a transaction
abbrev pub is_plain_txn : Option TxnNow → Bool
is_plain_txn None = true
is_plain_txn (Some t) = has_no_zero t.txn.user

-- the same of the transaction of a token
abbrev pub named_plain : List TxnNow → List ℕ → Bool
named_plain txns token = is_plain_txn (txn_named token txns)

-- no user's token has a byte 0
abbrev pub ArePlain : List TxnNow → Type 0
ArePlain txns = list_all (λ t. has_no_zero t.txn.user) txns ≡ true

-- a counter, with its span among these transactions
abbrev pub counter_shown : List TxnNow → Counted → Counter
counter_shown txns c = record { control = c.control; user = c.user; span = span_at txns c.window c.number; used = c.used }

-- the span of a number, with the transaction that is found by its first record
abbrev pub span_by : BTreeMap ℤ (List ℕ) → Window → ℤ → Span
span_by origins window.Transaction n = span.Txn (unwrap_or (get int_cmp origins n) [])
span_by origins window.Day n = span.Number n
span_by origins window.Week n = span.Number n
span_by origins window.Month n = span.Number n
span_by origins window.Lifetime n = span.Number n

-- the transaction of a number is found, if the window is that of single transactions
abbrev pub is_span_known : BTreeMap ℤ (List ℕ) → Window → ℤ → Bool
is_span_known origins window.Transaction n = is_some (get int_cmp origins n)
is_span_known origins window.Day n = true
is_span_known origins window.Week n = true
is_span_known origins window.Month n = true
is_span_known origins window.Lifetime n = true

-- a counter has its span among these first records
abbrev pub has_span : BTreeMap ℤ (List ℕ) → Counted → Bool
has_span origins c = is_span_known origins c.window c.number

-- a counter, with its span by these first records
abbrev pub counter_by : BTreeMap ℤ (List ℕ) → Counted → Counter
counter_by origins c = record { control = c.control; user = c.user; span = span_by origins c.window c.number; used = c.used }
