-- The bytes of what a core keeps beside its events. All numbers are big-endian, and each list comes after its length.
-- How a token is spelled is a parameter of what holds tokens, so that a table can stand in for their texts.
use Rattle.std.specs.Prelude.{ℕ, ℤ, List, [], ◌∷◌, ◌++◌, length, Option, Some, None}
use Rattle.std.specs.Int.{w64, cast_unsigned}
use Rattle.std.specs.List.{flat_map}
use Rattle.iss_model.specs.declared.account.Account.{Account}
use Rattle.iss_model.specs.declared.account.Account.TheVariants as account
use Rattle.iss_model.specs.declared.call.CallId.{CallId}
use Rattle.iss_model.specs.declared.call.Method.{Method}
use Rattle.iss_model.specs.declared.call.Method.TheVariants as method
use Rattle.iss_model.specs.declared.call.Notice.{Notice}
use Rattle.iss_model.specs.declared.counted.Counter.{Counter}
use Rattle.iss_model.specs.declared.counted.Span.{Span}
use Rattle.iss_model.specs.declared.counted.Span.TheVariants as span
use Rattle.iss_model.specs.declared.counted.Stood.{Stood}
use Rattle.iss_model.specs.declared.state.Carried.{Carried}
use Rattle.iss_model.specs.declared.state.Saldo.{Saldo}
use Rattle.iss_model.specs.declared.state.TxnSums.{TxnSums}
use Rattle.iss_model.specs.declared.txn.Used.{Used}
use Rattle.iss_model.specs.Inputs.{flag_contents}
use Rattle.iss_model.specs.texts.Spelling.{number_bytes, currency_bytes}
use Rattle.iss_image_lists.specs.Runs.{Run, runs_of}

-- things one after the other, after how many they are in 4 bytes
abbrev pub list_bytes : {A : Type 0} → (A → List ℕ) → List A → List ℕ
list_bytes thing_bytes things = number_bytes 4 (length things) ++ flat_map thing_bytes things

-- a whole number in 8 bytes, in two's complement
abbrev pub signed_bytes : ℤ → List ℕ
signed_bytes z = number_bytes 8 (cast_unsigned w64 z)

-- the sums of a transaction: whether it is live, and then each sum
abbrev pub txn_sums_bytes : TxnSums → List ℕ
txn_sums_bytes sums =
    flag_contents sums.live ++ number_bytes 8 sums.g ++ number_bytes 8 sums.p ++ number_bytes 8 sums.s ++ number_bytes 8 sums.cleared
    ++ number_bytes 8 sums.refunded ++ number_bytes 8 sums.paid

-- what a control has counted
abbrev pub used_bytes : Used → List ℕ
used_bytes used = signed_bytes used.amount ++ signed_bytes used.count

-- what a notice is about, as a number; 0 stands for what no notice is about
abbrev pub notice_method_number : Method → ℕ
notice_method_number method.Authorization = 0
notice_method_number method.Incremental = 0
notice_method_number method.Void = 1
notice_method_number method.StandIn = 2
notice_method_number method.Reversal = 3
notice_method_number method.Capture = 4
notice_method_number method.Refund = 5
notice_method_number method.Expiry = 6

-- what a notice is about, in one byte
abbrev pub notice_method_bytes : Method → List ℕ
notice_method_bytes m = notice_method_number m ∷ []

-- the number of the call that a void ends; 0 stands for none
abbrev pub call_number : Option CallId → ℕ
call_number None = 0
call_number (Some call) = call.0

-- The spelling of what holds tokens, with each token as `token_bytes` spells it.
module _ (token_bytes : List ℕ → List ℕ) where
  -- a transaction with its sums
  abbrev pub txn_bytes : Carried → List ℕ
  txn_bytes t = token_bytes t.txn ++ txn_sums_bytes t.sums

  -- transactions
  abbrev pub txns_bytes : List Carried → List ℕ
  txns_bytes txns = list_bytes txn_bytes txns

  -- whose account it is, and its currency
  abbrev pub account_bytes : Account → List ℕ
  account_bytes (account.Gateway currency) = 1 ∷ currency_bytes currency
  account_bytes (account.Network currency) = 2 ∷ currency_bytes currency
  account_bytes (account.Programme currency) = 3 ∷ currency_bytes currency
  account_bytes (account.User user currency) = 4 ∷ token_bytes user ++ currency_bytes currency

  -- an account with its balance
  abbrev pub balance_bytes : Saldo → List ℕ
  balance_bytes b = account_bytes b.account ++ signed_bytes b.amount

  -- balances
  abbrev pub balances_bytes : List Saldo → List ℕ
  balances_bytes balances = list_bytes balance_bytes balances

  -- the number of a window, or a transaction's token after as many bytes 0 as make it as long as a number if it has 4 bytes
  abbrev pub span_bytes : Span → List ℕ
  span_bytes (span.Number n) = signed_bytes n
  span_bytes (span.Txn token) = number_bytes 4 0 ++ token_bytes token

  -- a counter but its control
  abbrev pub counted_bytes : Counter → List ℕ
  counted_bytes k = token_bytes k.user ++ span_bytes k.span ++ used_bytes k.used

  -- a control with its counters
  abbrev pub run_bytes : Run → List ℕ
  run_bytes run = token_bytes run.control ++ list_bytes counted_bytes run.counters

  -- counters, run by run of those that have one control
  abbrev pub counters_bytes : List Counter → List ℕ
  counters_bytes counters = list_bytes run_bytes (runs_of counters)

  -- what the programme stood in with for a product's user on a day
  abbrev pub sum_bytes : Stood → List ℕ
  sum_bytes x = token_bytes x.product ++ token_bytes x.user ++ signed_bytes x.day ++ number_bytes 8 x.amount

  -- sums of stand-ins
  abbrev pub sums_bytes : List Stood → List ℕ
  sums_bytes sums = list_bytes sum_bytes sums

  -- a notice but its user and its currency, which are its transaction's
  abbrev pub notice_bytes : Notice → List ℕ
  notice_bytes n =
      number_bytes 4 n.number ++ notice_method_bytes n.method ++ token_bytes n.txn ++ number_bytes 4 (call_number n.call)
      ++ number_bytes 8 n.amount ++ number_bytes 8 n.gateway

  -- notices
  abbrev pub notices_bytes : List Notice → List ℕ
  notices_bytes notices = list_bytes notice_bytes notices
