-- What the lists of a state must be to be read again: each number has room in its bytes, and each name passes a test.
use Rattle.std.specs.Prelude.{ℕ, ◌^◌, ℤ, pos, negsuc, Bool, true, false, not, ◌&&◌, ◌==◌, nat_lt, List, length, Option, Some, None, if◌then◌else◌}
use Rattle.std.specs.List.{list_all}
use Rattle.std.specs.Str.{bytes_eq}
use Rattle.iss_model.specs.declared.account.Account.{Account}
use Rattle.iss_model.specs.declared.account.Account.TheVariants as account
use Rattle.iss_model.specs.declared.call.CallId.{CallId}
use Rattle.iss_model.specs.declared.call.Method.{Method}
use Rattle.iss_model.specs.declared.call.Method.TheVariants as method
use Rattle.iss_model.specs.declared.call.Notice.{Notice}
use Rattle.iss_model.specs.declared.counted.Counter.{Counter}
use Rattle.iss_model.specs.declared.counted.Span.{Span}
use Rattle.iss_model.specs.declared.counted.Span.TheVariants as span
use Rattle.iss_model.specs.declared.counted.Stood.{Stood}
use Rattle.iss_model.specs.declared.currency.Currency.{Currency}
use Rattle.iss_model.specs.declared.setting.Window.{Window}
use Rattle.iss_model.specs.declared.state.Carried.{Carried}
use Rattle.iss_model.specs.declared.state.Saldo.{Saldo}
use Rattle.iss_model.specs.declared.state.TxnSums.{TxnSums}
use Rattle.iss_model.specs.declared.txn.Used.{Used}
use Rattle.iss_model.specs.Currencies.{same_currency}
use Rattle.iss_image_lists.specs.Runs.{Run, runs_of}
use Rattle.iss_image_lists.specs.Taking.{counts_txns}

-- a number that `width` bytes can hold
abbrev pub has_room : ℕ → ℕ → Bool
has_room width n = nat_lt n (256 ^ width)

-- a whole number that 8 bytes can hold in two's complement
abbrev pub is_signed : ℤ → Bool
is_signed (pos n) = nat_lt n (2 ^ 63)
is_signed (negsuc n) = nat_lt n (2 ^ 63)

-- a list whose length 4 bytes can hold, each thing of this form
abbrev pub is_list : {A : Type 0} → (A → Bool) → List A → Bool
is_list form things = has_room 4 (length things) && list_all form things

-- the sums of a transaction have room
abbrev pub are_sums : TxnSums → Bool
are_sums sums =
    has_room 8 sums.g && has_room 8 sums.p && has_room 8 sums.s && has_room 8 sums.cleared && has_room 8 sums.refunded && has_room 8 sums.paid

-- what a control has counted has room
abbrev pub is_used : Used → Bool
is_used used = is_signed used.amount && is_signed used.count

-- what a notice may be about: not an ask
abbrev pub is_notice_method : Method → Bool
is_notice_method method.Authorization = false
is_notice_method method.Incremental = false
is_notice_method method.Void = true
is_notice_method method.StandIn = true
is_notice_method method.Reversal = true
is_notice_method method.Capture = true
is_notice_method method.Refund = true
is_notice_method method.Expiry = true

-- a call's number isn't 0, and has room
abbrev pub is_call : Option CallId → Bool
is_call None = true
is_call (Some call) = not (call.0 == 0) && has_room 4 call.0

-- a span is a single transaction
abbrev pub is_txn_span : Span → Bool
is_txn_span (span.Number n) = false
is_txn_span (span.Txn token) = true

-- a control with this window has spans of this kind
abbrev pub fits_window : Option Window → Span → Bool
fits_window None s = false
fits_window (Some window) s = if counts_txns window then is_txn_span s else not (is_txn_span s)

-- a transaction is this user's, in this currency
abbrev pub is_held_by : List ℕ → Currency → Option (List ℕ × Currency) → Bool
is_held_by user currency None = false
is_held_by user currency (Some holder) = bytes_eq holder.0 user && same_currency holder.1 currency

-- What holds tokens, with `is_name` as the test of each.
module _ (is_name : List ℕ → Bool) where
  -- a transaction with its sums
  abbrev pub is_txn : Carried → Bool
  is_txn t = is_name t.txn && are_sums t.sums

  -- transactions
  abbrev pub are_txns : List Carried → Bool
  are_txns txns = is_list is_txn txns

  -- an account
  abbrev pub is_account : Account → Bool
  is_account (account.Gateway currency) = true
  is_account (account.Network currency) = true
  is_account (account.Programme currency) = true
  is_account (account.User user currency) = is_name user

  -- an account with its balance
  abbrev pub is_balance : Saldo → Bool
  is_balance b = is_account b.account && is_signed b.amount

  -- balances
  abbrev pub are_balances : List Saldo → Bool
  are_balances balances = is_list is_balance balances

  -- a span
  abbrev pub is_span : Span → Bool
  is_span (span.Number n) = is_signed n
  is_span (span.Txn token) = is_name token

  -- a counter; its span is a transaction exactly if its control counts by transactions
  abbrev pub is_counter : (List ℕ → Option Window) → Counter → Bool
  is_counter window_of k =
      is_name k.user && is_span k.span && is_used k.used && fits_window (window_of k.control) k.span

  -- a control with its counters
  abbrev pub is_run : (List ℕ → Option Window) → Run → Bool
  is_run window_of run = is_name run.control && is_list (is_counter window_of) run.counters

  -- counters, cut into runs of one control each
  abbrev pub are_counters : (List ℕ → Option Window) → List Counter → Bool
  are_counters window_of counters = is_list (is_run window_of) (runs_of counters)

  -- what the programme stood in with for a product's user on a day
  abbrev pub is_sum : Stood → Bool
  is_sum x = is_name x.product && is_name x.user && is_signed x.day && has_room 8 x.amount

  -- sums of stand-ins
  abbrev pub are_sums_of_stand_ins : List Stood → Bool
  are_sums_of_stand_ins sums = is_list is_sum sums

  -- a notice; its user and its currency are its transaction's
  abbrev pub is_notice : (List ℕ → Option (List ℕ × Currency)) → Notice → Bool
  is_notice holder_of n =
      has_room 4 n.number && is_notice_method n.method && is_name n.txn && is_call n.call && has_room 8 n.amount && has_room 8 n.gateway
      && is_held_by n.user n.currency (holder_of n.txn)

  -- notices
  abbrev pub are_notices : (List ℕ → Option (List ℕ × Currency)) → List Notice → Bool
  are_notices holder_of notices = is_list (is_notice holder_of) notices
