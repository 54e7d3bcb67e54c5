-- How the bytes of what a core keeps beside its events are read again: each word takes a thing from the start, and returns it
-- with the bytes after it. How a token is taken is a parameter of what holds tokens, as it is in the spelling.
use Rattle.std.specs.Prelude.{ℕ, zero, suc, ℤ, Bool, true, false, ◌==◌, List, [], ◌∷◌, Option, Some, None, if◌then◌else◌}
use Rattle.std.specs.Int.{w64, cast_signed}
use Rattle.iss_model.specs.declared.account.Account.{Account}
use Rattle.iss_model.specs.declared.account.Account.TheVariants as account
use Rattle.iss_model.specs.declared.call.CallId.{CallId}
use Rattle.iss_model.specs.declared.call.Method.{Method}
use Rattle.iss_model.specs.declared.call.Method.TheVariants as method
use Rattle.iss_model.specs.declared.call.Notice.{Notice}
use Rattle.iss_model.specs.declared.counted.Counter.{Counter}
use Rattle.iss_model.specs.declared.counted.Span.{Span}
use Rattle.iss_model.specs.declared.counted.Span.TheVariants as span
use Rattle.iss_model.specs.declared.counted.Stood.{Stood}
use Rattle.iss_model.specs.declared.currency.Currency.{Currency}
use Rattle.iss_model.specs.declared.setting.Window.{Window}
use Rattle.iss_model.specs.declared.setting.Window.TheVariants as window
use Rattle.iss_model.specs.declared.state.Carried.{Carried}
use Rattle.iss_model.specs.declared.state.Saldo.{Saldo}
use Rattle.iss_model.specs.declared.state.TxnSums.{TxnSums}
use Rattle.iss_model.specs.declared.txn.Used.{Used}
use Rattle.iss_model.specs.Numbers.{of_number}
use Rattle.iss_codec.specs.Taking.{◌>>=◌, only, take_byte, take_number, take_formed, take_flag, take_numbered, take_currency}
use Rattle.iss_image_lists.specs.Spelling.{notice_method_number}
use Rattle.iss_image_lists.specs.Runs.{Run, counters_of, has_counters, are_apart}

-- n things, each as `take_thing` takes it
unfoldable pub take_things : {A : Type 0} → (List ℕ → Option (A × List ℕ)) → ℕ → List ℕ → Option (List A × List ℕ)
take_things take_thing zero bytes = Some ([], bytes)
take_things take_thing (suc n) bytes = do
  first ← take_thing bytes
  others ← take_things take_thing n first.1
  Some (first.0 ∷ others.0, others.1)

-- things after how many they are
unfoldable pub take_list : {A : Type 0} → (List ℕ → Option (A × List ℕ)) → List ℕ → Option (List A × List ℕ)
take_list take_thing bytes = do
  count ← take_number 4 bytes
  take_things take_thing count.0 count.1

-- a whole number in two's complement
unfoldable pub take_signed : List ℕ → Option (ℤ × List ℕ)
take_signed bytes = do
  number ← take_number 8 bytes
  Some (cast_signed w64 number.0, number.1)

-- the sums of a transaction
unfoldable pub take_txn_sums : List ℕ → Option (TxnSums × List ℕ)
take_txn_sums bytes = do
  live ← take_flag bytes
  g ← take_number 8 live.1
  p ← take_number 8 g.1
  s ← take_number 8 p.1
  cleared ← take_number 8 s.1
  refunded ← take_number 8 cleared.1
  paid ← take_number 8 refunded.1
  Some (record { live = live.0; g = g.0; p = p.0; s = s.0; cleared = cleared.0; refunded = refunded.0; paid = paid.0 }, paid.1)

-- what notices are about
abbrev pub notice_methods : List Method
notice_methods = method.Void ∷ method.StandIn ∷ method.Reversal ∷ method.Capture ∷ method.Refund ∷ method.Expiry ∷ []

-- what a notice is about, by its number
abbrev pub notice_method_numbered : ℕ → Option Method
notice_method_numbered n = of_number notice_method_number notice_methods n

-- what a notice is about
abbrev pub take_notice_method : List ℕ → Option (Method × List ℕ)
take_notice_method bytes = take_numbered notice_method_numbered bytes

-- the call of this number; none is 0
abbrev pub call_numbered : ℕ → Option CallId
call_numbered n = if n == 0 then None else Some (record { 0 = n })

-- the call that a void ends, if there is one
unfoldable pub take_call : List ℕ → Option (Option CallId × List ℕ)
take_call bytes = do
  number ← take_number 4 bytes
  Some (call_numbered number.0, number.1)

-- an account that is made of its currency alone
unfoldable pub take_common_account : (Currency → Account) → List ℕ → Option (Account × List ℕ)
take_common_account make bytes = do
  currency ← take_currency bytes
  Some (make currency.0, currency.1)

-- a control with this window counts by single transactions
abbrev pub counts_txns : Window → Bool
counts_txns window.Transaction = true
counts_txns window.Day = false
counts_txns window.Week = false
counts_txns window.Month = false
counts_txns window.Lifetime = false

-- a day, a week, a month or the lifetime as a span
unfoldable pub take_number_span : List ℕ → Option (Span × List ℕ)
take_number_span bytes = do
  number ← take_signed bytes
  Some (span.Number number.0, number.1)

-- what a control has counted
unfoldable pub take_used : List ℕ → Option (Used × List ℕ)
take_used bytes = do
  amount ← take_signed bytes
  count ← take_signed amount.1
  Some (record { amount = amount.0; count = count.0 }, count.1)

-- What holds tokens, with each token as `take_name` takes it.
module _ (take_name : List ℕ → Option (List ℕ × List ℕ)) where
  -- a transaction with its sums
  unfoldable pub take_txn : List ℕ → Option (Carried × List ℕ)
  take_txn bytes = do
    txn ← take_name bytes
    sums ← take_txn_sums txn.1
    Some (record { txn = txn.0; sums = sums.0 }, sums.1)

  -- transactions
  abbrev pub take_txns : List ℕ → Option (List Carried × List ℕ)
  take_txns bytes = take_list take_txn bytes

  -- a user's account
  unfoldable pub take_user_account : List ℕ → Option (Account × List ℕ)
  take_user_account bytes = do
    user ← take_name bytes
    currency ← take_currency user.1
    Some (account.User user.0 currency.0, currency.1)

  -- an account, by its first byte
  abbrev pub take_account_by : ℕ → List ℕ → Option (Account × List ℕ)
  take_account_by n bytes =
      if n == 1 then take_common_account account.Gateway bytes
      else if n == 2 then take_common_account account.Network bytes
      else if n == 3 then take_common_account account.Programme bytes
      else if n == 4 then take_user_account bytes
      else None

  -- an account
  unfoldable pub take_account : List ℕ → Option (Account × List ℕ)
  take_account bytes = do
    byte ← take_byte bytes
    take_account_by byte.0 byte.1

  -- an account with its balance
  unfoldable pub take_balance : List ℕ → Option (Saldo × List ℕ)
  take_balance bytes = do
    account ← take_account bytes
    amount ← take_signed account.1
    Some (record { account = account.0; amount = amount.0 }, amount.1)

  -- balances
  abbrev pub take_balances : List ℕ → Option (List Saldo × List ℕ)
  take_balances bytes = take_list take_balance bytes

  -- a transaction as a span
  unfoldable pub take_txn_span : List ℕ → Option (Span × List ℕ)
  take_txn_span bytes = do
    zeros ← take_formed 4 (λ n. n == 0) bytes
    token ← take_name zeros.1
    Some (span.Txn token.0, token.1)

  -- the span of a counter, if its control has this window
  abbrev pub take_span : Window → List ℕ → Option (Span × List ℕ)
  take_span window bytes = if counts_txns window then take_txn_span bytes else take_number_span bytes

  -- a counter of this control, whose window this is
  unfoldable pub take_counted : List ℕ → Window → List ℕ → Option (Counter × List ℕ)
  take_counted control window bytes = do
    user ← take_name bytes
    span ← take_span window user.1
    used ← take_used span.1
    Some (record { control = control; user = user.0; span = span.0; used = used.0 }, used.1)

  -- a control with its counters, of which there is one at least
  unfoldable pub take_run : (List ℕ → Option Window) → List ℕ → Option (Run × List ℕ)
  take_run window_of bytes = do
    control ← take_name bytes
    window ← window_of control.0
    counters ← take_list (take_counted control.0 window) control.1
    only has_counters (record { control = control.0; counters = counters.0 }, counters.1)

  -- counters, run by run, if no two runs next to each other have one control; `window_of` is the window of a control
  unfoldable pub take_counters : (List ℕ → Option Window) → List ℕ → Option (List Counter × List ℕ)
  take_counters window_of bytes = do
    runs ← take_list (take_run window_of) bytes
    apart ← only are_apart runs
    Some (counters_of apart.0, apart.1)

  -- what the programme stood in with for a product's user on a day
  unfoldable pub take_sum : List ℕ → Option (Stood × List ℕ)
  take_sum bytes = do
    product ← take_name bytes
    user ← take_name product.1
    day ← take_signed user.1
    amount ← take_number 8 day.1
    Some (record { product = product.0; user = user.0; day = day.0; amount = amount.0 }, amount.1)

  -- sums of stand-ins
  abbrev pub take_sums : List ℕ → Option (List Stood × List ℕ)
  take_sums bytes = take_list take_sum bytes

  -- a notice; `holder_of` is the user and the currency of a transaction
  unfoldable pub take_notice : (List ℕ → Option (List ℕ × Currency)) → List ℕ → Option (Notice × List ℕ)
  take_notice holder_of bytes = do
    number ← take_number 4 bytes
    method ← take_notice_method number.1
    txn ← take_name method.1
    holder ← holder_of txn.0
    call ← take_call txn.1
    amount ← take_number 8 call.1
    gateway ← take_number 8 amount.1
    Some (record { number = number.0; method = method.0; txn = txn.0; user = holder.0; currency = holder.1; call = call.0; amount = amount.0; gateway = gateway.0 }, gateway.1)

  -- notices
  abbrev pub take_notices : (List ℕ → Option (List ℕ × Currency)) → List ℕ → Option (List Notice × List ℕ)
  take_notices holder_of bytes = take_list (take_notice holder_of) bytes
