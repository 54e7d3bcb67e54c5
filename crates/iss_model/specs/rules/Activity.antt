-- Transactions, calls to the gateway and notices, read from the rows of the book.
use Rattle.std.specs.Prelude.{ℕ, Bool, false, not, ◌==◌, List, find, filter, map, slice_get, Option, Some, None, is_none, if◌then◌else◌}
use Rattle.std.specs.List.{filter_map, list_any}
use Rattle.std.specs.Str.{bytes_eq}
use Rattle.iss_model.specs.declared.call.Opened.{Opened}
use Rattle.iss_model.specs.declared.call.How.{How}
use Rattle.iss_model.specs.declared.call.Notice.{Notice}
use Rattle.iss_model.specs.declared.txn.Txn.{Txn}
use Rattle.iss_model.specs.declared.entry.Row.{Row}
use Rattle.iss_model.specs.declared.entry.Entry.{Entry}
use Rattle.iss_model.specs.declared.entry.Entry.TheVariants as entry

-- a transaction, and whether it is still live
pub record TxnNow : Type 0 where
  pub txn : Txn
  pub live : Bool

-- the transaction that an entry begins
abbrev pub txn_began : Entry → Option Txn
txn_began (entry.Began txn) = Some txn
txn_began _ = None

-- an entry ends this transaction
abbrev pub ends_txn : List ℕ → Entry → Bool
ends_txn token (entry.Ended txn) = bytes_eq txn token
ends_txn token _ = false

-- a transaction is live until it ends
abbrev pub txn_now : List Row → Txn → TxnNow
txn_now rows txn = record { txn = txn; live = not (list_any (λ row. ends_txn txn.token row.entry) rows) }

-- the transactions of the book, in the order in which they began
abbrev pub txns_of : List Row → List TxnNow
txns_of rows = map (txn_now rows) (filter_map (λ row. txn_began row.entry) rows)

-- the transaction of this token
abbrev pub txn_named : List ℕ → List TxnNow → Option TxnNow
txn_named token txns = find (λ t. bytes_eq t.txn.token token) txns

-- a call as it was opened, and how it was closed
pub record CallNow : Type 0 where
  pub opened : Opened
  pub how : Option How

-- the call that an entry opens
abbrev pub call_opened : Entry → Option Opened
call_opened (entry.Opened opened) = Some opened
call_opened _ = None

-- how an entry closes this call
abbrev pub call_closed : ℕ → Entry → Option How
call_closed number (entry.Closed call how) = if call.0 == number then Some how else None
call_closed number _ = None

-- a call is closed as its first closing row says
abbrev pub call_now : List Row → Opened → CallNow
call_now rows opened =
    record { opened = opened; how = slice_get (filter_map (λ row. call_closed opened.call.0 row.entry) rows) 0 }

-- the calls of the book, in the order of their numbers
abbrev pub calls_of : List Row → List CallNow
calls_of rows = map (call_now rows) (filter_map (λ row. call_opened row.entry) rows)

-- the call of this number
abbrev pub call_numbered : ℕ → List CallNow → Option CallNow
call_numbered number calls = find (λ c. c.opened.call.0 == number) calls

-- a call is asked until it is closed
abbrev pub is_asked : CallNow → Bool
is_asked c = is_none c.how

-- the notice that an entry makes
abbrev pub notice_made : Entry → Option Notice
notice_made (entry.Notice notice) = Some notice
notice_made _ = None

-- the notices of the book, in the order of their numbers
abbrev pub notices_of : List Row → List Notice
notices_of rows = filter_map (λ row. notice_made row.entry) rows

-- an entry acknowledges this notice
abbrev pub acknowledges : ℕ → Entry → Bool
acknowledges number (entry.Acked notice) = notice == number
acknowledges number _ = false

-- the notices that aren't acknowledged yet
abbrev pub pending_of : List Row → List Notice
pending_of rows = filter (λ notice. not (list_any (λ row. acknowledges notice.number row.entry) rows)) (notices_of rows)
