-- Names that are kept once, and calls with the places of their names.
use Rattle.std.specs.Prelude.{◌≡◌, ℕ, zero, suc, List, [], ◌∷◌, slice_get, Option, None, IsSome}
use Rattle.iss_index.specs.Grown.{name_in}
use Rattle.iss_model.specs.rules.Activity.{CallNow}
use Rattle.iss_call.specs.declared.orders.Orders.{Orders}
use Rattle.iss_call.specs.declared.rows.CallRow.{CallRow}
use Rattle.iss_call.specs.declared.rows.TxnName.{TxnName}
use Rattle.iss_call.specs.declared.rows.TxnName.TheVariants.{OfEvent, Other}
use Rattle.iss_call.specs.Orders.{AreOrdered, id_of}

-- the name of a transaction, which may be its event's
abbrev pub txn_in : List (List ℕ) → List ℕ → TxnName → List ℕ
txn_in names event OfEvent = event
txn_in names event (Other place) = name_in names place

-- the call of a row and its number, over these names
abbrev pub call_in : List (List ℕ) → ℕ → CallRow → CallNow
call_in names number row =
    record {
      opened = record {
        call = id_of number;
        event = row.event;
        txn = txn_in names row.event row.txn;
        method = row.method;
        card = name_in names row.card;
        user = name_in names row.user;
        currency = row.currency;
        mcc = row.mcc;
        mid = name_in names row.mid;
        amount = row.amount;
        partial = row.partial;
        at = row.at;
        deadline = row.deadline;
      };
      how = row.how;
    }

-- a transaction that isn't named as its event has a name at its place
abbrev pub IsTxnNamed : List (List ℕ) → TxnName → Type 0
IsTxnNamed names OfEvent = Unit {0}
IsTxnNamed names (Other place) = IsSome (slice_get names place)

-- each place of a row has its name
pub record IsNamed (names : List (List ℕ)) (row : CallRow) : Type 0 where
  pub card : IsSome (slice_get names row.card)
  pub user : IsSome (slice_get names row.user)
  pub mid : IsSome (slice_get names row.mid)
  pub txn : IsTxnNamed names row.txn

-- each place of each row has its name
abbrev pub AreNamed : List (List ℕ) → List CallRow → Type 0
AreNamed names [] = Unit {0}
AreNamed names (row ∷ rows) = IsNamed names row × AreNamed names rows

-- the calls of rows, numbered one after the other from this number
abbrev pub calls_in : List (List ℕ) → ℕ → List CallRow → List CallNow
calls_in names number [] = []
calls_in names number (row ∷ rows) = call_in names number row ∷ calls_in names (suc number) rows

-- the row of a number, counted from 1
abbrev pub row_numbered : List CallRow → ℕ → Option CallRow
row_numbered rows zero = None
row_numbered rows (suc place) = slice_get rows place

-- each row has its names, and the orders hold the asked calls
pub record AreKept (names : List (List ℕ)) (rows : List CallRow) (orders : Orders) : Type 0 where
  pub named : AreNamed names rows
  pub ordered : AreOrdered (calls_in names 1 rows) orders
