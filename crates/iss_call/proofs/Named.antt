-- Calls in rows whose names are kept once, as names are added and calls change.
use Rattle.std.proofs.Common.{◌≡◌, ℕ, zero, suc, ◌+◌, List, [], ◌∷◌, ◌++◌, length, set, refl, sym, ap, ◌∙◌, subst, arith}
use Rattle.std.specs.Prelude.{Option, Some, slice_get, unwrap_or}
use Rattle.std.specs.Option.{option_map}
use Rattle.iss_index.specs.Grown.{IsGrown}
use Rattle.iss_index.proofs.Grown.{slot_stays, some_stays}
use Rattle.iss_model.specs.declared.call.How.{How}
use Rattle.iss_model.specs.rules.Activity.{CallNow, call_numbered}
use Rattle.iss_call.specs.declared.rows.CallRow.{CallRow}
use Rattle.iss_call.specs.declared.rows.TxnName.{TxnName}
use Rattle.iss_call.specs.declared.rows.TxnName.TheVariants.{OfEvent, Other}
use Rattle.iss_call.specs.Orders.{AreNumbered}
use Rattle.iss_call.specs.Named.{txn_in, IsTxnNamed, IsNamed, AreNamed, call_in, calls_in, row_numbered}
use Rattle.iss_call.proofs.Numbered.{found_at, none_at_0}

-- ---- names that have grown leave calls as they are

txn_stays : {ns ms : List (List ℕ)} (event : List ℕ) (txn : TxnName) → IsGrown ns ms → IsTxnNamed ns txn → txn_in ms event txn ≡ txn_in ns event txn
txn_stays event OfEvent g n = refl
txn_stays event (Other place) g n = ap (λ (o : Option (List ℕ)). unwrap_or o []) (slot_stays place g n)

txn_named_stays : {ns ms : List (List ℕ)} (txn : TxnName) → IsGrown ns ms → IsTxnNamed ns txn → IsTxnNamed ms txn
txn_named_stays OfEvent g n = tt
txn_named_stays (Other place) g n = some_stays place g n

call_stays : {ns ms : List (List ℕ)} (number : ℕ) (row : CallRow) → IsGrown ns ms → IsNamed ns row → call_in ms number row ≡ call_in ns number row
call_stays number row g n =
    let card = slot_stays row.card g n.card in
    let user = slot_stays row.user g n.user in
    let mid = slot_stays row.mid g n.mid in
    let txn = txn_stays row.event row.txn g n.txn in
    λ i. record {
      opened = record {
        call = record { 0 = number };
        event = row.event;
        txn = txn i;
        method = row.method;
        card = unwrap_or (card i) [];
        user = unwrap_or (user i) [];
        currency = row.currency;
        mcc = row.mcc;
        mid = unwrap_or (mid i) [];
        amount = row.amount;
        partial = row.partial;
        at = row.at;
        deadline = row.deadline;
      };
      how = row.how;
    }

row_stays : {ns ms : List (List ℕ)} (row : CallRow) → IsGrown ns ms → IsNamed ns row → IsNamed ms row
row_stays row g n =
    record { card = some_stays row.card g n.card; user = some_stays row.user g n.user; mid = some_stays row.mid g n.mid; txn = txn_named_stays row.txn g n.txn }

pub calls_stay : {ns ms : List (List ℕ)} (k : ℕ) (rows : List CallRow) → IsGrown ns ms → AreNamed ns rows → calls_in ms k rows ≡ calls_in ns k rows
calls_stay k [] g a = refl
calls_stay {ns} {ms} k (row ∷ rows) g a =
    let one = call_stays k row g a.0 in
    let rest = calls_stay (suc k) rows g a.1 in
    λ i. one i ∷ rest i

pub all_stay : {ns ms : List (List ℕ)} (rows : List CallRow) → IsGrown ns ms → AreNamed ns rows → AreNamed ms rows
all_stay [] g a = tt
all_stay (row ∷ rows) g a = (row_stays row g a.0, all_stay rows g a.1)

-- ---- one more row

pub named_push : (ns : List (List ℕ)) (rows : List CallRow) (row : CallRow) → AreNamed ns rows → IsNamed ns row → AreNamed ns (rows ++ row ∷ [])
named_push ns [] row a n = (n, tt)
named_push ns (first ∷ rows) row a n = (a.0, named_push ns rows row a.1 n)

pub calls_push : (ns : List (List ℕ)) (k : ℕ) (rows : List CallRow) (row : CallRow) (n : ℕ) → n ≡ k + length rows → calls_in ns k (rows ++ row ∷ []) ≡ calls_in ns k rows ++ call_in ns n row ∷ []
calls_push ns k [] row n e = ap (λ (m : ℕ). call_in ns m row ∷ []) (omega (arith, e))
calls_push ns k (first ∷ rows) row n e = ap (λ (cs : List CallNow). call_in ns k first ∷ cs) (calls_push ns (suc k) rows row n (omega (arith, e)))

-- ---- what stands at a number

pub calls_length : (ns : List (List ℕ)) (k : ℕ) (rows : List CallRow) → length (calls_in ns k rows) ≡ length rows
calls_length ns k [] = refl
calls_length ns k (row ∷ rows) = ap (λ (n : ℕ). suc n) (calls_length ns (suc k) rows)

-- the calls of rows are numbered
pub numbered_in : (ns : List (List ℕ)) (k : ℕ) (rows : List CallRow) → AreNumbered k (calls_in ns k rows)
numbered_in ns k [] = tt
numbered_in ns k (row ∷ rows) = (refl, numbered_in ns (suc k) rows)

pub call_at : (ns : List (List ℕ)) (k : ℕ) (rows : List CallRow) (i n : ℕ) → n ≡ k + i → slice_get (calls_in ns k rows) i ≡ option_map (call_in ns n) (slice_get rows i)
call_at ns k [] i n e = refl
call_at ns k (row ∷ rows) zero n e = ap (λ (m : ℕ). Some (call_in ns m row)) (omega (arith, e))
call_at ns k (row ∷ rows) (suc i) n e = call_at ns (suc k) rows i n (omega (arith, e))

-- the call of a number is the one of the row of that number
pub call_found : (ns : List (List ℕ)) (rows : List CallRow) (n : ℕ) → call_numbered n (calls_in ns 1 rows) ≡ option_map (call_in ns n) (row_numbered rows n)
call_found ns rows zero = none_at_0 (calls_in ns 1 rows) (numbered_in ns 1 rows)
call_found ns rows (suc i) = found_at (calls_in ns 1 rows) i (suc i) (omega arith) (numbered_in ns 1 rows) ∙ call_at ns 1 rows i (suc i) (omega arith)

-- the call of a row that is looked up
pub called : (ns : List (List ℕ)) (rows xs : List CallRow) (cs : List CallNow) (n : ℕ) (o : Option CallRow) → o ≡ row_numbered xs n → xs ≡ rows → calls_in ns 1 rows ≡ cs
    → option_map (call_in ns n) o ≡ call_numbered n cs
called ns rows xs cs n o e f view =
    ap (option_map (call_in ns n)) (e ∙ ap (λ (rs : List CallRow). row_numbered rs n) f)
    ∙ sym (call_found ns rows n) ∙ ap (call_numbered n) view

pub row_named : (ns : List (List ℕ)) (rows : List CallRow) (i : ℕ) (row : CallRow) → AreNamed ns rows → slice_get rows i ≡ Some row → IsNamed ns row
row_named ns [] i row a e = cc
row_named ns (first ∷ rows) zero row a e = let same : first ≡ row = cc in subst (λ (r : CallRow). IsNamed ns r) same a.0
row_named ns (first ∷ rows) (suc i) row a e = row_named ns rows i row a.1 e

pub numbered_named : (ns : List (List ℕ)) (rows xs : List CallRow) (n : ℕ) (row : CallRow) → AreNamed ns rows → Some row ≡ row_numbered xs n → xs ≡ rows → IsNamed ns row
numbered_named ns rows xs zero row a e f = cc
numbered_named ns rows xs (suc i) row a e f = row_named ns rows i row a (sym (e ∙ ap (λ (rs : List CallRow). slice_get rs i) f))

-- ---- a row that changes

pub named_set : (ns : List (List ℕ)) (rows : List CallRow) (i : ℕ) (row : CallRow) → AreNamed ns rows → IsNamed ns row → AreNamed ns (set rows i row)
named_set ns [] i row a n = tt
named_set ns (first ∷ rows) zero row a n = (n, a.1)
named_set ns (first ∷ rows) (suc i) row a n = (a.0, named_set ns rows i row a.1 n)

pub calls_set : (ns : List (List ℕ)) (k : ℕ) (rows : List CallRow) (i : ℕ) (row : CallRow) (n : ℕ) → n ≡ k + i → calls_in ns k (set rows i row) ≡ set (calls_in ns k rows) i (call_in ns n row)
calls_set ns k [] i row n e = refl
calls_set ns k (first ∷ rows) zero row n e = ap (λ (m : ℕ). call_in ns m row ∷ calls_in ns (suc k) rows) (omega (arith, e))
calls_set ns k (first ∷ rows) (suc i) row n e = ap (λ (cs : List CallNow). call_in ns k first ∷ cs) (calls_set ns (suc k) rows i row n (omega (arith, e)))

-- a row with how its call was closed
abbrev pub closed_row : How → CallRow → CallRow
closed_row how row = record row { how = Some how }

pub closed_named : {ns : List (List ℕ)} (how : How) (row : CallRow) → IsNamed ns row → IsNamed ns (closed_row how row)
closed_named how row n = record { card = n.card; user = n.user; mid = n.mid; txn = n.txn }
