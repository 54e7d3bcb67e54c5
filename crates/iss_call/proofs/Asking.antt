-- A call that is asked, in a row of its own, and rows whose names have grown.
use Rattle.std.proofs.Common.{◌≡◌, ℕ, ◌+◌, ◌<◌, ◌^◌, List, [], ◌∷◌, ◌++◌, length, sym, ap, ◌∙◌, subst, arith}
use Rattle.std.specs.Prelude.{None}
use Rattle.std.specs.BTreeSet.{insert_key}
use Rattle.iss_index.specs.Grown.{IsGrown}
use Rattle.iss_model.specs.declared.call.Opened.{Opened}
use Rattle.iss_model.specs.rules.Activity.{CallNow}
use Rattle.iss_call.specs.declared.orders.Orders.{Orders}
use Rattle.iss_call.specs.declared.rows.CallRow.{CallRow}
use Rattle.iss_call.specs.Orders.{AreOrdered, deadline_key, txn_key, by_deadline, by_txn}
use Rattle.iss_call.specs.Named.{IsNamed, AreNamed, AreKept, call_in, calls_in}
use Rattle.iss_call.proofs.AskedKeys.{ordered_same, ordered_more}
use Rattle.iss_call.proofs.Named.{calls_length, calls_push, calls_stay, all_stay, named_push}

-- the names alone have grown
pub calls_grown : {ns ms : List (List ℕ)} {rows same : List CallRow} → IsGrown ns ms → AreNamed ns rows → same ≡ rows → calls_in ms 1 same ≡ calls_in ns 1 rows
calls_grown {ns} {ms} {rows} {same} g a f = ap (λ (rs : List CallRow). calls_in ms 1 rs) f ∙ calls_stay 1 rows g a

pub kept_grown : {ns ms : List (List ℕ)} {rows same : List CallRow} (old new : Orders) → IsGrown ns ms → AreKept ns rows old → same ≡ rows
    → new.deadlines.keys ≡ old.deadlines.keys → new.txns.keys ≡ old.txns.keys → AreKept ms same new
kept_grown {ns} {ms} {rows} {same} old new g a f d t =
    record {
      named = subst (λ (rs : List CallRow). AreNamed ms rs) (sym f) (all_stay rows g a.named);
      ordered = subst (λ (cs : List CallNow). AreOrdered cs new) (sym (calls_grown g a.named f)) (ordered_same (calls_in ns 1 rows) old new a.ordered d t);
    }

-- one more call, over names that have grown
pub calls_asked : (ns ms : List (List ℕ)) (rows more : List CallRow) (row : CallRow) (o : Opened) → IsGrown ns ms → AreNamed ns rows
    → call_in ms o.call.0 row ≡ record { opened = o; how = None } → o.call.0 ≡ length (calls_in ns 1 rows) + 1 → more ≡ rows ++ row ∷ []
    → calls_in ms 1 more ≡ calls_in ns 1 rows ++ record { opened = o; how = None } ∷ []
calls_asked ns ms rows more row o g a e next f =
    let stay = calls_stay 1 rows g a in
    ap (λ (rs : List CallRow). calls_in ms 1 rs) f
    ∙ calls_push ms 1 rows row o.call.0 (omega (arith, next, calls_length ns 1 rows))
    ∙ (λ i. stay i ++ e i ∷ [])

pub kept_asked : {ns ms : List (List ℕ)} {rows more : List CallRow} (row : CallRow) (o : Opened) (old new : Orders) → IsGrown ns ms → AreKept ns rows old → IsNamed ms row
    → call_in ms o.call.0 row ≡ record { opened = o; how = None } → o.call.0 ≡ length (calls_in ns 1 rows) + 1 → o.call.0 < 2 ^ 32 → more ≡ rows ++ row ∷ []
    → new.deadlines.keys ≡ insert_key by_deadline old.deadlines.keys (deadline_key o)
    → new.txns.keys ≡ insert_key by_txn old.txns.keys (txn_key o)
    → AreKept ms more new
kept_asked {ns} {ms} {rows} {more} row o old new g a n e next small f d t =
    record {
      named = subst (λ (rs : List CallRow). AreNamed ms rs) (sym f) (named_push ms rows row (all_stay rows g a.named) n);
      ordered =
          subst (λ (cs : List CallNow). AreOrdered cs new) (sym (calls_asked ns ms rows more row o g a.named e next f))
          (ordered_more (calls_in ns 1 rows) old new o a.ordered next small d t);
    }
