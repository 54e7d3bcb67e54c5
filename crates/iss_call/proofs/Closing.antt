-- A call that is closed, in its row.
use Rattle.std.proofs.Common.{◌≡◌, ℕ, zero, suc, ◌+◌, ◌<◌, ◌≤◌, true, List, map, length, set, get_or, refl, sym, ap, ◌∙◌, subst, arith}
use Rattle.std.specs.Prelude.{Option, Some, None, slice_get}
use Rattle.std.specs.Option.{option_map}
use Rattle.std.specs.BTreeMap.{is_at}
use Rattle.std.specs.Set.{remove_key}
use Rattle.std.proofs.lemmas.Option.{slice_get_within, slice_get-get_or}
use Rattle.iss_model.specs.declared.call.How.{How}
use Rattle.iss_model.specs.declared.call.CallState.TheVariants as call_state
use Rattle.iss_model.specs.rules.Activity.{CallNow, is_asked}
use Rattle.iss_model.specs.state.Cores.{call_after_close}
use Rattle.iss_call.specs.declared.orders.Orders.{Orders}
use Rattle.iss_call.specs.declared.rows.CallRow.{CallRow}
use Rattle.iss_call.specs.States.{call_state_of, state_in}
use Rattle.iss_call.specs.Orders.{AreNumbered, AreOrdered, by_deadline, by_txn}
use Rattle.iss_call.specs.Named.{txn_in, IsNamed, AreNamed, AreKept, call_in, calls_in}
use Rattle.iss_call.proofs.Numbered.{found_at, none_at_0, asked_in_state, closed_at}
use Rattle.iss_call.proofs.AskedKeys.{ordered_less}
use Rattle.iss_call.proofs.Named.{numbered_in, calls_length, call_at, row_named, named_set, calls_set, closed_row, closed_named}

unknown_apart : call_state.Unknown ≡ call_state.Asked → ⊥
unknown_apart e = cc

pub asked_from : (cs : List CallNow) (n : ℕ) → AreNumbered 1 cs → state_in cs n ≡ call_state.Asked → 1 ≤ n
asked_from cs zero a e = absurd (unknown_apart (sym (ap call_state_of (none_at_0 cs a)) ∙ e))
asked_from cs (suc n) a e = omega arith

there : (cs : List CallNow) (i : ℕ) (o : Option CallNow) → slice_get cs i ≡ o → call_state_of o ≡ call_state.Asked → i < length cs
there cs i None at e = absurd (unknown_apart e)
there cs i (Some c) at e = slice_get_within cs i c at

-- an asked call has a row
pub asked_within : (ns : List (List ℕ)) (rows : List CallRow) (n i : ℕ) → n ≡ i + 1 → state_in (calls_in ns 1 rows) n ≡ call_state.Asked → i < length rows
asked_within ns rows n i e h =
    let inside = there (calls_in ns 1 rows) i (slice_get (calls_in ns 1 rows) i) refl (ap call_state_of (sym (found_at (calls_in ns 1 rows) i n e (numbered_in ns 1 rows))) ∙ h) in
    omega (arith, inside, calls_length ns 1 rows)

-- an asked call of this number, and its row
record IsAskedAt (ns : List (List ℕ)) (rows : List CallRow) (n i : ℕ) (row : CallRow) : Type 0 where
  pub stands : slice_get rows i ≡ Some row
  pub is_there : slice_get (calls_in ns 1 rows) i ≡ Some (call_in ns n row)
  pub asked : is_asked (call_in ns n row) ≡ true

asked_at : (ns : List (List ℕ)) (rows : List CallRow) (n i : ℕ) (row d : CallRow) → n ≡ i + 1 → state_in (calls_in ns 1 rows) n ≡ call_state.Asked → row ≡ get_or rows i d → IsAskedAt ns rows n i row
asked_at ns rows n i row d e h same =
    let stands : slice_get rows i ≡ Some row = slice_get-get_or rows i d (asked_within ns rows n i e h) ∙ ap (λ (y : CallRow). Some y) (sym same) in
    let at : slice_get (calls_in ns 1 rows) i ≡ Some (call_in ns n row) = call_at ns 1 rows i n (omega (arith, e)) ∙ ap (option_map (call_in ns n)) stands in
    record {
      stands = stands;
      is_there = at;
      asked = asked_in_state (call_in ns n row) (ap call_state_of (sym at) ∙ ap call_state_of (sym (found_at (calls_in ns 1 rows) i n e (numbered_in ns 1 rows))) ∙ h);
    }

-- the names of an asked call's row
pub asked_named : (ns : List (List ℕ)) (rows : List CallRow) (n i : ℕ) (row d : CallRow) → n ≡ i + 1 → AreNamed ns rows → state_in (calls_in ns 1 rows) n ≡ call_state.Asked → row ≡ get_or rows i d
    → IsNamed ns row
asked_named ns rows n i row d e a h same = row_named ns rows i row a (asked_at ns rows n i row d e h same).stands

-- the list when an asked call is closed
pub list_closed : (ns : List (List ℕ)) (rows : List CallRow) (n i : ℕ) (row d : CallRow) (how : How) → n ≡ i + 1 → state_in (calls_in ns 1 rows) n ≡ call_state.Asked → row ≡ get_or rows i d
    → calls_in ns 1 (set rows i (closed_row how row)) ≡ map (call_after_close n how) (calls_in ns 1 rows)
list_closed ns rows n i row d how e h same =
    let at = asked_at ns rows n i row d e h same in
    calls_set ns 1 rows i (closed_row how row) n (omega (arith, e))
    ∙ sym (closed_at 1 (calls_in ns 1 rows) i (call_in ns n row) n how (omega (arith, e)) (numbered_in ns 1 rows) at.is_there at.asked)

-- what is kept when an asked call is closed
pub kept_closed : (ns : List (List ℕ)) (rows : List CallRow) (old new : Orders) (n i : ℕ) (row d : CallRow) (how : How) → n ≡ i + 1 → AreKept ns rows old
    → state_in (calls_in ns 1 rows) n ≡ call_state.Asked → row ≡ get_or rows i d
    → new.deadlines.keys ≡ remove_key (is_at (by_deadline (row.deadline, n))) old.deadlines.keys
    → new.txns.keys ≡ remove_key (is_at (by_txn (txn_in ns row.event row.txn, n))) old.txns.keys
    → AreKept ns (set rows i (closed_row how row)) new
kept_closed ns rows old new n i row d how e a h same deadlines txns =
    let at = asked_at ns rows n i row d e h same in
    record {
      named = named_set ns rows i (closed_row how row) a.named (closed_named how row (row_named ns rows i row a.named at.stands));
      ordered =
          subst (λ (cs : List CallNow). AreOrdered cs new) (sym (calls_set ns 1 rows i (closed_row how row) n (omega (arith, e))))
          (ordered_less (calls_in ns 1 rows) old new i (call_in ns n row) how a.ordered at.is_there at.asked deadlines txns);
    }
