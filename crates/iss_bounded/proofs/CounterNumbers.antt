-- Counters of a control, asked calls and live transactions are no more than three for each record, on cores and on states.
use Rattle.std.proofs.Common.{◌+◌, ◌+ℤ◌, ◌∷◌, ◌≤◌, ℕ, ℤ, pos, neg_ℤ, ap, arith, Bool, cond, false, fold, List, [], map, refl, true}
use Rattle.std.specs.Prelude.{◌≤ℤ◌}
use Rattle.std.proofs.lemmas.Int.{ints}
use Rattle.iss_model.specs.declared.entry.Entry.{Entry}
use Rattle.iss_model.specs.declared.entry.Entry.TheVariants as entry
use Rattle.iss_model.specs.declared.input.Input.{Input}
use Rattle.iss_model.specs.declared.input.Record.{Record}
use Rattle.iss_model.specs.declared.txn.UsageRow.{UsageRow}
use Rattle.iss_model.specs.rules.Controls.{ControlPut, counts, span_key}
use Rattle.iss_model.specs.rules.Due.{DueThing, thing_acts, thing_entries}
use Rattle.iss_model.specs.rules.Stepping.{acts_of, after_due, entries_of, step}
use Rattle.iss_model.specs.state.Cores.{ControlKept, CoreState, after_entry, after_setting, control_after_use, core_facts, core_keeper, with_record}
use Rattle.iss_model.specs.state.Kept.{after_changes, kept_at}
use Rattle.iss_acts.proofs.Stepping.{due_stays}
use Rattle.iss_state.specs.Pending.{HasTakenUp, IsWell}
use Rattle.iss_state.specs.Sound.{IsNewEvent}
use Rattle.iss_state.proofs.calls.Steps.{due_allowed, own_allowed, ready_settled, ready_taken}
use Rattle.iss_bounded.proofs.CounterPrices.{number_price, row_within}
use Rattle.iss_bounded.proofs.CounterRows.{input_costs, thing_costs}
use Rattle.iss_bounded.proofs.NumberLoads.{less_within, load_brought, load_moves, lower, number_load}
use Rattle.iss_bounded.proofs.Prices.{Goes, MayCome, all_go, all_may, total_price}
use Rattle.iss_bounded.proofs.StoodNumbers.{kept_number, none_kept_yet, number_with}
use Rattle.iss_bounded.proofs.UseBounds.{CountAtMost, Reads, after_set, after_use, counted_more}

-- what is counted ----

abbrev pub number_read : ControlKept → List ℕ → ℤ
number_read k key = pos (kept_number k.amounts)

numbers_read : Reads number_read (λ row. 1)
numbers_read =
    record {
      put = λ k c key. refl;
      none = λ n c key. ap (λ (n : ℕ). pos n) none_kept_yet;
      used = λ groups row k key. by k row (counts groups (record { number = k.first; control = k.control }) row) (record { number = k.first; control = k.control });
    }
  where
    some : (n m : ℕ) → m ≤ n + 1 → pos m ≤ℤ (pos n +ℤ pos 1)
    some n m h = omega (arith, ints, h)

    same : (n : ℕ) → pos n ≤ℤ (pos n +ℤ pos 1)
    same n = omega (arith, ints)

    by : (k : ControlKept) (row : UsageRow) (b : Bool) (put : ControlPut)
        → pos (kept_number (after_changes k.amounts (cond b (record { key = span_key put.control put.control.window row; by = row.amount } ∷ []) []))) ≤ℤ (pos (kept_number k.amounts) +ℤ pos 1)
    by k row true put = some (kept_number k.amounts) _ (number_with k.amounts (span_key put.control put.control.window row) (kept_at k.amounts (span_key put.control put.control.window row) +ℤ row.amount))
    by k row false put = same (kept_number k.amounts)

pub record CountersWithin (n : ℤ) (s : CoreState) : Type 0 where
  pub its : CountAtMost number_read (n +ℤ neg_ℤ (pos (number_load s))) s.controls

within_more : (m n : ℤ) (s : CoreState) → m ≤ℤ n → CountersWithin m s → CountersWithin n s
within_more m n s le h = record { its = counted_more numbers_read (m +ℤ neg_ℤ (pos (number_load s))) (n +ℤ neg_ℤ (pos (number_load s))) (both m n (number_load s) le) s.controls h.its }
  where
    both : (m n : ℤ) (a : ℕ) → m ≤ℤ n → (m +ℤ neg_ℤ (pos a)) ≤ℤ (n +ℤ neg_ℤ (pos a))
    both m n a le = omega (arith, ints, le)

entry_moves : (n : ℤ) (s : CoreState) (e : Entry) → MayCome s e → Unit {0} → CountersWithin n s → CountersWithin (n +ℤ number_price e) (after_entry s e)
entry_moves n s (entry.Conf i) may known h =
    record {
      its = counted_more numbers_read (n +ℤ neg_ℤ (pos (number_load s))) _ (lower n (number_load s) (number_load (after_setting s i)) (pos 0) (load_moves s (entry.Conf i) may))
          (after_setting s i).controls (after_set numbers_read s i (n +ℤ neg_ℤ (pos (number_load s))) h.its);
    }
entry_moves n s (entry.Usage row) may known h =
    record {
      its = counted_more numbers_read ((n +ℤ neg_ℤ (pos (number_load s))) +ℤ pos 1) _ (used n (number_load s)) (map (control_after_use s.groups (entry.Usage row)) s.controls) (after_use numbers_read s.groups row (n +ℤ neg_ℤ (pos (number_load s))) s.controls h.its);
    }
  where
    used : (n : ℤ) (a : ℕ) → ((n +ℤ neg_ℤ (pos a)) +ℤ pos 1) ≤ℤ ((n +ℤ pos 1) +ℤ neg_ℤ (pos a))
    used n a = omega (arith, ints)
entry_moves n s e may known h =
    record { its = counted_more numbers_read (n +ℤ neg_ℤ (pos (number_load s))) _ (lower n (number_load s) (number_load (after_entry s e)) (load_brought e) (load_moves s e may)) s.controls h.its }

entries_go : Goes MayCome CountersWithin (λ s. Unit {0}) number_price
entries_go = record { knew = λ s e h. tt; moves = entry_moves }

-- steps ----

due_within : (n : ℤ) (s : CoreState) (i : Input) (thing : DueThing) (at : ℕ) → HasTakenUp s i → CountersWithin n s → CountersWithin n (fold after_entry s (thing_entries thing at (core_facts s)))
due_within n s i thing at ready h =
    let es : List Entry = thing_entries thing at (core_facts s) in
    within_more (n +ℤ total_price number_price es) n (fold after_entry s es) (less n (total_price number_price es) (row_within (thing_acts thing at (core_facts s)) (thing_costs (core_facts s) thing at)))
    (all_go entries_go n s es (all_may s es (due_allowed s i thing at ready)) tt h)
  where
    less : (n z : ℤ) → (z +ℤ pos 0) ≤ℤ pos 0 → (n +ℤ z) ≤ℤ n
    less n z h = omega (arith, ints, h)

own_within : (n : ℤ) (s : CoreState) (i : Input) (at : ℕ) → HasTakenUp s i → CountersWithin n s → CountersWithin (n +ℤ pos 3) (fold after_entry s (entries_of i at (core_facts s)))
own_within n s i at ready h =
    let es : List Entry = entries_of i at (core_facts s) in
    within_more (n +ℤ total_price number_price es) (n +ℤ pos 3) (fold after_entry s es) (less_within n (total_price number_price es) 3 (row_within (acts_of i at (core_facts s)) (input_costs (core_facts s) i at)))
    (all_go entries_go n s es (all_may s es (own_allowed s i at ready)) tt h)

pub counters_step : (n : ℤ) (s : CoreState) (r : Record) → IsWell s → IsNewEvent s r.input → CountersWithin n s → CountersWithin (n +ℤ pos 3) (step core_keeper s r).world
unfolding step
counters_step n s r well new h =
    let due = due_stays (λ s. HasTakenUp s r.input × CountersWithin n s) r.at (λ s thing h. (ready_settled s r.input thing r.at h.0, due_within n s r.input thing r.at h.0 h.1)) (with_record s r) (ready_taken s r well new, record { its = h.its }) in
    own_within n (after_due core_keeper (with_record s r) r.at).world r.input r.at due.0 due.1
