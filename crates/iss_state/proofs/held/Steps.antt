-- A step keeps what transactions hold well, and ends no transaction that had ended.
use Rattle.std.proofs.Common.{subst, sym, ◌≡◌, ℕ, ◌+◌, ◌≤◌, List, [], ◌++◌, fold, ap, arith}
use Rattle.std.specs.Prelude.{ℤ, pos, Option, Some, unwrap_or}
use Rattle.std.specs.Cmp.Lexicographic.{slice_cmp}
use Rattle.std.specs.FinMap as finite
use Rattle.std.specs.Ordering.{nat_cmp}
use Rattle.std.proofs.lemmas.Int.{ints}
use Rattle.iss_model.specs.declared.entry.Entry.{Entry}
use Rattle.iss_model.specs.declared.input.Input.{Input}
use Rattle.iss_model.specs.declared.input.Record.{Record}
use Rattle.iss_model.specs.Sums.{part_key}
use Rattle.iss_model.specs.rules.Activity.{CallNow, call_numbered}
use Rattle.iss_model.specs.rules.Due.{DueThing, thing_entries}
use Rattle.iss_model.specs.rules.Histories.{IsLegal}
use Rattle.iss_model.specs.rules.Stepping.{entries_of, step}
use Rattle.iss_model.specs.state.Cores.{CoreState, after_entry, core_facts, core_keeper, core_of, no_core, with_record}
use Rattle.iss_model.specs.state.Kept.{kept_at, nothing_kept}
use Rattle.iss_state.specs.Sound.{IsNewEvent}
use Rattle.iss_state.proofs.invariants.Legal.{legal_induction}
use Rattle.iss_state.specs.Pending.{HasTakenUp, IsWell}
use Rattle.iss_state.proofs.calls.Legal.{nothing_well}
use Rattle.iss_state.proofs.calls.Steps.{due_allowed, own_allowed, ready_settled, ready_taken, step_well}
use Rattle.iss_state.specs.Holdings.{IsHeldWell, ended_times, ends_left}
use Rattle.iss_state.proofs.held.Changes.{entries_held}
use Rattle.iss_state.proofs.held.Ends.{ended_append, entries_left}
use Rattle.iss_state.proofs.held.Inputs.{own_keeps, thing_keeps}
use Rattle.iss_acts.proofs.Stepping.{GoesThrough, step_leads}
use Rattle.iss_state.proofs.held.Times.{entries_now, stamp_by_now}

-- a due thing or a record's own entries ----

pub thing_held : (s : CoreState) (i : Input) (thing : DueThing) (at : ℕ) → HasTakenUp s i → IsHeldWell s → IsHeldWell (fold after_entry s (thing_entries thing at (core_facts s)))
thing_held s i thing at ready held = entries_held s (thing_entries thing at (core_facts s)) (thing_keeps ready.before s thing at ready.well held) held

pub own_held : (s : CoreState) (i : Input) (at : ℕ) → at ≤ s.now → HasTakenUp s i → IsHeldWell s → IsHeldWell (fold after_entry s (entries_of i at (core_facts s)))
own_held s i at early ready held = entries_held s (entries_of i at (core_facts s)) (own_keeps s i at early ready held) held

-- a step ----

-- a record of this stamp was taken up, and all is held well
record IsHeldReady (i : Input) (at : ℕ) (s : CoreState) : Type 0 where
  early : at ≤ s.now
  taken : HasTakenUp s i
  held : IsHeldWell s

-- all is held well later, and no transaction ended that had ended
record Ends (s : CoreState) (es : List Entry) (later : CoreState) : Type 0 where
  held : IsHeldWell s → IsHeldWell later
  left : (token : List ℕ) → ends_left later.holdings.txns token + ended_times token es ≤ ends_left s.holdings.txns token

ends_then : (s t u : CoreState) (xs ys : List Entry) → Ends s xs t → Ends t ys u → Ends s (xs ++ ys) u
ends_then s t u xs ys h k =
    record {
      held = λ held. k.held (h.held held);
      left = λ token.
          omega (arith, ended_append token xs ys, k.left token, h.left token);
    }

ends_through : (i : Input) (at : ℕ) → GoesThrough (IsHeldReady i at) Ends i at
ends_through i at =
    record {
      none = λ s. record { held = λ held. held; left = λ token. omega arith };
      then = ends_then;
      due = λ s thing ready. record { held = thing_held s i thing at ready.taken; left = λ token. entries_left s (thing_entries thing at (core_facts s)) token (due_allowed s i thing at ready.taken) };
      own = λ s ready. record { held = own_held s i at ready.early ready.taken; left = λ token. entries_left s (entries_of i at (core_facts s)) token (own_allowed s i at ready.taken) };
      stays = λ s thing ready. record {
        early = subst (λ (n : ℕ). at ≤ n) (sym (entries_now s (thing_entries thing at (core_facts s)))) ready.early;
        taken = ready_settled s i thing at ready.taken;
        held = thing_held s i thing at ready.taken ready.held;
      };
    }

step_ends : (s : CoreState) (r : Record) → IsNewEvent s r.input → IsWell s → IsHeldWell s → Ends (with_record s r) (step core_keeper s r).entries (step core_keeper s r).world
step_ends s r new well held = step_leads s r (ends_through r.input r.at) (record { early = stamp_by_now s r; taken = ready_taken s r well new; held = held })

pub step_held : (s : CoreState) (r : Record) → IsNewEvent s r.input → IsWell s → IsHeldWell s → IsHeldWell (step core_keeper s r).world
step_held s r new well held = (step_ends s r new well held).held held

-- a step ends a transaction only if it may still end
pub step_left : (s : CoreState) (r : Record) (token : List ℕ) → IsNewEvent s r.input → IsWell s → IsHeldWell s
    → ends_left (step core_keeper s r).world.holdings.txns token + ended_times token (step core_keeper s r).entries ≤ ends_left s.holdings.txns token
step_left s r token new well held = (step_ends s r new well held).left token

-- every legal list of records ----

none_stands : {Q : Type 0} (n : ℕ) (c : CallNow) → call_numbered n [] ≡ Some c → Q
none_stands n c e = cc

nothing_there : (key : List ℕ) → kept_at nothing_kept key ≡ pos 0
nothing_there key = ap (λ (o : Option ℤ). unwrap_or o (pos 0)) (finite.get-empty (slice_cmp nat_cmp) key)

pub nothing_held : IsHeldWell no_core
nothing_held =
    record {
      not_negative = λ token p. omega (arith, ints, nothing_there (part_key token p));
      ended = λ token dead p. nothing_there (part_key token p);
      pending = λ n c now first. none_stands n c now.stands;
      funded = λ token p out. nothing_there (part_key token p);
      asked = λ n c now. none_stands n c now.stands;
    }

-- a state of legal records is well, and all is held well in it
pub record HoldsWell (s : CoreState) : Type 0 where
  pub well : IsWell s
  pub held : IsHeldWell s

pub core_held : (rs : List Record) → IsLegal rs → HoldsWell (core_of rs)
core_held rs legal =
    legal_induction (λ rs s. HoldsWell s) (record { well = nothing_well; held = nothing_held })
    (λ rs r new h. record { well = step_well (core_of rs) r new h.well; held = step_held (core_of rs) r new h.well h.held }) rs legal
