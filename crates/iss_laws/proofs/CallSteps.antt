-- What a step leaves of calls. Each is closed as often as it was asked and is asked no more. Each that failed or was abandoned has its
-- notice, and each that is funded its post.
use Rattle.std.proofs.Common.{◌≡◌, ℕ, ◌+◌, true, false, List, ◌++◌, fold, refl, ap, ◌∙◌, arith}
use Rattle.std.specs.List.{list_all}
use Rattle.std.proofs.lemmas.List.Sums.{fold-append}
use Rattle.iss_model.specs.declared.entry.Entry.{Entry}
use Rattle.iss_model.specs.declared.input.Input.{Input}
use Rattle.iss_model.specs.declared.input.Record.{Record}
use Rattle.iss_model.specs.Forms.{is_in_form}
use Rattle.iss_model.specs.rules.Due.{thing_entries}
use Rattle.iss_model.specs.rules.Facts.{Facts}
use Rattle.iss_model.specs.rules.Stepping.{entries_of, step}
use Rattle.iss_model.specs.state.Cores.{CoreState, after_entry, core_facts, core_keeper, no_core, with_record}
use Rattle.iss_state.specs.Sound.{IsNewEvent}
use Rattle.iss_state.specs.Pending.{AreAllowed, HasTakenUp, IsWell}
use Rattle.iss_state.proofs.calls.Steps.{due_allowed, own_allowed, ready_settled, ready_taken}
use Rattle.iss_laws.specs.CallEntries.{closes, may_open, opens, opens_none, times_among}
use Rattle.iss_laws.specs.Pairs.{Pairing, paired, pairing_after}
use Rattle.iss_laws.specs.Payable.{ArePayable, CallsStand, asked_at}
use Rattle.iss_laws.proofs.CallCounting.{among_append, entries_count}
use Rattle.iss_acts.specs.Causes.{ComesOf, FallsDue}
use Rattle.iss_acts.proofs.Stepping.{step_holds, GoesThrough, step_leads}
use Rattle.iss_acts.proofs.Walk.{due_holds}
use Rattle.iss_laws.proofs.CallActs.{Voids, all_open_none, all_void}
use Rattle.iss_laws.proofs.Opening.{own_payable}
use Rattle.iss_laws.proofs.Pairing.{own_pairs, thing_pairs}
use Rattle.iss_laws.proofs.Payable.{calls_stand, entries_payable, entries_stand, none_needed, stand_then}

-- a record that was taken up still is after each due thing
abbrev GoesOn : (CoreState → List Entry → CoreState → Type 0) → Input → ℕ → Type 0
GoesOn R i at = GoesThrough (λ s. HasTakenUp s i) R i at

-- counts ----

-- A number is closed as often as its call was asked or is opened, and isn't asked then.
pub record Counts (s : CoreState) (es : List Entry) (later : CoreState) : Type 0 where
  pub counted : (n : ℕ) → times_among (closes n) es + asked_at later.calls n ≡ asked_at s.calls n + times_among (opens n) es

counts_then : (s t u : CoreState) (xs ys : List Entry) → Counts s xs t → Counts t ys u → Counts s (xs ++ ys) u
counts_then s t u xs ys h k =
    record {
      counted = λ n.
          add (times_among (closes n) (xs ++ ys)) (times_among (closes n) xs) (times_among (closes n) ys) (asked_at u.calls n) (asked_at t.calls n) (asked_at s.calls n)
          (times_among (opens n) (xs ++ ys)) (times_among (opens n) xs) (times_among (opens n) ys)
          (among_append (closes n) xs ys) (among_append (opens n) xs ys) (h.counted n) (k.counted n);
    }
  where
    add : (closed c1 c2 last middle first opened o1 o2 : ℕ) → closed ≡ c1 + c2 → opened ≡ o1 + o2 → c1 + middle ≡ first + o1 → c2 + last ≡ middle + o2 → closed + last ≡ first + opened
    add closed c1 c2 last middle first opened o1 o2 a b h k = omega (arith, a, b, h, k)

-- entries that may be entered count so
allowed_counts : (s : CoreState) (i : Input) (es : List Entry) → HasTakenUp s i → AreAllowed s es → Counts s es (fold after_entry s es)
allowed_counts s i es ready allowed = record { counted = λ n. entries_count s es n allowed ready.well.calls.numbers }

counts_through : (i : Input) (at : ℕ) → GoesOn Counts i at
counts_through i at =
    record {
      none = λ s. record { counted = λ n. omega arith };
      then = counts_then;
      due = λ s thing ready. allowed_counts s i (thing_entries thing at (core_facts s)) ready (due_allowed s i thing at ready);
      own = λ s ready. allowed_counts s i (entries_of i at (core_facts s)) ready (own_allowed s i at ready);
      stays = λ s thing ready. ready_settled s i thing at ready;
    }

pub step_counts : (s : CoreState) (r : Record) → IsNewEvent s r.input → IsWell s → Counts (with_record s r) (step core_keeper s r).entries (step core_keeper s r).world
step_counts s r new well = step_leads s r (counts_through r.input r.at) (ready_taken s r well new)

-- after a step a number has as many void notices as closings that want one
pub step_voids : (n : ℕ) (s : CoreState) (r : Record) → Voids n (step core_keeper s r).entries
step_voids n s r = step_holds core_keeper s r (λ f. all_void) (λ f. all_void)

-- an input that opens no call makes no entry that opens one, nor does what falls due before it
pub step_opens_none : (s : CoreState) (r : Record) → may_open r.input ≡ false → list_all opens_none (step core_keeper s r).entries ≡ true
step_opens_none s r other = (step_holds core_keeper s r (λ f. all_open_none FallsDue refl) (λ f. all_open_none (ComesOf r.input) other)).all

-- payments ----

-- Calls stand, payable as before; and closings and posts come in pairs, by facts of a later time.
pub record Pays (f : Facts) (m : ℕ) (s : CoreState) (es : List Entry) (later : CoreState) : Type 0 where
  pub stand : CallsStand s.calls later.calls
  pub payable : ArePayable s → ArePayable later
  pub pairs : CallsStand later.calls f.calls → ArePayable s → fold (pairing_after f m) paired es ≡ paired

module _ (f : Facts) (m : ℕ) where
  pays_then : (s t u : CoreState) (xs ys : List Entry) → Pays f m s xs t → Pays f m t ys u → Pays f m s (xs ++ ys) u
  pays_then s t u xs ys h k =
      record {
        stand = stand_then s.calls t.calls u.calls h.stand k.stand;
        payable = λ before. k.payable (h.payable before);
        pairs = λ agrees before.
            fold-append (pairing_after f m) paired xs ys
            ∙ ap (λ (p : Pairing). fold (pairing_after f m) p ys) (h.pairs (stand_then t.calls u.calls f.calls k.stand agrees) before)
            ∙ k.pairs agrees (h.payable before);
      }

  pays_through : (i : Input) (at : ℕ) → is_in_form i ≡ true → GoesOn (Pays f m) i at
  pays_through i at form =
      record {
        none = λ s. record { stand = calls_stand s.calls; payable = λ before. before; pairs = λ agrees before. refl };
        then = pays_then;
        due = λ s thing ready.
            let es : List Entry = thing_entries thing at (core_facts s) in
            record {
              stand = entries_stand s es;
              payable = entries_payable s es (none_needed s es (due_holds (core_facts s) thing at (all_open_none FallsDue refl)).all);
              pairs = λ agrees before. thing_pairs f m s thing at (stand_then s.calls (fold after_entry s es).calls f.calls (entries_stand s es) agrees) before;
            };
        own = λ s ready.
            let es : List Entry = entries_of i at (core_facts s) in
            record {
              stand = entries_stand s es;
              payable = entries_payable s es (own_payable s i at form ready);
              pairs = λ agrees before. own_pairs f m s i at form (stand_then s.calls (fold after_entry s es).calls f.calls (entries_stand s es) agrees) before;
            };
        stays = λ s thing ready. ready_settled s i thing at ready;
      }

  pub step_pays : (s : CoreState) (r : Record) → is_in_form r.input ≡ true → IsNewEvent s r.input → IsWell s → Pays f m (with_record s r) (step core_keeper s r).entries (step core_keeper s r).world
  step_pays s r form new well = step_leads s r (pays_through r.input r.at form) (ready_taken s r well new)

-- without a record no call stands
pub nothing_payable : ArePayable no_core
nothing_payable n c e = cc
