-- What holds of every core holds on the way through a step, and so each of its entries may be entered.
use Rattle.std.proofs.Common.{◌≡◌, ℕ, ◌+◌, ◌*◌, ◌^◌, ◌<◌, ◌≤◌, suc, zero, Bool, true, false, cond, not, ◌||◌, nat_lt, List, [], ◌∷◌, fold, find, is_some, filter, length, refl, sym, ap, ap₂, ◌&&◌, subst, ◌∙◌, arith}
use Rattle.std.specs.Prelude.{Option, Some, None, Result, Ok, Err, OnOk}
use Rattle.std.specs.List.{list_all}
use Rattle.std.proofs.lemmas.Bool.{and_parts}
use Rattle.std.proofs.lemmas.Bool.Decides.{nat_tests}
use Rattle.iss_model.specs.declared.limits.TheConstants.{GREATEST_AMOUNT, MOST_RECORDS}
use Rattle.iss_model.specs.declared.decision.Judged.TheVariants as judged
use Rattle.iss_model.specs.declared.input.Input.{Input}
use Rattle.iss_model.specs.declared.input.Record.{Record}
use Rattle.iss_model.specs.declared.entry.Entry.{Entry}
use Rattle.iss_model.specs.Forms.{is_in_form, is_stamp}
use Rattle.iss_model.specs.Inputs.{event_token, is_event}
use Rattle.iss_model.specs.rules.Activity.{CallNow, is_asked}
use Rattle.iss_model.specs.rules.Facts.{Accepted}
use Rattle.iss_model.specs.rules.Due.{DueThing, thing_entries}
use Rattle.iss_model.specs.rules.Judging.{judge}
use Rattle.iss_model.specs.rules.Stepping.{entries_of, step}
use Rattle.iss_model.specs.state.Cores.{CoreState, no_core, after_entry, with_record, core_facts, core_keeper}
use Rattle.iss_state.specs.Stakes.{total_asked, asked_amount, at_least_one}
use Rattle.iss_state.specs.Sound.{IsSoundAt, IsNewEvent}
use Rattle.iss_state.specs.Entering.{AreEnterable}
use Rattle.iss_state.specs.InForm.{IsInForm, is_entry_in_form}
use Rattle.iss_state.proofs.invariants.Kept.{entries_accepted, entries_count}
use Rattle.iss_state.proofs.invariants.Steps.{ready_with_record, ready_after_thing, step_sound, sound_begins}
use Rattle.iss_state.proofs.invariants.Enterable.{due_enterable, own_enterable}
use Rattle.iss_state.proofs.invariants.FormStates.{nothing_form, record_form, entries_form}
use Rattle.iss_state.proofs.invariants.FormEntries.{thing_formed, own_formed}
use Rattle.iss_state.proofs.invariants.NewEvents.{judged_new}
use Rattle.iss_state.specs.Pending.{IsWell, AreAllowed, decides_accepted}
use Rattle.iss_state.specs.Few.{HasFewNumbers}
use Rattle.iss_state.proofs.calls.Legal.{nothing_well}
use Rattle.iss_state.proofs.calls.Steps.{ready_taken, ready_settled, due_allowed, own_allowed, due_decides, own_decides, step_well}
use Rattle.iss_state.proofs.calls.FewSteps.{none_yet, few_taken, few_due, few_step}
use Rattle.iss_states.specs.Counted.{CountsTxns}
use Rattle.iss_states.proofs.CountedTxns.{nothing_counted, counted_all}
use Rattle.iss_core.specs.Order.{asks_little, IsInOrder}
use Rattle.iss_core.specs.Entering.{MayAllEnter}
use Rattle.iss_core.specs.Sound.{IsSound, IsTakenUp}
use Rattle.iss_core.specs.Sweeps.{HasOwnNames}

-- ---- entering

-- what each entry needs, gathered from what the laws tell of the list
pub gathered : (s : CoreState) (es : List Entry) → AreEnterable s es → AreAllowed s es → list_all is_entry_in_form es ≡ true → list_all (decides_accepted s.accepted) es ≡ true → MayAllEnter s es
gathered s [] enterable allowed formed decides = tt
gathered s (e ∷ es) enterable allowed formed decides =
    let form = and_parts (is_entry_in_form e) (list_all is_entry_in_form es) formed in
    let known = and_parts (decides_accepted s.accepted e) (list_all (decides_accepted s.accepted) es) decides in (
      record { enterable = enterable.0; allowed = allowed.0; formed = form.0; decides = known.0 },
      gathered (after_entry s e) es enterable.1 allowed.1 form.1
          (ap (λ (accepted : List Accepted). list_all (decides_accepted accepted) es) (entries_accepted s (e ∷ [])) ∙ known.1),
    )

below : (a b : ℕ) → a < b → a ≤ b
below a b h = omega arith

-- the entries of a due thing may be entered
pub due_may : (i : Input) (s : CoreState) (thing : DueThing) (at : ℕ) → IsTakenUp i s → is_stamp at ≡ true → MayAllEnter s (thing_entries thing at (core_facts s))
due_may i s thing at up stamp =
    gathered s (thing_entries thing at (core_facts s)) (due_enterable up.before s thing at (below up.before MOST_RECORDS up.room) up.ready.sound) (due_allowed s i thing at up.taken)
    (thing_formed s thing at up.forms stamp) (due_decides s i thing at up.taken)

-- the record's own entries may be entered
pub own_may : (i : Input) (s : CoreState) (at : ℕ) → IsTakenUp i s → is_in_form i ≡ true → is_stamp at ≡ true → MayAllEnter s (entries_of i at (core_facts s))
own_may i s at up form stamp =
    gathered s (entries_of i at (core_facts s)) (own_enterable up.before s i at up.room form up.ready) (own_allowed s i at up.taken)
    (own_formed s i at up.forms form stamp) (own_decides s i at up.taken)

-- ---- on the way through a step

-- a record of a new event is taken up
pub taken_up : (s : CoreState) (r : Record) → IsSound s → s.count < MOST_RECORDS → IsNewEvent s r.input → is_stamp r.at ≡ true → IsTakenUp r.input (with_record s r)
taken_up s r sound room new stamp =
    record {
      before = s.count;
      room = room;
      ready = ready_with_record s.count s r sound.within new;
      taken = ready_taken s r sound.well new;
      forms = record_form s r stamp sound.forms;
      few = few_taken s.count s r sound.few;
      counted = sound.counted;
    }

-- a due thing that is settled leaves the record taken up
pub stays_taken_up : (i : Input) (s : CoreState) (thing : DueThing) (at : ℕ) → IsTakenUp i s → is_stamp at ≡ true → IsTakenUp i (fold after_entry s (thing_entries thing at (core_facts s)))
stays_taken_up i s thing at up stamp =
    record {
      before = up.before;
      room = up.room;
      ready = ready_after_thing up.before s i thing at up.ready;
      taken = ready_settled s i thing at up.taken;
      forms = entries_form s (thing_entries thing at (core_facts s)) (thing_formed s thing at up.forms stamp) up.forms;
      few = few_due up.before s i thing at up.taken up.few;
      counted = counted_all s (thing_entries thing at (core_facts s)) (due_enterable up.before s thing at (below up.before MOST_RECORDS up.room) up.ready.sound) up.counted;
    }

-- once the entries of a due thing are entered, the record is still taken up
pub settled_up : {A E : Type 0} (result : Result A E) (i : Input) (s after : CoreState) (es : List Entry) (thing : DueThing) (at : ℕ) → OnOk result (after ≡ fold after_entry s es) → es ≡ thing_entries thing at (core_facts s)
    → IsTakenUp i s → is_stamp at ≡ true → OnOk result (IsTakenUp i after)
settled_up (Ok x) i s after es thing at entered same up stamp =
    subst (IsTakenUp i) (sym (entered ∙ ap (λ (entries : List Entry). fold after_entry s entries) same)) (stays_taken_up i s thing at up stamp)
settled_up (Err x) i s after es thing at entered same up stamp = tt

-- asked calls ask for no more than all of them together
little : (cs : List CallNow) (most : ℕ) → total_asked cs ≤ most → most < 2 ^ 62 → list_all asks_little cs ≡ true
little [] most le low = refl
little (c ∷ cs) most le low =
    ap₂ (λ (a b : Bool). a && b)
    (one (is_asked c) refl)
    (little cs most (rest (asked_amount c) (total_asked cs) le) low)
  where
    rest : (a b : ℕ) → a + b ≤ most → b ≤ most
    rest a b h = omega arith

    under : (n : ℕ) → at_least_one n + total_asked cs ≤ most → nat_lt n (2 ^ 62) ≡ true
    under zero h = refl
    under (suc n) h = grind (arith, nat_tests)

    one : (b : Bool) → is_asked c ≡ b → (not b || nat_lt c.opened.amount (2 ^ 62)) ≡ true
    one false e = refl
    one true e = under c.opened.amount (subst (λ (n : ℕ). n + total_asked cs ≤ most) (ap (λ (b : Bool). cond b (at_least_one c.opened.amount) 0) e) le)

-- what whoever makes entries relies on
pub in_order : (i : Input) (s : CoreState) → IsTakenUp i s → IsInOrder s
in_order i s up =
    let calls = up.few.calls in
    let notices = up.few.notices in
    let stakes = up.ready.sound.use_within in
    let room = up.room in
    record {
      forms = up.forms;
      amounts = little s.calls (up.before * (2 * GREATEST_AMOUNT)) (half up.before (total_asked s.calls) _ _ stakes) (far up.before room);
      notices = left s.outbox.made (length (filter is_asked s.calls)) _ up.before notices room;
      calls = fewer (length s.calls) up.before calls room;
    }
  where
    half : (n asked held used : ℕ) → used + (held + 2 * asked) ≤ n * (4 * GREATEST_AMOUNT) → asked ≤ n * (2 * GREATEST_AMOUNT)
    half n asked held used h = omega arith

    far : (n : ℕ) → n < MOST_RECORDS → n * (2 * GREATEST_AMOUNT) < 2 ^ 62
    far n h = omega arith

    left : (made asked live n : ℕ) → made + 2 * asked + live ≤ 4 * n → n < MOST_RECORDS → made + asked + 2 < 2 ^ 32
    left made asked live n h room = omega arith

    fewer : (calls n : ℕ) → calls ≤ n → n < MOST_RECORDS → calls + 1 < 2 ^ 32
    fewer calls n h room = omega arith

-- names are those of one thing
pub own_names : (i : Input) (s : CoreState) → IsTakenUp i s → HasOwnNames s
own_names i s up = record { tokens = up.taken.well.txns.tokens; numbers = up.taken.well.calls.numbers }

-- ---- what holds of every core

-- a core without a record
pub sound_at_first : IsSound no_core
sound_at_first = record { within = sound_begins; well = nothing_well; forms = nothing_form; few = none_yet; counted = nothing_counted }

-- a record that is next brings a new event
pub next_is_new : (s : CoreState) (r : Record) → judge core_keeper s r.input r.at ≡ judged.New r → IsNewEvent s r.input
next_is_new s r next = judged_new s r next

-- no event of the token of a record that is next was accepted
pub next_is_unknown : (s : CoreState) (r : Record) (token : List ℕ) → judge core_keeper s r.input r.at ≡ judged.New r → event_token r.input ≡ Some token
    → find (λ (a : Accepted). is_event token a.input) s.accepted ≡ None
next_is_unknown s r token next named = absent (find (λ (a : Accepted). is_event token a.input) s.accepted) (next_is_new s r next token named)
  where
    absent : (o : Option Accepted) → is_some o ≡ false → o ≡ None
    absent None h = refl
    absent (Some a) h = cc

-- a step leaves a sound core
pub sound_after : (s settled after : CoreState) (r : Record) → IsSound s → IsNewEvent s r.input → is_in_form r.input ≡ true → is_stamp r.at ≡ true → IsTakenUp r.input settled
    → after ≡ fold after_entry settled (entries_of r.input r.at (core_facts settled)) → after ≡ (step core_keeper s r).world → settled.count ≡ s.count + 1 → IsSound after
sound_after s settled after r sound new form stamp up made is count =
    let one_more : after.count ≡ s.count + 1 = ap (λ (x : CoreState). x.count) made ∙ entries_count settled (entries_of r.input r.at (core_facts settled)) ∙ count in
    record {
      within = subst (λ (n : ℕ). IsSoundAt n after) (sym one_more) (subst (IsSoundAt (s.count + 1)) (sym is) (step_sound s.count s r sound.within form new));
      well = subst IsWell (sym is) (step_well s r new sound.well);
      forms = subst IsInForm (sym made) (entries_form settled (entries_of r.input r.at (core_facts settled)) (own_formed settled r.input r.at up.forms form stamp) up.forms);
      few = subst (λ (n : ℕ). HasFewNumbers n after) (sym one_more) (subst (HasFewNumbers (s.count + 1)) (sym is) (few_step s.count s r sound.well new sound.few));
      counted =
          subst CountsTxns (sym made)
          (counted_all settled (entries_of r.input r.at (core_facts settled)) (own_enterable up.before settled r.input r.at up.room form up.ready) up.counted);
    }
