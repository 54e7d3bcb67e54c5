-- If entries are entered, each fits, each notice is the next one, and sums stay small.
use Rattle.std.specs.Prelude.{Some}
use Rattle.std.proofs.Common.{List, [], ap, arith, length, refl, sym, true, ℕ, ◌+◌, ◌<◌, ◌^◌, ◌∙◌, ◌∷◌, ◌≡◌, ◌≤◌}
use Rattle.std.proofs.lemmas.Int.{ints}
use Rattle.iss_model.specs.declared.call.How.TheVariants as how
use Rattle.iss_model.specs.declared.entry.Entry.{Entry}
use Rattle.iss_model.specs.declared.entry.Entry.TheVariants as entry
use Rattle.iss_model.specs.declared.input.Input.{Input}
use Rattle.iss_model.specs.declared.input.Input.TheVariants as input
use Rattle.iss_model.specs.declared.input.Record.{Record}
use Rattle.iss_model.specs.declared.limits.TheConstants.{MOST_RECORDS}
use Rattle.iss_model.specs.declared.setting.Moved.TheVariants as moved
use Rattle.iss_model.specs.Forms.{is_in_form}
use Rattle.iss_model.specs.rules.Activity.{CallNow, call_numbered, is_asked}
use Rattle.iss_model.specs.rules.Due.{DueThing, thing_entries}
use Rattle.iss_model.specs.rules.Histories.{IsLegal}
use Rattle.iss_model.specs.rules.Stepping.{entries_of}
use Rattle.iss_model.specs.state.Cores.{ControlKept, CoreState, after_entry, after_setting, core_facts, core_of}
use Rattle.iss_model.specs.state.Kept.{AreSmall, Kept, kept_at}
use Rattle.iss_state.specs.Bounds.{AreWithin, HaveCounted, IsWithin, SumsAreWithin}
use Rattle.iss_state.specs.Needs.{AllFit}
use Rattle.iss_state.proofs.effects.Abandonment.{least_one}
use Rattle.iss_state.proofs.effects.AskedCalls.{asked_after_close}
use Rattle.iss_state.specs.Entering.{AreEnterable, HaveCountedSmall, SumsAreSmall}
use Rattle.iss_state.specs.Numbers.{AreNumberedFrom}
use Rattle.iss_state.specs.Sound.{AreInForm, IsReady, IsSoundAt, reach_of}
use Rattle.iss_state.proofs.invariants.Legal.{records_sound}
use Rattle.iss_state.proofs.invariants.Notices.{own_numbered, thing_numbered}
use Rattle.iss_state.proofs.invariants.OwnEntries.{own_enters}
use Rattle.iss_state.proofs.invariants.Settled.{thing_enters}
use Rattle.iss_state.proofs.invariants.Sound.{AllAreWithin}

-- ---- sums within the reach of records are small

within_small : (n m : ℕ) (sums : Kept) → n ≤ MOST_RECORDS → m ≤ reach_of n → AreWithin m sums → AreSmall sums
within_small n m sums room le within key =
    let w : IsWithin m (kept_at sums key) = within key in
    let below : m < 2 ^ 62 = omega (arith, room, le) in
    record { low = omega (arith, ints, w.low, below); high = omega (arith, ints, w.high, below) }

counted_small : (n m : ℕ) (cs : List ControlKept) → n ≤ MOST_RECORDS → m ≤ reach_of n → HaveCounted m cs → HaveCountedSmall cs
counted_small n m [] room le h = tt
counted_small n m (c ∷ cs) room le h = (within_small n m c.amounts room le h.0, (within_small n m c.times room le h.1.0, counted_small n m cs room le h.1.1))

sums_small : (n m u : ℕ) (s : CoreState) → n ≤ MOST_RECORDS → m ≤ reach_of n → u ≤ reach_of n → SumsAreWithin m u s → SumsAreSmall s
sums_small n m u s room le also h =
    record {
      balances = within_small n m s.balances room le h.balances;
      held = within_small n m s.holdings.held room le h.held;
      parts = within_small n m s.holdings.parts room le h.parts;
      cleared = within_small n m s.txn_sums.cleared room le h.cleared;
      refunded = within_small n m s.txn_sums.refunded room le h.refunded;
      paid = within_small n m s.txn_sums.paid room le h.paid;
      stood = within_small n u s.stand_ins.stood room also h.stood;
      controls = counted_small n u s.controls room also h.controls;
    }

pub sound_small : (n : ℕ) (s : CoreState) → n ≤ MOST_RECORDS → IsSoundAt n s → SumsAreSmall s
sound_small n s room h = sums_small n h.money h.used s room (omega (arith, h.money_within)) (omega (arith, h.use_within)) h.within

pub records_small : (rs : List Record) → length rs ≤ MOST_RECORDS → IsLegal rs → AreInForm rs → SumsAreSmall (core_of rs)
records_small rs room legal form = sound_small (length rs) (core_of rs) room (records_sound rs legal form)

-- what a call asks is at stake, so it is small
pub asked_small : (n : ℕ) (s : CoreState) (number : ℕ) (c : CallNow) → n ≤ MOST_RECORDS → IsSoundAt n s → call_numbered number s.calls ≡ Some c → is_asked c ≡ true → c.opened.amount < 2 ^ 62
asked_small n s number c room h found asked =
    omega (arith, room, h.money_within, asked_after_close number how.Abandoned s.calls c found asked, least_one c.opened.amount)

-- ---- entries one by one

bounded_small : (n : ℕ) (s : CoreState) → n ≤ MOST_RECORDS → SumsAreWithin (reach_of n) (reach_of n) s → SumsAreSmall s
bounded_small n s room h = sums_small n (reach_of n) (reach_of n) s room (omega arith) (omega arith) h

setting_made : (s : CoreState) (i : Input) → (after_setting s i).outbox.made ≡ s.outbox.made
setting_made s (input.Move token (moved.Card card to)) = refl
setting_made s (input.Move token (moved.User user to)) = refl
setting_made s _ = refl

enterable : (n : ℕ) (s : CoreState) (es : List Entry) (k : ℕ) → n ≤ MOST_RECORDS → k ≡ s.outbox.made + 1 → AllFit s es → AreNumberedFrom k es → AllAreWithin (reach_of n) s es → AreEnterable s es
enterable n s [] k room e fit numbered within = tt
enterable n s (entry.Notice notice ∷ es) k room e fit numbered within = (
  record { fit = tt; next = numbered.0 ∙ e; small = bounded_small n (after_entry s (entry.Notice notice)) room within.0 },
  enterable n (after_entry s (entry.Notice notice)) es (k + 1) room (ap (λ (m : ℕ). m + 1) e) fit.1 numbered.1 within.1,
)
enterable n s (entry.Conf i ∷ es) k room e fit numbered within = (
  record { fit = fit.0; next = tt; small = bounded_small n (after_setting s i) room within.0 },
  enterable n (after_setting s i) es k room (e ∙ ap (λ (m : ℕ). m + 1) (sym (setting_made s i))) fit.1 numbered within.1,
)
enterable n s (x ∷ es) k room e fit numbered within = (
  record { fit = fit.0; next = tt; small = bounded_small n (after_entry s x) room within.0 },
  enterable n (after_entry s x) es k room e fit.1 numbered within.1,
)

pub due_enterable : (n : ℕ) (s : CoreState) (thing : DueThing) (at : ℕ) → n ≤ MOST_RECORDS → IsSoundAt n s → AreEnterable s (thing_entries thing at (core_facts s))
due_enterable n s thing at room h =
    let all = thing_enters n s thing at h in
    enterable n s (thing_entries thing at (core_facts s)) (s.outbox.made + 1) room refl all.fit (thing_numbered (core_facts s) thing at) all.within

pub own_enterable : (n : ℕ) (s : CoreState) (i : Input) (at : ℕ) → n < MOST_RECORDS → is_in_form i ≡ true → IsReady n s i → AreEnterable s (entries_of i at (core_facts s))
own_enterable n s i at room form ready =
    let all = own_enters n s i at form ready in
    enterable (n + 1) s (entries_of i at (core_facts s)) (s.outbox.made + 1) (omega (arith, room)) refl all.fit (own_numbered (core_facts s) i at) all.within
