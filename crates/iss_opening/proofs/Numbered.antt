-- A record's entries number their calls and notices from 1, and so do all that then stand.
use Rattle.std.proofs.Common.{◌≡◌, ℕ, ◌+◌, nat_eq, nat_le, nat_lt, Bool, true, false, cond, ◌&&◌, not, List, [], ◌∷◌, ◌++◌, map, filter, fold, length, refl, ap, ap₂, arith, ◌∙◌}
use Rattle.std.specs.Prelude.{Option, Some, None, option_map, unwrap_or}
use Rattle.std.specs.List.{list_all}
use Rattle.std.proofs.lemmas.Bool.{and_parts}
use Rattle.std.proofs.lemmas.Bool.Decides.{nat_tests}
use Rattle.std.proofs.lemmas.List.Folds.{list_all-append}
use Rattle.iss_model.specs.declared.call.How.{How}
use Rattle.iss_model.specs.declared.call.Notice.{Notice}
use Rattle.iss_model.specs.declared.decision.Reason.{Reason}
use Rattle.iss_model.specs.declared.entry.Entry.{Entry}
use Rattle.iss_model.specs.declared.entry.Entry.TheVariants as entry
use Rattle.iss_model.specs.declared.input.Input.{Input}
use Rattle.iss_model.specs.declared.input.Input.TheVariants as input
use Rattle.iss_model.specs.declared.input.Record.{Record}
use Rattle.iss_model.specs.declared.setting.Moved.TheVariants as moved
use Rattle.iss_model.specs.declared.call.CallState.{CallState}
use Rattle.iss_model.specs.declared.setting.Product.{Product}
use Rattle.iss_model.specs.declared.state.Carried.{Carried}
use Rattle.iss_model.specs.declared.state.Seen.{Seen}
use Rattle.iss_model.specs.declared.state.State.{State}
use Rattle.iss_model.specs.rules.Asks.{Ask}
use Rattle.iss_model.specs.rules.Settings.{product_named}
use Rattle.iss_model.specs.declared.txn.Txn.{Txn}
use Rattle.iss_model.specs.rules.Activity.{CallNow, is_asked}
use Rattle.iss_model.specs.rules.Acts.{Abandons, Act, Asks, Fails, StandsIn, Tells, act_entries}
use Rattle.iss_model.specs.rules.Facts.{Facts}
use Rattle.iss_model.specs.rules.Keeper.{Keeper}
use Rattle.iss_model.specs.rules.Pieces.{abandoned_calls_entries, call_for}
use Rattle.iss_model.specs.rules.Stepping.{step}
use Rattle.iss_model.specs.state.Cores.{CoreState, after_entry, after_setting, call_after_close, core_facts, core_keeper, core_of, no_core}
use Rattle.iss_acts.specs.Causes.{Cause}
use Rattle.iss_acts.specs.Items.{Item, Opening, StandTelling, Telling, Voiding, has_item, item_entry, may_open_call, may_tell, may_tell_stand_in, may_void}
use Rattle.iss_acts.specs.Sources.{IsMade, IsNewNotice}
use Rattle.iss_acts.specs.Stages.{Stage}
use Rattle.iss_acts.proofs.Passing.{EachPasses, act_passes, both_pass, none_passes, one_passes, two_pass, where_passes}
use Rattle.iss_acts.proofs.Stepping.{step_holds}
use Rattle.iss_acts.proofs.Walk.{Holds, due_holds, own_holds}
use Rattle.iss_states.specs.Rebuilding.{ask_of_event, calls_marked, events_again, how_of_mark, is_done, rebuilt, with_event, with_seen}
use Rattle.iss_well_formed.specs.Notices.{AreToldWell, do_notices_rise}
use Rattle.iss_agreement.specs.Laws.{KeptBySteps}
use Rattle.iss_agreement.proofs.Keepers.{step-kept, steps-kept}
use Rattle.iss_opening.specs.Numbers.{AreNumbered, IsNumbered, is_from_one, is_numbered}

-- ---- numbers

-- what comes next is at least 1
next_from_one : (n : ℕ) → is_from_one (n + 1) ≡ true
next_from_one n = grind (arith, nat_tests)

-- what comes later is at least 1
later_from_one : (n k : ℕ) → is_from_one n ≡ true → is_from_one (n + k) ≡ true
later_from_one n k h = grind (arith, nat_tests)

new_from_one : (f : Facts) (n : ℕ) → IsNewNotice f n → is_from_one n ≡ true
new_from_one f n new = grind (arith, nat_tests)

-- ---- acts

-- these entries are numbered from 1
abbrev FromOne : List Entry → Type 0
FromOne es = EachPasses is_numbered es

-- an act that opens no call and tells nothing
silent : (a : Act) → may_open_call a ≡ false → may_void a ≡ false → may_tell_stand_in a ≡ false → may_tell a ≡ false → FromOne (act_entries a)
silent a opens voids stands tells = act_passes a each
  where
    each : (x : Item) → has_item a x ≡ true → is_numbered (item_entry x) ≡ true
    each (Opening o) may = cc
    each (Voiding n t o) may = cc
    each (StandTelling n t amount) may = cc
    each (Telling n news t amount gateway) may = cc
    each _ may = refl

abandoned_from_one : (n : ℕ) (t : Txn) (why : Reason) (calls : List CallNow) → is_from_one n ≡ true → FromOne (abandoned_calls_entries n t why calls)
abandoned_from_one n t why [] h = none_passes
abandoned_from_one n t why (c ∷ calls) h =
    two_pass refl (two_pass h (two_pass refl (two_pass refl (abandoned_from_one (n + 1) t why calls (later_from_one n 1 h)))))

module _ {f : Facts} {by : Cause} {at : ℕ} where
  act_from_one : (g : Stage) (a : Act) → IsMade f by at g a → FromOne (act_entries a)
  act_from_one g (Asks h product ask) made = one_passes (next_from_one (length h.calls))
  act_from_one g (Fails n o t why) made = two_pass refl (one_passes (new_from_one f n made.from.2))
  act_from_one g (StandsIn n ask when set) made =
      two_pass refl
      (both_pass (both_pass (where_passes ask.amount (one_passes refl)) (where_passes ask.amount (one_passes refl)))
      (two_pass (new_from_one f n made.from.3) (one_passes refl)))
  act_from_one g (Abandons n t why calls parts) made = abandoned_from_one n t why calls (new_from_one f n made.from.3)
  act_from_one g (Tells n news t amount gateway) made = one_passes (new_from_one f n made.from.2)
  act_from_one g a made = silent a refl refl refl refl

  from_one : Holds f by at (EachPasses is_numbered)
  from_one = record { none = none_passes; then = both_pass; act = act_from_one }

pub entries_numbered : {W : Type 0} (k : Keeper W) (w : W) (r : Record) → AreNumbered (step k w r).entries
entries_numbered k w r = (step_holds k w r (λ f. from_one) (λ f. from_one)).all

-- ---- what stands

pub all_filtered : {A : Type 0} (p q : A → Bool) (xs : List A) → list_all p xs ≡ true → list_all p (filter q xs) ≡ true
all_filtered p q [] h = refl
all_filtered p q (x ∷ xs) h =
    let both = and_parts (p x) (list_all p xs) h in
    by (q x) both.0 (all_filtered p q xs both.1)
  where
    by : (b : Bool) → p x ≡ true → list_all p (filter q xs) ≡ true → list_all p (cond b (x ∷ filter q xs) (filter q xs)) ≡ true
    by true first rest = ap₂ (λ (a c : Bool). a && c) first rest
    by false first rest = rest

pub all_with : {A : Type 0} (p : A → Bool) (xs : List A) (x : A) → list_all p xs ≡ true → p x ≡ true → list_all p (xs ++ x ∷ []) ≡ true
all_with p xs x h k = list_all-append p xs (x ∷ []) ∙ ap₂ (λ (a b : Bool). a && (b && true)) h k

-- a call that stands is numbered from 1
abbrev pub call_from_one : CallNow → Bool
call_from_one c = is_from_one c.opened.call.0

closed_from_one : (n : ℕ) (how : How) (calls : List CallNow) → list_all call_from_one calls ≡ true → list_all call_from_one (map (call_after_close n how) calls) ≡ true
closed_from_one n how [] h = refl
closed_from_one n how (c ∷ calls) h =
    let both = and_parts (call_from_one c) (list_all call_from_one calls) h in
    ap₂ (λ (a b : Bool). a && b) (by (nat_eq n c.opened.call.0 && is_asked c) both.0) (closed_from_one n how calls both.1)
  where
    by : (b : Bool) → call_from_one c ≡ true → call_from_one (cond b (record c { how = Some how }) c) ≡ true
    by true h = h
    by false h = h

setting_kept : (s : CoreState) (i : Input) → IsNumbered s → IsNumbered (after_setting s i)
setting_kept s (input.Move event (moved.Card card to)) h = record { calls = h.calls; pending = h.pending }
setting_kept s (input.Move event (moved.User user to)) h = record { calls = h.calls; pending = h.pending }
setting_kept s _ h = record { calls = h.calls; pending = h.pending }

entry_kept : (s : CoreState) (e : Entry) → is_numbered e ≡ true → IsNumbered s → IsNumbered (after_entry s e)
entry_kept s (entry.Conf i) own h = setting_kept s i h
entry_kept s (entry.Opened o) own h =
    record { calls = all_with call_from_one s.calls (record { opened = o; how = None }) h.calls own; pending = h.pending }
entry_kept s (entry.Closed call how) own h = record { calls = closed_from_one call.0 how s.calls h.calls; pending = h.pending }
entry_kept s (entry.Notice notice) own h =
    record { calls = h.calls; pending = all_with (λ (n : Notice). is_from_one n.number) s.outbox.pending notice h.pending own }
entry_kept s (entry.Acked number) own h =
    record { calls = h.calls; pending = all_filtered (λ (n : Notice). is_from_one n.number) (λ (n : Notice). not (nat_eq number n.number)) s.outbox.pending h.pending }
entry_kept s _ own h = record { calls = h.calls; pending = h.pending }

entries_kept : (s : CoreState) (es : List Entry) → list_all is_numbered es ≡ true → IsNumbered s → IsNumbered (fold after_entry s es)
entries_kept s [] own h = h
entries_kept s (e ∷ es) own h =
    let both = and_parts (is_numbered e) (list_all is_numbered es) own in
    entries_kept (after_entry s e) es both.1 (entry_kept s e both.0 h)

numbers_kept : KeptBySteps core_keeper IsNumbered (λ f es. FromOne es)
numbers_kept =
    record {
      up = λ s r h. record { calls = h.calls; pending = h.pending };
      adds = λ s es h own. entries_kept s es own.all h;
      due = λ s thing at h. due_holds (core_facts s) thing at from_one;
      own = λ s r h. own_holds (core_facts s) r.input r.at from_one;
    }

pub step_numbered : (s : CoreState) (r : Record) → IsNumbered s → IsNumbered (step core_keeper s r).world
step_numbered s r h = step-kept core_keeper IsNumbered (λ f es. FromOne es) numbers_kept s r h

pub none_numbered : IsNumbered no_core
none_numbered = record { calls = refl; pending = refl }

pub core_numbered : (rs : List Record) → IsNumbered (core_of rs)
core_numbered rs = steps-kept core_keeper IsNumbered (λ f es. FromOne es) numbers_kept no_core rs none_numbered

-- ---- what stands of an image that was loaded

marked_from_one : (f : Facts) (mark : Option CallState) (ask : Option Ask) → list_all call_from_one (calls_marked f mark ask) ≡ true
marked_from_one f None ask = refl
marked_from_one f (Some mark) None = refl
marked_from_one f (Some mark) (Some ask) = by (product_named ask.txn.product f.products)
  where
    by : (o : Option Product) → list_all call_from_one (unwrap_or (option_map (λ (product : Product). record { opened = call_for f product ask; how = how_of_mark mark } ∷ []) o) []) ≡ true
    by None = refl
    by (Some product) = ap (λ (b : Bool). b && true) (next_from_one (length f.calls))

settled_kept : (b : Bool) (s : CoreState) (i : Input) → IsNumbered s → IsNumbered (cond b (after_setting s i) s)
settled_kept true s i h = setting_kept s i h
settled_kept false s i h = h

seen_kept : (ts : List Carried) (s : CoreState) (e : Seen) → IsNumbered s → IsNumbered (with_seen ts s e)
seen_kept ts s e h =
    let counted : IsNumbered (with_event s e) = record { calls = h.calls; pending = h.pending } in
    let settled : CoreState = cond (is_done e.verdict) (after_setting (with_event s e) e.body.input) (with_event s e) in
    let kept : IsNumbered settled = settled_kept (is_done e.verdict) (with_event s e) e.body.input counted in
    let ask = ask_of_event (core_facts settled) e.body.at e.body.input in
    record {
      calls =
          list_all-append call_from_one settled.calls (calls_marked (core_facts settled) e.mark ask)
          ∙ ap₂ (λ (a b : Bool). a && b) kept.calls (marked_from_one (core_facts settled) e.mark ask);
      pending = kept.pending;
    }

all_seen_kept : (ts : List Carried) (s : CoreState) (es : List Seen) → IsNumbered s → IsNumbered (fold (with_seen ts) s es)
all_seen_kept ts s [] h = h
all_seen_kept ts s (e ∷ es) h = all_seen_kept ts (with_seen ts s e) es (seen_kept ts s e h)

above_from_one : (last n : ℕ) → nat_lt last n ≡ true → is_from_one n ≡ true
above_from_one last n h = grind (arith, nat_tests)

risen_from_one : (last made : ℕ) (ns : List Notice) → do_notices_rise last made ns ≡ true → list_all (λ (n : Notice). is_from_one n.number) ns ≡ true
risen_from_one last made [] h = refl
risen_from_one last made (n ∷ ns) h =
    let all = and_parts (nat_lt last n.number && nat_le n.number made) (do_notices_rise n.number made ns) h in
    let first = and_parts (nat_lt last n.number) (nat_le n.number made) all.0 in
    ap₂ (λ (a b : Bool). a && b) (above_from_one last n.number first.0) (risen_from_one n.number made ns all.1)

-- a core that is made again from a state whose notices are numbered as they were made
pub rebuilt_numbered : (s : State) → AreToldWell s → IsNumbered (rebuilt s)
rebuilt_numbered s told =
    let again : IsNumbered (events_again s) = all_seen_kept s.txns no_core s.events none_numbered in
    record { calls = again.calls; pending = risen_from_one 0 s.made s.notices told.numbers }
