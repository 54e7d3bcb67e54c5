-- Cores that are alike tell the same facts, so they make the same entries, judge alike, and stay alike.
use Rattle.std.proofs.Common.{◌≡◌, ℕ, ℤ, ◌+ℤ◌, max, Bool, true, false, cond, List, [], ◌∷◌, ◌++◌, fold, find, refl, sym, ap, ap₂, subst, ◌∙◌}
use Rattle.std.specs.Prelude.{Option, Some, None, option_map}
use Rattle.std.specs.Option.{option_or}
use Rattle.std.specs.Str.{bytes_eq}
use Rattle.iss_model.specs.declared.decision.Verdict.{Verdict}
use Rattle.iss_model.specs.declared.entry.Entry.{Entry}
use Rattle.iss_model.specs.declared.entry.Entry.TheVariants as entry
use Rattle.iss_model.specs.declared.input.Input.{Input}
use Rattle.iss_model.specs.declared.input.Input.TheVariants as input
use Rattle.iss_model.specs.declared.input.Record.{Record}
use Rattle.iss_model.specs.declared.setting.Moved.TheVariants as moved
use Rattle.iss_model.specs.Sums.{Change, changed_at, txn_changes, cleared_by, refunded_by, paid_by}
use Rattle.iss_model.specs.rules.Due.{DueItem, due_items, thing_entries, is_quiet}
use Rattle.iss_model.specs.rules.Facts.{Decision, Facts, verdict_in}
use Rattle.iss_model.specs.rules.Judging.{judge, judgement_at, judgement_on}
use Rattle.iss_model.specs.rules.Keeper.{Growth, grow}
use Rattle.iss_model.specs.rules.Stepping.{after_due, own_entries, settle, step}
use Rattle.iss_model.specs.state.Cores.{CoreState, after_entry, after_setting, core_facts, core_keeper, with_record}
use Rattle.iss_model.specs.state.Kept.{Kept, after_changes, kept_at}
use Rattle.iss_model.proofs.KeptSums.{kept_at-after_changes}
use Rattle.iss_agreement.specs.Likeness.{AreAlike, all_else}

pub alike_itself : (c : CoreState) → AreAlike c c
alike_itself c = record { rest = refl; decided = λ event. refl; cleared = λ key. refl; refunded = λ key. refl; paid = λ key. refl }

-- what is told ----

pub facts_alike : (c d : CoreState) → AreAlike c d → core_facts c ≡ core_facts d
facts_alike c d h =
    λ i. record (core_facts (h.rest i)) {
      decisions = λ event. h.decided event i;
      cleared = λ key. h.cleared key i;
      refunded = λ key. h.refunded key i;
      paid = λ key. h.paid key i;
    }

-- entries ----

-- one decision more is found after all others
found_last : (ds : List Decision) (x : Decision) (event : List ℕ)
    → verdict_in (ds ++ x ∷ []) event ≡ option_or (verdict_in ds event) (cond (bytes_eq x.event event) (Some x.verdict) None)
found_last [] x event = by (bytes_eq x.event event)
  where
    by : (b : Bool) → option_map (λ (d : Decision). d.verdict) (cond b (Some x) None) ≡ option_or None (cond b (Some x.verdict) None)
    by true = refl
    by false = refl
found_last (d ∷ ds) x event = by (bytes_eq d.event event) (found_last ds x event)
  where
    by : (b : Bool) → verdict_in (ds ++ x ∷ []) event ≡ option_or (verdict_in ds event) (cond (bytes_eq x.event event) (Some x.verdict) None)
        → option_map (λ (d : Decision). d.verdict) (cond b (Some d) (find (λ d. bytes_eq d.event event) (ds ++ x ∷ [])))
        ≡ option_or (option_map (λ (d : Decision). d.verdict) (cond b (Some d) (find (λ d. bytes_eq d.event event) ds))) (cond (bytes_eq x.event event) (Some x.verdict) None)
    by true rest = refl
    by false rest = rest

decided_last : (cs ds : List Decision) (x : Decision) → ((event : List ℕ) → verdict_in cs event ≡ verdict_in ds event)
    → (event : List ℕ) → verdict_in (cs ++ x ∷ []) event ≡ verdict_in (ds ++ x ∷ []) event
decided_last cs ds x h event =
    found_last cs x event
    ∙ ap (λ (o : Option Verdict). option_or o (cond (bytes_eq x.event event) (Some x.verdict) None)) (h event)
    ∙ sym (found_last ds x event)

-- sums that are alike are changed alike
changed_alike : (a b : Kept) (cs : List Change) → ((key : List ℕ) → kept_at a key ≡ kept_at b key)
    → (key : List ℕ) → kept_at (after_changes a cs) key ≡ kept_at (after_changes b cs) key
changed_alike a b cs h key =
    kept_at-after_changes a cs key ∙ ap (λ (z : ℤ). z +ℤ changed_at key cs) (h key) ∙ sym (kept_at-after_changes b cs key)

setting_alike : (c d : CoreState) (i : Input) → AreAlike c d → AreAlike (after_setting c i) (after_setting d i)
setting_alike c d (input.Move token (moved.Card card to)) h =
    record {
      rest = ap (λ (x : CoreState). all_else (after_setting x (input.Move token (moved.Card card to)))) h.rest;
      decided = h.decided;
      cleared = h.cleared;
      refunded = h.refunded;
      paid = h.paid;
    }
setting_alike c d (input.Move token (moved.User user to)) h =
    record {
      rest = ap (λ (x : CoreState). all_else (after_setting x (input.Move token (moved.User user to)))) h.rest;
      decided = h.decided;
      cleared = h.cleared;
      refunded = h.refunded;
      paid = h.paid;
    }
setting_alike c d i h =
    record {
      rest = ap (λ (x : CoreState). all_else (after_setting x i)) h.rest;
      decided = h.decided;
      cleared = h.cleared;
      refunded = h.refunded;
      paid = h.paid;
    }

entry_alike : (c d : CoreState) (e : Entry) → AreAlike c d → AreAlike (after_entry c e) (after_entry d e)
entry_alike c d (entry.Conf i) h = setting_alike c d i h
entry_alike c d (entry.Decided event v) h =
    record {
      rest = h.rest;
      decided = decided_last c.decisions d.decisions (record { event = event; verdict = v }) h.decided;
      cleared = h.cleared;
      refunded = h.refunded;
      paid = h.paid;
    }
entry_alike c d (entry.Post from to amount txn) h =
    let e : Entry = entry.Post from to amount txn in
    record {
      rest = ap (λ (x : CoreState). all_else (after_entry x e)) h.rest;
      decided = h.decided;
      cleared = changed_alike c.txn_sums.cleared d.txn_sums.cleared (txn_changes cleared_by e) h.cleared;
      refunded = changed_alike c.txn_sums.refunded d.txn_sums.refunded (txn_changes refunded_by e) h.refunded;
      paid = changed_alike c.txn_sums.paid d.txn_sums.paid (txn_changes paid_by e) h.paid;
    }
entry_alike c d e h =
    record {
      rest = ap (λ (x : CoreState). all_else (after_entry x e)) h.rest;
      decided = h.decided;
      cleared = h.cleared;
      refunded = h.refunded;
      paid = h.paid;
    }

entries_alike : (c d : CoreState) (es : List Entry) → AreAlike c d → AreAlike (fold after_entry c es) (fold after_entry d es)
entries_alike c d [] h = h
entries_alike c d (e ∷ es) h = entries_alike (after_entry c e) (after_entry d e) es (entry_alike c d e h)

-- steps ----

-- Growths of cores that are alike: the same entries, and what stands is alike.
pub record GrowAlike (g k : Growth CoreState) : Type 0 where
  pub worlds : AreAlike g.world k.world
  pub entries : g.entries ≡ k.entries

grown_alike : (g k : Growth CoreState) (make : Facts → List Entry) → GrowAlike g k → GrowAlike (grow core_keeper g make) (grow core_keeper k make)
grown_alike g k make like =
    let made : make (core_facts g.world) ≡ make (core_facts k.world) = ap make (facts_alike g.world k.world like.worlds) in
    record {
      worlds = subst (λ (es : List Entry). AreAlike (fold after_entry g.world es) (fold after_entry k.world (make (core_facts k.world)))) (sym made)
          (entries_alike g.world k.world (make (core_facts k.world)) like.worlds);
      entries = ap₂ (λ (xs ys : List Entry). xs ++ ys) like.entries made;
    }

settled_alike : (at : ℕ) (g k : Growth CoreState) (items : List DueItem) → GrowAlike g k
    → GrowAlike (fold (settle core_keeper at) g items) (fold (settle core_keeper at) k items)
settled_alike at g k [] like = like
settled_alike at g k (item ∷ items) like =
    settled_alike at (settle core_keeper at g item) (settle core_keeper at k item) items (grown_alike g k (thing_entries item.thing at) like)

due_alike : (c d : CoreState) (at : ℕ) → AreAlike c d → GrowAlike (after_due core_keeper c at) (after_due core_keeper d at)
due_alike c d at h =
    let start : GrowAlike (record { world = c; entries = [] }) (record { world = d; entries = [] }) = record { worlds = h; entries = refl } in
    subst (λ (items : List DueItem). GrowAlike (fold (settle core_keeper at) (record { world = c; entries = [] }) items) (after_due core_keeper d at))
    (sym (ap (λ (f : Facts). due_items f at) (facts_alike c d h)))
    (settled_alike at (record { world = c; entries = [] }) (record { world = d; entries = [] }) (due_items (core_facts d) at) start)

taken_alike : (c d : CoreState) (r : Record) → AreAlike c d → AreAlike (with_record c r) (with_record d r)
taken_alike c d r h =
    record { rest = ap (λ (x : CoreState). with_record x r) h.rest; decided = h.decided; cleared = h.cleared; refunded = h.refunded; paid = h.paid }

step_alike : (c d : CoreState) (r : Record) → AreAlike c d → GrowAlike (step core_keeper c r) (step core_keeper d r)
unfolding step
step_alike c d r h =
    grown_alike (after_due core_keeper (with_record c r) r.at) (after_due core_keeper (with_record d r) r.at) (own_entries r)
    (due_alike (with_record c r) (with_record d r) r.at (taken_alike c d r h))

pub entries_same : (c d : CoreState) (r : Record) → AreAlike c d → (step core_keeper c r).entries ≡ (step core_keeper d r).entries
entries_same c d r h = (step_alike c d r h).entries

pub worlds_alike : (c d : CoreState) (r : Record) → AreAlike c d → AreAlike (step core_keeper c r).world (step core_keeper d r).world
worlds_alike c d r h = (step_alike c d r h).worlds

-- judging ----

judged_on_same : (i : Input) (at : ℕ) (f g a b : Facts) → f ≡ g → a ≡ b
    → judgement_on (is_quiet (due_items f at)) f a i at ≡ judgement_on (is_quiet (due_items g at)) g b i at
judged_on_same i at f g a b before after =
    ap₂ (λ (x y : Facts). judgement_on (is_quiet (due_items x at)) x y i at) before after

judged_at_same : (c d : CoreState) (i : Input) (at : ℕ) → AreAlike c d → judgement_at core_keeper c i at ≡ judgement_at core_keeper d i at
judged_at_same c d i at h =
    let due = due_alike c d at h in
    judged_on_same i at (core_facts c) (core_facts d) (core_facts (after_due core_keeper c at).world) (core_facts (after_due core_keeper d at).world)
    (facts_alike c d h) (facts_alike (after_due core_keeper c at).world (after_due core_keeper d at).world due.worlds)

pub judged_same : (c d : CoreState) (i : Input) (stamp : ℕ) → AreAlike c d → judge core_keeper c i stamp ≡ judge core_keeper d i stamp
unfolding judge
judged_same c d i stamp h =
    ap (λ (f : Facts). judgement_at core_keeper c i (max stamp f.now)) (facts_alike c d h)
    ∙ judged_at_same c d i (max stamp (core_facts d).now) h
