-- How one more decision is found, and what entries leave of decisions, of events and of the number of records.
use Rattle.std.proofs.Common.{◌≡◌, ◌+◌, ℕ, Bool, true, false, cond, List, [], ◌∷◌, ◌++◌, find, fold, refl, ◌∙◌, max}
use Rattle.std.specs.Prelude.{Some, None, option_map}
use Rattle.std.specs.Option.{option_or}
use Rattle.std.specs.Str.{bytes_eq}
use Rattle.iss_model.specs.declared.entry.Entry.{Entry}
use Rattle.iss_model.specs.declared.entry.Entry.TheVariants as entry
use Rattle.iss_model.specs.declared.input.Input.{Input}
use Rattle.iss_model.specs.declared.input.Input.TheVariants as input
use Rattle.iss_model.specs.declared.input.Record.{Record}
use Rattle.iss_model.specs.declared.setting.Moved.TheVariants as moved
use Rattle.iss_model.specs.rules.Due.{DueItem, due_items, thing_entries}
use Rattle.iss_model.specs.rules.Facts.{Decision, verdict_in}
use Rattle.iss_model.specs.rules.Keeper.{Growth}
use Rattle.iss_model.specs.rules.Stepping.{after_due, own_entries, settle, step}
use Rattle.iss_model.specs.state.Cores.{CoreState, after_entry, after_setting, core_facts, core_keeper, with_record}
use Rattle.iss_state.proofs.invariants.Kept.{due_accepted, entries_accepted, entries_count}

-- one decision more is found after all others
pub found_last : (ds : List Decision) (x : Decision) (event : List ℕ)
    → verdict_in (ds ++ x ∷ []) event ≡ option_or (verdict_in ds event) (cond (bytes_eq x.event event) (Some x.verdict) None)
found_last [] x event = by (bytes_eq x.event event)
  where
    by : (b : Bool) → option_map (λ (d : Decision). d.verdict) (cond b (Some x) None) ≡ option_or None (cond b (Some x.verdict) None)
    by true = refl
    by false = refl
found_last (d ∷ ds) x event = by (bytes_eq d.event event) (found_last ds x event)
  where
    by : (b : Bool) → verdict_in (ds ++ x ∷ []) event ≡ option_or (verdict_in ds event) (cond (bytes_eq x.event event) (Some x.verdict) None)
        → option_map (λ (d : Decision). d.verdict) (cond b (Some d) (find (λ d. bytes_eq d.event event) (ds ++ x ∷ [])))
        ≡ option_or (option_map (λ (d : Decision). d.verdict) (cond b (Some d) (find (λ d. bytes_eq d.event event) ds))) (cond (bytes_eq x.event event) (Some x.verdict) None)
    by true rest = refl
    by false rest = rest

pub setting_decisions : (c : CoreState) (i : Input) → (after_setting c i).decisions ≡ c.decisions
setting_decisions c (input.Move token (moved.Card card to)) = refl
setting_decisions c (input.Move token (moved.User user to)) = refl
setting_decisions c _ = refl

pub due_count : (at : ℕ) (g : Growth CoreState) (items : List DueItem) → (fold (settle core_keeper at) g items).world.count ≡ g.world.count
due_count at g [] = refl
due_count at g (item ∷ items) = due_count at (settle core_keeper at g item) items ∙ entries_count g.world (thing_entries item.thing at (core_facts g.world))

setting_now : (s : CoreState) (i : Input) → (after_setting s i).now ≡ s.now
setting_now s (input.Move token (moved.Card card to)) = refl
setting_now s (input.Move token (moved.User user to)) = refl
setting_now s _ = refl

entry_now : (s : CoreState) (e : Entry) → (after_entry s e).now ≡ s.now
entry_now s (entry.Conf i) = setting_now s i
entry_now s _ = refl

entries_now : (s : CoreState) (es : List Entry) → (fold after_entry s es).now ≡ s.now
entries_now s [] = refl
entries_now s (e ∷ es) = entries_now (after_entry s e) es ∙ entry_now s e

due_now : (at : ℕ) (g : Growth CoreState) (items : List DueItem) → (fold (settle core_keeper at) g items).world.now ≡ g.world.now
due_now at g [] = refl
due_now at g (item ∷ items) = due_now at (settle core_keeper at g item) items ∙ entries_now g.world (thing_entries item.thing at (core_facts g.world))

-- A step leaves the events, the time and the number of records as taking up its record does.
pub record TakesUp (c : CoreState) (r : Record) (w : CoreState) : Type 0 where
  pub accepted : w.accepted ≡ (with_record c r).accepted
  pub now : w.now ≡ max c.now r.at
  pub count : w.count ≡ c.count + 1

pub step_takes_up : (c : CoreState) (r : Record) → TakesUp c r (step core_keeper c r).world
unfolding step
step_takes_up c r =
    let up : CoreState = with_record c r in
    let start : Growth CoreState = record { world = up; entries = [] } in
    let items : List DueItem = due_items (core_facts up) r.at in
    let due : CoreState = (after_due core_keeper up r.at).world in
    let own : List Entry = own_entries r (core_facts due) in
    record {
      accepted = entries_accepted due own ∙ due_accepted r.at start items;
      now = entries_now due own ∙ due_now r.at start items;
      count = entries_count due own ∙ due_count r.at start items;
    }
