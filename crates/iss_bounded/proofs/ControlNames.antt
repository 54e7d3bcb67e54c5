-- Controls have names of their own, on each core that entries or a state make.
use Rattle.std.proofs.Common.{◌≡◌, ◌∙◌, ◌++◌, ◌∷◌, ◌&&◌, ◌||◌, ℕ, ap, ap₂, Bool, cond, false, fold, List, [], map, not, refl, true}
use Rattle.std.specs.Prelude.{Option, Some, None}
use Rattle.std.specs.List.{list_any}
use Rattle.std.specs.Str.{bytes_eq}
use Rattle.std.proofs.lemmas.Bool.{and_parts}
use Rattle.std.proofs.lemmas.List.Folds.{list_any-append}
use Rattle.iss_model.specs.declared.entry.Entry.{Entry}
use Rattle.iss_model.specs.declared.entry.Entry.TheVariants as entry
use Rattle.iss_model.specs.declared.input.Input.{Input}
use Rattle.iss_model.specs.declared.input.Input.TheVariants as input
use Rattle.iss_model.specs.declared.input.Record.{Record}
use Rattle.iss_model.specs.declared.setting.Moved.TheVariants as moved
use Rattle.iss_model.specs.declared.state.Carried.{Carried}
use Rattle.iss_model.specs.declared.state.Seen.{Seen}
use Rattle.iss_model.specs.declared.state.State.{State}
use Rattle.iss_model.specs.rules.Controls.{ControlPut, control_put, control_replaced}
use Rattle.iss_model.specs.rules.Due.{thing_entries}
use Rattle.iss_model.specs.rules.Settings.{is_named_in}
use Rattle.iss_model.specs.rules.Stepping.{after_due, entries_of, step}
use Rattle.iss_model.specs.state.Cores.{ControlKept, CoreState, after_entry, after_setting, control_after_put, control_after_use, core_facts, core_keeper, no_core, with_control, with_made, with_record}
use Rattle.iss_model.specs.state.Kept.{nothing_kept}
use Rattle.iss_model.proofs.Lists.{map-alike, map-map, neither}
use Rattle.iss_model.proofs.Names.{name-sym}
use Rattle.iss_acts.proofs.Stepping.{due_stays}
use Rattle.iss_state.specs.Stakes.{are_distinct}
use Rattle.iss_state.proofs.docket.Lists.{any_mapped}
use Rattle.iss_states.specs.Rebuilding.{events_again, is_done, rebuilt, with_counters, with_event, with_seen}

-- the names of controls
abbrev pub control_names : List ControlKept → List (List ℕ)
control_names ks = map (λ k. k.control.name) ks

-- controls have names of their own
abbrev pub HaveDistinctNames : List ControlKept → Type 0
HaveDistinctNames ks = are_distinct (control_names ks) ≡ true

not_true : (b : Bool) → not b ≡ true → b ≡ false
not_true true e = cc
not_true false e = refl

distinct_last : (ts : List (List ℕ)) (name : List ℕ) → are_distinct ts ≡ true → is_named_in ts name ≡ false → are_distinct (ts ++ name ∷ []) ≡ true
distinct_last [] name h none = refl
distinct_last (t ∷ ts) name h none =
    let both = and_parts (not (is_named_in ts t)) (are_distinct ts) h in
    let apart = neither (bytes_eq t name) (is_named_in ts name) none in
    by (is_named_in (ts ++ name ∷ []) t)
    (list_any-append (λ x. bytes_eq x t) ts (name ∷ []) ∙ ap₂ (λ (a b : Bool). a || (b || false)) (not_true (is_named_in ts t) both.0) (name-sym name t ∙ apart.0)) (distinct_last ts name both.1 apart.1)
  where
    by : (b : Bool) → b ≡ false → are_distinct (ts ++ name ∷ []) ≡ true → (not b && are_distinct (ts ++ name ∷ [])) ≡ true
    by true e later = cc
    by false e later = later

names_with : (ks : List ControlKept) (x : ControlKept) → control_names (ks ++ x ∷ []) ≡ control_names ks ++ x.control.name ∷ []
names_with [] x = refl
names_with (k ∷ ks) x = ap (λ (ns : List (List ℕ)). k.control.name ∷ ns) (names_with ks x)

same_name : (put : ControlPut) (k : ControlKept) → (control_after_put put k).control.name ≡ k.control.name
same_name put k = by (bytes_eq put.control.name k.control.name)
  where
    by : (b : Bool) → (cond b (record k { control = control_replaced k.control put.control }) k).control.name ≡ k.control.name
    by true = refl
    by false = refl

names_put : (put : ControlPut) (ks : List ControlKept) → HaveDistinctNames ks → HaveDistinctNames (with_control ks put)
names_put put ks h = by (list_any (λ (c : ControlKept). bytes_eq c.control.name put.control.name) ks) refl
  where
    by : (b : Bool) → list_any (λ (c : ControlKept). bytes_eq c.control.name put.control.name) ks ≡ b
        → HaveDistinctNames (cond b (map (control_after_put put) ks) (ks ++ record { first = put.number; control = put.control; amounts = nothing_kept; times = nothing_kept } ∷ []))
    by true e = ap are_distinct (map-map (control_after_put put) (λ (k : ControlKept). k.control.name) ks ∙ map-alike (λ (k : ControlKept). (control_after_put put k).control.name) (λ (k : ControlKept). k.control.name) (same_name put) ks) ∙ h
    by false e =
        ap are_distinct (names_with ks (record { first = put.number; control = put.control; amounts = nothing_kept; times = nothing_kept }))
        ∙ distinct_last (control_names ks) put.control.name h (any_mapped (λ (n : List ℕ). bytes_eq n put.control.name) (λ (k : ControlKept). k.control.name) ks ∙ e)

names_made : (put : Option ControlPut) (ks : List ControlKept) → HaveDistinctNames ks → HaveDistinctNames (with_made with_control ks put)
names_made None ks h = h
names_made (Some put) ks h = names_put put ks h

names_set : (s : CoreState) (i : Input) → HaveDistinctNames s.controls → HaveDistinctNames (after_setting s i).controls
names_set s (input.Move token (moved.Card card to)) h = h
names_set s (input.Move token (moved.User user to)) h = h
names_set s (input.Control token control currency window amount_limit usage_limit association scope offset active) h =
    names_made (control_put s.count (entry.Conf (input.Control token control currency window amount_limit usage_limit association scope offset active))) s.controls h
names_set s _ h = h

names_entry : (s : CoreState) (e : Entry) → HaveDistinctNames s.controls → HaveDistinctNames (after_entry s e).controls
names_entry s (entry.Conf i) h = names_set s i h
names_entry s (entry.Usage row) h = ap are_distinct (map-map (control_after_use s.groups (entry.Usage row)) (λ (k : ControlKept). k.control.name) s.controls) ∙ h
names_entry s _ h = h

names_entries : (s : CoreState) (es : List Entry) → HaveDistinctNames s.controls → HaveDistinctNames (fold after_entry s es).controls
names_entries s [] h = h
names_entries s (e ∷ es) h = names_entries (after_entry s e) es (names_entry s e h)

pub names_step : (s : CoreState) (r : Record) → HaveDistinctNames s.controls → HaveDistinctNames (step core_keeper s r).world.controls
unfolding step
names_step s r h =
    let due : CoreState = (after_due core_keeper (with_record s r) r.at).world in
    names_entries due (entries_of r.input r.at (core_facts due))
    (due_stays (λ s. HaveDistinctNames s.controls) r.at (λ s thing h. names_entries s (thing_entries thing r.at (core_facts s)) h) (with_record s r) h)

-- a core that is made again ----

names_seen : (ts : List Carried) (c : CoreState) (e : Seen) → HaveDistinctNames c.controls → HaveDistinctNames (with_seen ts c e).controls
names_seen ts c e h = by (is_done e.verdict)
  where
    by : (b : Bool) → HaveDistinctNames (cond b (after_setting (with_event c e) e.body.input) (with_event c e)).controls
    by true = names_set (with_event c e) e.body.input h
    by false = h

names_events : (ts : List Carried) (es : List Seen) (c : CoreState) → HaveDistinctNames c.controls → HaveDistinctNames (fold (with_seen ts) c es).controls
names_events ts [] c h = h
names_events ts (e ∷ es) c h = names_events ts es (with_seen ts c e) (names_seen ts c e h)

pub names_again : (s : State) → HaveDistinctNames (rebuilt s).controls
names_again s =
    ap are_distinct (map-map (with_counters (events_again s).holdings.txns s.counters) (λ (k : ControlKept). k.control.name) (events_again s).controls) ∙ names_events s.txns s.events no_core refl
