-- The window of a control of a core that is made again is that of the first event that set the control.
use Rattle.std.proofs.Common.{◌≡◌, ◌++◌, ◌||◌, ◌∷◌, ap, append-nil, Bool, cond, false, find, fold, List, [], map, refl, subst, sym, true, ℕ, ◌∙◌}
use Rattle.std.specs.Prelude.{None, Option, option_map, Some}
use Rattle.std.specs.List.{cons_option, list_any}
use Rattle.std.specs.Option.{option_or}
use Rattle.std.specs.Str.{bytes_eq}
use Rattle.std.proofs.lemmas.Bool.{false_from_ne_true}
use Rattle.std.proofs.lemmas.List.Folds.{list_any-append}
use Rattle.iss_model.specs.declared.counted.Counter.{Counter}
use Rattle.iss_model.specs.declared.decision.Verdict.{Verdict}
use Rattle.iss_model.specs.declared.decision.Verdict.TheVariants as verdict
use Rattle.iss_model.specs.declared.input.Input.{Input}
use Rattle.iss_model.specs.declared.input.Input.TheVariants as input
use Rattle.iss_model.specs.declared.setting.Moved.TheVariants as moved
use Rattle.iss_model.specs.declared.setting.Window.{Window}
use Rattle.iss_model.specs.declared.state.Carried.{Carried}
use Rattle.iss_model.specs.declared.state.Seen.{Seen}
use Rattle.iss_model.specs.declared.state.State.{State}
use Rattle.iss_model.specs.rules.Activity.{TxnNow}
use Rattle.iss_model.specs.rules.Controls.{ControlPut, control_replaced}
use Rattle.iss_model.specs.state.Cores.{ControlKept, CoreState, after_setting, control_after_put, no_core, with_control}
use Rattle.iss_model.specs.state.Kept.{nothing_kept}
use Rattle.iss_model.proofs.Lists.{neither}
use Rattle.iss_model.proofs.Names.{its_name, one_name}
use Rattle.iss_state.proofs.docket.Lists.{Each, not_both}
use Rattle.iss_states.specs.Rebuilding.{events_again, is_done, rebuilt, with_counters, with_event, with_seen}
use Rattle.iss_image.specs.declared.lookups.WindowSet.{WindowSet}
use Rattle.iss_image.specs.Lookups.{window_by, window_in, window_set, window_told, windows_set}

-- a control has this name
abbrev has_name : List ℕ → ControlKept → Bool
has_name name k = bytes_eq k.control.name name

-- the window that is the first of this control's is that of the control
abbrev HasWindow : List WindowSet → ControlKept → Type 0
HasWindow ws k = window_by ws k.control.name ≡ Some (k.control.window)

-- Of each control the first window is its own, and no other control has one.
record AreWindowsSet (ws : List WindowSet) (ks : List ControlKept) : Type 0 where
  each : Each (HasWindow ws) ks
  others : (name : List ℕ) → list_any (has_name name) ks ≡ false → window_by ws name ≡ None

-- one more window ----

-- the window of a control, if it has the name
abbrev window_if : List ℕ → WindowSet → Option Window
window_if name w = cond (bytes_eq w.control name) (Some (w.window)) None

window_more : (ws : List WindowSet) (w : WindowSet) (name : List ℕ) → window_by (ws ++ w ∷ []) name ≡ option_or (window_by ws name) (window_if name w)
window_more [] w name = by (bytes_eq w.control name)
  where
    by : (b : Bool) → option_map (λ (x : WindowSet). x.window) (cond b (Some w) None) ≡ cond b (Some (w.window)) None
    by true = refl
    by false = refl
window_more (v ∷ ws) w name = by (bytes_eq v.control name) (window_more ws w name)
  where
    by : (b : Bool) → window_by (ws ++ w ∷ []) name ≡ option_or (window_by ws name) (window_if name w)
        → option_map (λ (x : WindowSet). x.window) (cond b (Some v) (find (λ (x : WindowSet). bytes_eq x.control name) (ws ++ w ∷ [])))
        ≡ option_or (option_map (λ (x : WindowSet). x.window) (cond b (Some v) (find (λ (x : WindowSet). bytes_eq x.control name) ws))) (window_if name w)
    by true rest = refl
    by false rest = rest

-- a window that is there stays
stays : (ws : List WindowSet) (w : WindowSet) (name : List ℕ) (window : Window) → window_by ws name ≡ Some window → window_by (ws ++ w ∷ []) name ≡ Some window
stays ws w name window h = window_more ws w name ∙ ap (λ (o : Option Window). option_or o (window_if name w)) h

-- another name has none still
still_none : (ws : List WindowSet) (w : WindowSet) (name : List ℕ) → window_by ws name ≡ None → bytes_eq w.control name ≡ false → window_by (ws ++ w ∷ []) name ≡ None
still_none ws w name h other =
    window_more ws w name ∙ ap (λ (o : Option Window). option_or o (window_if name w)) h ∙ ap (λ (b : Bool). cond b (Some (w.window)) None) other

-- a name that had none has the window that is put
now_there : (ws : List WindowSet) (w : WindowSet) → window_by ws w.control ≡ None → window_by (ws ++ w ∷ []) w.control ≡ Some (w.window)
now_there ws w h =
    window_more ws w w.control ∙ ap (λ (o : Option Window). option_or o (window_if w.control w)) h ∙ ap (λ (b : Bool). cond b (Some (w.window)) None) (its_name w.control)

-- a control that is put ----

-- a control that is put, as its first window
abbrev window_put : ControlPut → WindowSet
window_put put = record { control = put.control.name; window = put.control.window }

-- a control that is put for the first time
abbrev first_put : ControlPut → ControlKept
first_put put = record { first = put.number; control = put.control; amounts = nothing_kept; times = nothing_kept }

each_stays : (ws : List WindowSet) (w : WindowSet) (ks : List ControlKept) → Each (HasWindow ws) ks → Each (HasWindow (ws ++ w ∷ [])) ks
each_stays ws w [] h = tt
each_stays ws w (k ∷ ks) h = (stays ws w k.control.name k.control.window h.0, each_stays ws w ks h.1)

each_put : (ws : List WindowSet) (put : ControlPut) (ks : List ControlKept) → Each (HasWindow ws) ks → Each (HasWindow ws) (map (control_after_put put) ks)
each_put ws put [] h = tt
each_put ws put (k ∷ ks) h = (by (bytes_eq put.control.name k.control.name), each_put ws put ks h.1)
  where
    by : (b : Bool) → HasWindow ws (cond b (record k { control = control_replaced k.control put.control }) k)
    by true = h.0
    by false = h.0

names_put : (name : List ℕ) (put : ControlPut) (ks : List ControlKept) → list_any (has_name name) (map (control_after_put put) ks) ≡ list_any (has_name name) ks
names_put name put [] = refl
names_put name put (k ∷ ks) = by (bytes_eq put.control.name k.control.name) ∙ ap (λ (b : Bool). has_name name k || b) (names_put name put ks)
  where
    by : (b : Bool)
        → (has_name name (cond b (record k { control = control_replaced k.control put.control }) k) || list_any (has_name name) (map (control_after_put put) ks))
        ≡ (has_name name k || list_any (has_name name) (map (control_after_put put) ks))
    by true = refl
    by false = refl

each_last : (ws : List WindowSet) (ks : List ControlKept) (k : ControlKept) → Each (HasWindow ws) ks → HasWindow ws k → Each (HasWindow ws) (ks ++ k ∷ [])
each_last ws [] k h own = (own, tt)
each_last ws (l ∷ ks) k h own = (h.0, each_last ws ks k h.1 own)

put_set : (ws : List WindowSet) (ks : List ControlKept) (put : ControlPut) → AreWindowsSet ws ks → AreWindowsSet (ws ++ window_put put ∷ []) (with_control ks put)
put_set ws ks put h = by (list_any (has_name put.control.name) ks) refl
  where
    -- the control stands already, so a name that none has is another
    apart : (name : List ℕ) → list_any (has_name put.control.name) ks ≡ true → list_any (has_name name) ks ≡ false → bytes_eq put.control.name name ≡ false
    apart name there none =
        false_from_ne_true (bytes_eq put.control.name name)
        (λ same. not_both (list_any (has_name put.control.name) ks) there (ap (λ (n : List ℕ). list_any (has_name n) ks) (one_name put.control.name name same) ∙ none))

    by : (b : Bool) → list_any (has_name put.control.name) ks ≡ b
        → AreWindowsSet (ws ++ window_put put ∷ [])
        (cond b (map (control_after_put put) ks) (ks ++ first_put put ∷ []))
    by true there =
        record {
          each = each_put (ws ++ window_put put ∷ []) put ks (each_stays ws (window_put put) ks h.each);
          others = λ name none.
              let before : list_any (has_name name) ks ≡ false = sym (names_put name put ks) ∙ none in
              still_none ws (window_put put) name (h.others name before) (apart name there before);
        }
    by false new =
        record {
          each = each_last (ws ++ window_put put ∷ []) ks (first_put put)
              (each_stays ws (window_put put) ks h.each) (now_there ws (window_put put) (h.others put.control.name new));
          others = λ name none.
              let parts = neither (list_any (has_name name) ks) (bytes_eq put.control.name name || false) (sym (list_any-append (has_name name) ks (first_put put ∷ [])) ∙ none) in
              still_none ws (window_put put) name (h.others name parts.0) (neither (bytes_eq put.control.name name) false parts.1).0;
        }

-- events ----

same_set : (ws : List WindowSet) (ks : List ControlKept) → AreWindowsSet ws ks → AreWindowsSet (ws ++ []) ks
same_set ws ks h = subst (λ (xs : List WindowSet). AreWindowsSet xs ks) (sym (append-nil ws)) h

-- an event that is done sets what it tells of
settled : (ws : List WindowSet) (c : CoreState) (v : Option Verdict) (i : Input) → AreWindowsSet ws c.controls
    → AreWindowsSet (ws ++ cons_option (window_set v i) []) (cond (is_done v) (after_setting c i) c).controls
settled ws c None i h = same_set ws c.controls h
settled ws c (Some verdict.Approved) i h = same_set ws c.controls h
settled ws c (Some (verdict.Partial currency amount)) i h = same_set ws c.controls h
settled ws c (Some (verdict.Declined why)) i h = same_set ws c.controls h
settled ws c (Some verdict.Done) (input.Control token control currency window amount_limit usage_limit association scope offset active) h =
    put_set ws c.controls
    (record {
      number = c.count;
      control = record { name = control; currency = currency; window = window; amount_limit = amount_limit; usage_limit = usage_limit; association = association; scope = scope; offset = offset; active = active };
    })
    h
settled ws c (Some verdict.Done) (input.Move token (moved.Card card to)) h = same_set ws c.controls h
settled ws c (Some verdict.Done) (input.Move token (moved.User user to)) h = same_set ws c.controls h
settled ws c (Some verdict.Done) _ h = same_set ws c.controls h

pushed : (ws : List WindowSet) (w : WindowSet) (vs : List WindowSet) → (ws ++ w ∷ []) ++ vs ≡ ws ++ w ∷ vs
pushed [] w vs = refl
pushed (v ∷ ws) w vs = ap (λ (xs : List WindowSet). v ∷ xs) (pushed ws w vs)

one_more : (o : Option WindowSet) (ws vs : List WindowSet) → (ws ++ cons_option o []) ++ vs ≡ ws ++ cons_option o vs
one_more None ws vs = ap (λ (xs : List WindowSet). xs ++ vs) (append-nil ws)
one_more (Some w) ws vs = pushed ws w vs

events_set : (ts : List Carried) (es : List Seen) (c : CoreState) (ws : List WindowSet) → AreWindowsSet ws c.controls → AreWindowsSet (ws ++ windows_set es) (fold (with_seen ts) c es).controls
events_set ts [] c ws h = same_set ws c.controls h
events_set ts (e ∷ es) c ws h =
    subst (λ (xs : List WindowSet). AreWindowsSet xs (fold (with_seen ts) (with_seen ts c e) es).controls) (one_more (window_told e) ws (windows_set es))
    (events_set ts es (with_seen ts c e) (ws ++ cons_option (window_told e) []) (settled ws (with_event c e) e.verdict e.body.input h))

nothing_set : AreWindowsSet [] no_core.controls
nothing_set = record { each = tt; others = λ name none. refl }

counted : (ws : List WindowSet) (txns : List TxnNow) (counters : List Counter) (ks : List ControlKept) → Each (HasWindow ws) ks → Each (HasWindow ws) (map (with_counters txns counters) ks)
counted ws txns counters [] h = tt
counted ws txns counters (k ∷ ks) h = (h.0, counted ws txns counters ks h.1)

-- the window of each control that is made again is that of the first event that set it
pub windows_again : (s : State) → Each (λ k. window_in s.events k.control.name ≡ Some (k.control.window)) (rebuilt s).controls
windows_again s =
    counted (windows_set s.events) (events_again s).holdings.txns s.counters (events_again s).controls (events_set s.txns s.events no_core [] nothing_set).each
