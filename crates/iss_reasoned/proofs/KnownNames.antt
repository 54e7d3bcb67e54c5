-- A control or a set that is known stays so.
use Rattle.std.proofs.Common.{◌≡◌, ◌∙◌, ◌++◌, ◌∷◌, ℕ, ap, Bool, cond, false, find, List, [], map, refl, sym, true}
use Rattle.std.specs.Prelude.{is_some}
use Rattle.std.specs.List.{list_any}
use Rattle.std.specs.Str.{bytes_eq}
use Rattle.iss_model.specs.declared.entry.Entry.{Entry}
use Rattle.iss_model.specs.declared.entry.Entry.TheVariants as entry
use Rattle.iss_model.specs.declared.input.Input.{Input}
use Rattle.iss_model.specs.declared.input.Input.TheVariants as input
use Rattle.iss_model.specs.declared.setting.Moved.TheVariants as moved
use Rattle.iss_model.specs.declared.setting.Set.{Set}
use Rattle.iss_model.specs.rules.Controls.{ControlNow, ControlPut, control_named, control_replaced, set_named, set_replaced}
use Rattle.iss_model.specs.rules.Facts.{Facts}
use Rattle.iss_model.specs.state.Cores.{ControlKept, CoreState, after_entry, after_setting, control_after_put, control_after_use, control_facts, core_facts, set_after_put, with_control, with_set}
use Rattle.iss_model.specs.state.Kept.{nothing_kept}
use Rattle.iss_state.proofs.docket.Lists.{some_mapped}
use Rattle.iss_state.proofs.effects.Finds.{find-map, found_grows}
use Rattle.iss_states.specs.Settled.{set_part, uncounted}

-- whatever these facts know of controls and sets, those know
pub record Knows (f g : Facts) : Type 0 where
  pub controls : (name : List ℕ) → is_some (control_named name f.controls) ≡ true → is_some (control_named name g.controls) ≡ true
  pub sets : (name : List ℕ) → is_some (set_named name f.sets) ≡ true → is_some (set_named name g.sets) ≡ true

pub known_itself : (f : Facts) → Knows f f
known_itself f = record { controls = λ name h. h; sets = λ name h. h }

pub known_then : {f g h : Facts} → Knows f g → Knows g h → Knows f h
known_then k l = record { controls = λ name h. l.controls name (k.controls name h); sets = λ name h. l.sets name (k.sets name h) }

-- lists of controls ----

abbrev has_control : List ℕ → List ControlKept → Bool
has_control name ks = is_some (find (λ k. bytes_eq k.control.name name) ks)

of_facts : (name : List ℕ) (ks : List ControlKept) → is_some (control_named name (map control_facts ks)) ≡ has_control name ks
of_facts name ks =
    ap is_some (find-map (λ (c : ControlNow). bytes_eq c.control.name name) (λ (k : ControlKept). bytes_eq k.control.name name) control_facts (λ k. refl) ks)
    ∙ some_mapped control_facts (find (λ (k : ControlKept). bytes_eq k.control.name name) ks)

of_map : (name : List ℕ) (f : ControlKept → ControlKept) → ((k : ControlKept) → (f k).control.name ≡ k.control.name) → (ks : List ControlKept) → has_control name (map f ks) ≡ has_control name ks
of_map name f same ks =
    ap is_some (find-map (λ (k : ControlKept). bytes_eq k.control.name name) (λ (k : ControlKept). bytes_eq k.control.name name) f (λ k. ap (λ (n : List ℕ). bytes_eq n name) (same k)) ks)
    ∙ some_mapped f (find (λ (k : ControlKept). bytes_eq k.control.name name) ks)

put_name : (put : ControlPut) (k : ControlKept) → (control_after_put put k).control.name ≡ k.control.name
put_name put k = by (bytes_eq put.control.name k.control.name)
  where
    by : (b : Bool) → (cond b (record k { control = control_replaced k.control put.control }) k).control.name ≡ k.control.name
    by true = refl
    by false = refl

put_known : (name : List ℕ) (ks : List ControlKept) (put : ControlPut) → has_control name ks ≡ true → has_control name (with_control ks put) ≡ true
put_known name ks put h = by (list_any (λ k. bytes_eq k.control.name put.control.name) ks)
  where
    by : (b : Bool) → has_control name (cond b (map (control_after_put put) ks) (ks ++ record { first = put.number; control = put.control; amounts = nothing_kept; times = nothing_kept } ∷ [])) ≡ true
    by true = of_map name (control_after_put put) (put_name put) ks ∙ h
    by false = found_grows (λ (k : ControlKept). bytes_eq k.control.name name) ks (record { first = put.number; control = put.control; amounts = nothing_kept; times = nothing_kept } ∷ []) h

-- lists of sets ----

set_name : (put s : Set) → (set_after_put put s).name ≡ s.name
set_name put s = by (bytes_eq put.name s.name)
  where
    by : (b : Bool) → (cond b (set_replaced s put) s).name ≡ s.name
    by true = refl
    by false = refl

set_known : (name : List ℕ) (xs : List Set) (put : Set) → is_some (set_named name xs) ≡ true → is_some (set_named name (with_set xs put)) ≡ true
set_known name xs put h = by (list_any (λ s. bytes_eq s.name put.name) xs)
  where
    by : (b : Bool) → is_some (set_named name (cond b (map (set_after_put put) xs) (xs ++ put ∷ []))) ≡ true
    by true =
        ap is_some (find-map (λ (s : Set). bytes_eq s.name name) (λ (s : Set). bytes_eq s.name name) (set_after_put put) (λ s. ap (λ (n : List ℕ). bytes_eq n name) (set_name put s)) xs)
        ∙ some_mapped (set_after_put put) (set_named name xs) ∙ h
    by false = found_grows (λ (s : Set). bytes_eq s.name name) xs (put ∷ []) h

-- entries ----

setting_knows : (s : CoreState) (i : Input) → Knows (core_facts s) (core_facts (after_setting s i))
setting_knows s (input.Move event (moved.Card card to)) = record { controls = λ name h. h; sets = λ name h. h }
setting_knows s (input.Move event (moved.User user to)) = record { controls = λ name h. h; sets = λ name h. h }
setting_knows s (input.Control event control currency window amount_limit usage_limit association scope offset active) =
    let put : ControlPut = record {
      number = s.count;
      control = record {
        name = control;
        currency = currency;
        window = window;
        amount_limit = amount_limit;
        usage_limit = usage_limit;
        association = association;
        scope = scope;
        offset = offset;
        active = active;
      };
    } in
    record {
      controls = λ name h. of_facts name (with_control s.controls put) ∙ put_known name s.controls put (sym (of_facts name s.controls) ∙ h);
      sets = λ name h. h;
    }
setting_knows s (input.Set event set product currency connection timeout application max day_limit active) =
    record {
      controls = λ name h. h;
      sets = λ name h.
          set_known name s.stand_ins.sets
          (record {
            name = set;
            product = product;
            currency = currency;
            connection = connection;
            timeout = timeout;
            application = application;
            max = max;
            day_limit = day_limit;
            active = active;
          }) h;
    }
setting_knows s _ = record { controls = λ name h. h; sets = λ name h. h }

pub entry_knows : (s : CoreState) (e : Entry) → Knows (core_facts s) (core_facts (after_entry s e))
entry_knows s (entry.Conf i) = setting_knows s i
entry_knows s (entry.Usage row) =
    record {
      controls = λ name h.
          of_facts name (map (control_after_use s.groups (entry.Usage row)) s.controls)
          ∙ of_map name (control_after_use s.groups (entry.Usage row)) (λ k. refl) s.controls ∙ sym (of_facts name s.controls) ∙ h;
      sets = λ name h. h;
    }
entry_knows s _ = record { controls = λ name h. h; sets = λ name h. h }

-- what was set the same is known the same ----

pub set_knows : (c d : CoreState) → set_part c ≡ set_part d → Knows (core_facts c) (core_facts d)
set_knows c d same =
    record {
      controls = λ name h.
          of_facts name d.controls ∙ sym (of_map name uncounted (λ k. refl) d.controls)
          ∙ ap (λ (x : CoreState). has_control name x.controls) (sym same)
          ∙ of_map name uncounted (λ k. refl) c.controls ∙ sym (of_facts name c.controls) ∙ h;
      sets = λ name h. ap (λ (x : CoreState). is_some (set_named name x.stand_ins.sets)) (sym same) ∙ h;
    }
