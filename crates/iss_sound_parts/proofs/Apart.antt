-- No two controls of a core that is made again have one name.
use Rattle.std.proofs.Common.{◌≡◌, ◌∙◌, ◌++◌, ◌∷◌, ◌||◌, ℕ, ap₂, Bool, cond, false, fold, List, [], map, refl, subst, sym, true}
use Rattle.std.specs.List.{list_any}
use Rattle.std.specs.Str.{bytes_eq}
use Rattle.std.proofs.lemmas.List.{map-append}
use Rattle.std.proofs.lemmas.List.Folds.{list_any-append}
use Rattle.iss_model.specs.declared.input.Input.{Input}
use Rattle.iss_model.specs.declared.input.Input.TheVariants as input
use Rattle.iss_model.specs.declared.setting.Moved.TheVariants as moved
use Rattle.iss_model.specs.declared.state.Carried.{Carried}
use Rattle.iss_model.specs.declared.state.Seen.{Seen}
use Rattle.iss_model.specs.declared.state.State.{State}
use Rattle.iss_model.specs.rules.Controls.{ControlPut, control_replaced}
use Rattle.iss_model.specs.state.Cores.{ControlKept, CoreState, after_setting, control_after_put, no_core, with_control}
use Rattle.iss_model.specs.state.Kept.{nothing_kept}
use Rattle.iss_model.proofs.Lists.{map-alike, map-map, neither}
use Rattle.iss_model.proofs.Names.{name-sym}
use Rattle.iss_state.proofs.docket.Lists.{any_mapped}
use Rattle.iss_states.specs.Rebuilding.{events_again, is_done, rebuilt, with_counters, with_event, with_seen}
use Rattle.iss_known.specs.declared.controls.ControlKnown.{ControlKnown}
use Rattle.iss_known.specs.Known.{control_known}
use Rattle.iss_sound_parts.proofs.Grouping.{HaveOwnNames}

-- the names of these controls
abbrev names : List ControlKept → List (List ℕ)
names cs = map (λ (c : ControlKept). c.control.name) cs

-- a name is among these
abbrev is_among : List (List ℕ) → List ℕ → Bool
is_among ns name = list_any (λ n. bytes_eq n name) ns

-- no two names are one
abbrev AreApart : List (List ℕ) → Type 0
AreApart [] = Unit {0}
AreApart (n ∷ ns) = (is_among ns n ≡ false) × AreApart ns

apart_more : (ns : List (List ℕ)) (name : List ℕ) → is_among ns name ≡ false → AreApart ns → AreApart (ns ++ name ∷ [])
apart_more [] name none apart = (refl, tt)
apart_more (n ∷ ns) name none apart =
    let both = neither (bytes_eq n name) (is_among ns name) none in (
      list_any-append (λ (m : List ℕ). bytes_eq m n) ns (name ∷ []) ∙ ap₂ (λ (a b : Bool). a || (b || false)) apart.0 (name-sym name n ∙ both.0),
      apart_more ns name both.1 apart.1,
    )

put_name : (put : ControlPut) (c : ControlKept) → (control_after_put put c).control.name ≡ c.control.name
put_name put c = by (bytes_eq put.control.name c.control.name)
  where
    by : (b : Bool) → (cond b (record c { control = control_replaced c.control put.control }) c).control.name ≡ c.control.name
    by true = refl
    by false = refl

put_apart : (cs : List ControlKept) (put : ControlPut) → AreApart (names cs) → AreApart (names (with_control cs put))
put_apart cs put apart = by (list_any (λ c. bytes_eq c.control.name put.control.name) cs) refl
  where
    fresh : ControlKept
    fresh = record { first = put.number; control = put.control; amounts = nothing_kept; times = nothing_kept }

    by : (b : Bool) → list_any (λ (c : ControlKept). bytes_eq c.control.name put.control.name) cs ≡ b → AreApart (names (cond b (map (control_after_put put) cs) (cs ++ fresh ∷ [])))
    by true e =
        subst AreApart (sym (map-map (control_after_put put) (λ (c : ControlKept). c.control.name) cs ∙ map-alike (λ (c : ControlKept). (control_after_put put c).control.name) (λ (c : ControlKept). c.control.name) (put_name put) cs)) apart
    by false e =
        subst AreApart (sym (map-append (λ (c : ControlKept). c.control.name) cs (fresh ∷ [])))
        (apart_more (names cs) put.control.name (any_mapped (λ (n : List ℕ). bytes_eq n put.control.name) (λ (c : ControlKept). c.control.name) cs ∙ e) apart)

setting_apart : (c : CoreState) (i : Input) → AreApart (names c.controls) → AreApart (names (after_setting c i).controls)
setting_apart c (input.Move token (moved.Card card to)) h = h
setting_apart c (input.Move token (moved.User user to)) h = h
setting_apart c (input.Control token control currency window amount_limit usage_limit association scope offset active) h = put_apart c.controls _ h
setting_apart c _ h = h

seen_apart : (ts : List Carried) (c : CoreState) (e : Seen) → AreApart (names c.controls) → AreApart (names (with_seen ts c e).controls)
seen_apart ts c e h = by (is_done e.verdict)
  where
    by : (b : Bool) → AreApart (names (cond b (after_setting (with_event c e) e.body.input) (with_event c e)).controls)
    by true = setting_apart (with_event c e) e.body.input h
    by false = h

all_apart : (ts : List Carried) (c : CoreState) (es : List Seen) → AreApart (names c.controls) → AreApart (names (fold (with_seen ts) c es).controls)
all_apart ts c [] h = h
all_apart ts c (e ∷ es) h = all_apart ts (with_seen ts c e) es (seen_apart ts c e h)

known_apart : (cs : List ControlKept) → AreApart (names cs) → HaveOwnNames (map control_known cs)
known_apart [] h = tt
known_apart (c ∷ cs) h = (
  any_mapped (λ (k : ControlKnown). bytes_eq k.name c.control.name) control_known cs
      ∙ sym (any_mapped (λ (n : List ℕ). bytes_eq n c.control.name) (λ (k : ControlKept). k.control.name) cs) ∙ h.0,
  known_apart cs h.1,
)

-- the controls of a core that is made again have names of their own
pub controls_apart : (s : State) → HaveOwnNames (map control_known (rebuilt s).controls)
controls_apart s =
    known_apart (rebuilt s).controls
    (subst AreApart (sym (map-map (with_counters (events_again s).holdings.txns s.counters) (λ (c : ControlKept). c.control.name) (events_again s).controls))
    (all_apart s.txns no_core s.events tt))
