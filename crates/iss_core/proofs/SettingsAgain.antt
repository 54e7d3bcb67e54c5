-- Settings that are taken up again: what they do to what was set, and that a core made again has them.
use Rattle.std.proofs.Common.{◌≡◌, ℕ, Bool, true, false, cond, ◌&&◌, List, [], ◌∷◌, ◌++◌, map, fold, refl, sym, ap, subst, ◌∙◌, ◌↔◌}
use Rattle.std.specs.Prelude.{Option, Some, None, IsTrue}
use Rattle.std.specs.List.{list_any}
use Rattle.std.specs.Str.{bytes_eq}
use Rattle.iss_model.specs.declared.decision.Reason.{Reason}
use Rattle.iss_model.specs.declared.decision.Reason.TheVariants as reason
use Rattle.iss_model.specs.declared.decision.Verdict.{Verdict}
use Rattle.iss_model.specs.declared.decision.Verdict.TheVariants as verdict
use Rattle.iss_model.specs.declared.input.Input.{Input}
use Rattle.iss_model.specs.declared.input.Input.TheVariants as input
use Rattle.iss_model.specs.declared.setting.Association.{Association}
use Rattle.iss_model.specs.declared.setting.Association.TheVariants as association
use Rattle.iss_model.specs.declared.setting.Moved.TheVariants as moved
use Rattle.iss_model.specs.declared.setting.Scope.{Scope}
use Rattle.iss_model.specs.declared.setting.Scope.TheVariants as scope
use Rattle.iss_model.specs.declared.setting.Set.{Set}
use Rattle.iss_model.specs.declared.state.Carried.{Carried}
use Rattle.iss_model.specs.declared.state.Seen.{Seen}
use Rattle.iss_model.specs.declared.state.State.{State}
use Rattle.iss_model.specs.rules.Activity.{TxnNow}
use Rattle.iss_model.specs.rules.Controls.{ControlNow, ControlPut, control_named, control_replaced, set_named}
use Rattle.iss_model.specs.rules.Facts.{Facts}
use Rattle.iss_model.specs.rules.Reasons.{control_reason, first_reason, is_full, lacks_group, lacks_product, lacks_user, put_control_reason, put_set_reason, set_reason}
use Rattle.iss_model.specs.state.Cores.{ControlKept, CoreState, after_setting, control_after_put, control_facts, core_facts, no_core, with_control}
use Rattle.iss_model.specs.state.Kept.{nothing_kept}
use Rattle.iss_model.proofs.Lists.{map-alike, map-map}
use Rattle.iss_acts.specs.Sources.{setting_reason}
use Rattle.iss_states.specs.Rebuilding.{events_again, is_done, rebuilt, with_counters, with_event, with_seen}
use Rattle.iss_states.specs.Settled.{IsJudged, reason_before, set_part, sets_something, uncounted}
use Rattle.iss_states.proofs.SetAgain.{setting_part, unset}
use Rattle.iss_well_formed.specs.Events.{AreJudged, with_seen_setting}

-- ---- controls that have counted nothing

twice_uncounted : (ks : List ControlKept) → map uncounted (map uncounted ks) ≡ map uncounted ks
twice_uncounted ks = map-map uncounted uncounted ks ∙ map-alike (λ (k : ControlKept). uncounted (uncounted k)) uncounted (λ k. refl) ks

append_uncounted : (ks ls : List ControlKept) → map uncounted (ks ++ ls) ≡ map uncounted ks ++ map uncounted ls
append_uncounted [] ls = refl
append_uncounted (k ∷ ks) ls = ap (λ (rest : List ControlKept). uncounted k ∷ rest) (append_uncounted ks ls)

replaced_uncounted : (put : ControlPut) (k : ControlKept) → uncounted (control_after_put put (uncounted k)) ≡ control_after_put put (uncounted k)
replaced_uncounted put k = by (bytes_eq put.control.name k.control.name)
  where
    by : (b : Bool)
        → uncounted (cond b (record (uncounted k) { control = control_replaced k.control put.control }) (uncounted k))
        ≡ cond b (record (uncounted k) { control = control_replaced k.control put.control }) (uncounted k)
    by true = refl
    by false = refl

put_uncounted : (ks : List ControlKept) (put : ControlPut) → map uncounted (with_control (map uncounted ks) put) ≡ with_control (map uncounted ks) put
put_uncounted ks put = by (list_any (λ k. bytes_eq k.control.name put.control.name) (map uncounted ks))
  where
    first : ControlKept
    first = record { first = put.number; control = put.control; amounts = nothing_kept; times = nothing_kept }

    by : (b : Bool)
        → map uncounted (cond b (map (control_after_put put) (map uncounted ks)) (map uncounted ks ++ first ∷ []))
        ≡ cond b (map (control_after_put put) (map uncounted ks)) (map uncounted ks ++ first ∷ [])
    by true =
        ap (map uncounted) (map-map uncounted (control_after_put put) ks)
        ∙ map-map (λ (k : ControlKept). control_after_put put (uncounted k)) uncounted ks
        ∙ map-alike (λ (k : ControlKept). uncounted (control_after_put put (uncounted k))) (λ (k : ControlKept). control_after_put put (uncounted k)) (replaced_uncounted put) ks
        ∙ sym (map-map uncounted (control_after_put put) ks)
    by false = append_uncounted (map uncounted ks) (first ∷ []) ∙ ap (λ (ls : List ControlKept). ls ++ first ∷ []) (twice_uncounted ks)

-- ---- a setting that takes effect

-- with its record's number it does what it does to what was set
set_alone : (c : CoreState) (n : ℕ) (i : Input)
    → record (after_setting (record (set_part c) { count = n }) i) { count = 0 }
    ≡ cond (sets_something i) (set_part (after_setting (record (set_part c) { count = n }) i)) (set_part c)
set_alone c n (input.User token user) = λ j. record (set_part (after_setting (record (set_part c) { count = n }) (input.User token user))) { controls = sym (twice_uncounted c.controls) j }
set_alone c n (input.Card token card user product active) =
    λ j. record (set_part (after_setting (record (set_part c) { count = n }) (input.Card token card user product active))) { controls = sym (twice_uncounted c.controls) j }
set_alone c n (input.Move token (moved.Card card to)) =
    λ j. record (set_part (after_setting (record (set_part c) { count = n }) (input.Move token (moved.Card card to)))) { controls = sym (twice_uncounted c.controls) j }
set_alone c n (input.Move token (moved.User user to)) =
    λ j. record (set_part (after_setting (record (set_part c) { count = n }) (input.Move token (moved.User user to)))) { controls = sym (twice_uncounted c.controls) j }
set_alone c n (input.Product token product currency funding timeout_ms hold_ms) =
    λ j. record (set_part (after_setting (record (set_part c) { count = n }) (input.Product token product currency funding timeout_ms hold_ms))) { controls = sym (twice_uncounted c.controls) j }
set_alone c n (input.Group token group mccs) =
    λ j. record (set_part (after_setting (record (set_part c) { count = n }) (input.Group token group mccs))) { controls = sym (twice_uncounted c.controls) j }
set_alone c n (input.Control token control currency window amount_limit usage_limit association scope offset active) =
    λ j. record (set_part (after_setting (record (set_part c) { count = n }) (input.Control token control currency window amount_limit usage_limit association scope offset active))) {
      controls = sym (put_uncounted c.controls put) j;
    }
  where
    put : ControlPut
    put = record { number = n; control = record { name = control; currency = currency; window = window; amount_limit = amount_limit; usage_limit = usage_limit; association = association; scope = scope; offset = offset; active = active } }
set_alone c n (input.Set token set product currency connection timeout application max day_limit active) =
    λ j. record (set_part (after_setting (record (set_part c) { count = n }) (input.Set token set product currency connection timeout application max day_limit active))) { controls = sym (twice_uncounted c.controls) j }
set_alone c n (input.Switch token product on) =
    λ j. record (set_part (after_setting (record (set_part c) { count = n }) (input.Switch token product on))) { controls = sym (twice_uncounted c.controls) j }
set_alone c n _ = refl

pub set_again_as : (c : CoreState) (n : ℕ) (i : Input) → set_part c ≡ c
    → record (after_setting (record c { count = n }) i) { count = 0 } ≡ cond (sets_something i) (set_part (after_setting (record c { count = n }) i)) c
set_again_as c n i plain =
    subst
    (λ (d : CoreState). record (after_setting (record d { count = n }) i) { count = 0 } ≡ cond (sets_something i) (set_part (after_setting (record d { count = n }) i)) d)
    plain (set_alone c n i)

-- ---- what judges it

-- what isn't judged by settings sets nothing
pub unjudged : (f : Facts) (i : Input) → reason_before f i ≡ None → sets_something i ≡ false
unjudged f (input.User token user) e = cc
unjudged f (input.Card token card user product active) e = cc
unjudged f (input.Move token who) e = cc
unjudged f (input.Product token product currency funding timeout_ms hold_ms) e = cc
unjudged f (input.Group token group mccs) e = cc
unjudged f (input.Control token control currency window amount_limit usage_limit association scope offset active) e = cc
unjudged f (input.Set token set product currency connection timeout application max day_limit active) e = cc
unjudged f (input.Switch token product on) e = cc
unjudged f _ e = refl

-- a setting that may be done may take effect, with whatever number
pub settable_again : (c : CoreState) (n : ℕ) (i : Input) → reason_before (core_facts c) i ≡ Some None → setting_reason (core_facts (record c { count = n })) i ≡ None
settable_again c n (input.User token user) e = cc
settable_again c n (input.Card token card user product active) e = cc
settable_again c n (input.Move token (moved.Card card to)) e = cc
settable_again c n (input.Move token (moved.User user to)) e = cc
settable_again c n (input.Product token product currency funding timeout_ms hold_ms) e = cc
settable_again c n (input.Group token group mccs) e = cc
settable_again c n (input.Control token control currency window amount_limit usage_limit a s offset active) e =
    by (control_named control (map control_facts c.controls)) ∙ inside (control_reason (core_facts c) control currency window a s offset) e
  where
    f : Facts
    f = core_facts (record c { count = n })

    inside : (why : Option Reason) → Some why ≡ Some None → why ≡ None
    inside why e = cc

    users : (a : Association) → lacks_user f a ≡ lacks_user (core_facts c) a
    users association.Anybody = refl
    users (association.User user) = refl
    users (association.Product product) = refl

    products : (a : Association) → lacks_product f a ≡ lacks_product (core_facts c) a
    products association.Anybody = refl
    products (association.User user) = refl
    products (association.Product product) = refl

    groups : (s : Scope) → lacks_group f s ≡ lacks_group (core_facts c) s
    groups scope.All = refl
    groups (scope.Mcc mcc) = refl
    groups (scope.Group group) = refl
    groups (scope.Mid mid) = refl

    by : (o : Option ControlNow) → put_control_reason o f currency window a s offset ≡ put_control_reason o (core_facts c) currency window a s offset
    by None = λ i. first_reason ((users a i, reason.UserUnknown) ∷ (products a i, reason.ProductUnknown) ∷ (groups s i, reason.GroupUnknown) ∷ (is_full (map control_facts c.controls), reason.Limit) ∷ [])
    by (Some k) = refl
settable_again c n (input.Set token set product currency connection timeout application max day_limit active) e =
    by (set_named set c.stand_ins.sets) ∙ inside (set_reason (core_facts c) set product currency) e
  where
    inside : (why : Option Reason) → Some why ≡ Some None → why ≡ None
    inside why e = cc

    by : (o : Option Set) → put_set_reason o (core_facts (record c { count = n })) product currency ≡ put_set_reason o (core_facts c) product currency
    by None = refl
    by (Some s) = refl
settable_again c n (input.Switch token product on) e = cc
settable_again c n _ e = refl

-- ---- a core that is made again

set_seen : (ts : List Carried) (c : CoreState) (e : Seen) → set_part (with_seen ts c e) ≡ with_seen_setting (set_part c) e
set_seen ts c e = by (is_done e.verdict) (sets_something e.body.input) refl
  where
    by : (done b : Bool) → sets_something e.body.input ≡ b
        → set_part (cond done (after_setting (with_event c e) e.body.input) (with_event c e))
        ≡ cond (done && b) (set_part (after_setting (record (set_part c) { count = e.number }) e.body.input)) (set_part c)
    by true true sets = setting_part (with_event c e) e.number e.body.input sets refl
    by true false sets = unset (with_event c e) e.body.input sets
    by false b sets = refl

all_seen : (ts : List Carried) (c : CoreState) (es : List Seen) → set_part (fold (with_seen ts) c es) ≡ fold with_seen_setting (set_part c) es
all_seen ts c [] = refl
all_seen ts c (e ∷ es) = all_seen ts (with_seen ts c e) es ∙ ap (λ (d : CoreState). fold with_seen_setting d es) (set_seen ts c e)

-- no control has counted when it is put, or when another thing is set
uncounted_setting : (c : CoreState) (i : Input) → map uncounted c.controls ≡ c.controls → map uncounted (after_setting c i).controls ≡ (after_setting c i).controls
uncounted_setting c (input.User token user) h = h
uncounted_setting c (input.Card token card user product active) h = h
uncounted_setting c (input.Move token (moved.Card card to)) h = h
uncounted_setting c (input.Move token (moved.User user to)) h = h
uncounted_setting c (input.Product token product currency funding timeout_ms hold_ms) h = h
uncounted_setting c (input.Group token group mccs) h = h
uncounted_setting c (input.Control token control currency window amount_limit usage_limit association scope offset active) h =
    subst (λ (ks : List ControlKept). map uncounted (with_control ks put) ≡ with_control ks put) h (put_uncounted c.controls put)
  where
    put : ControlPut
    put = record { number = c.count; control = record { name = control; currency = currency; window = window; amount_limit = amount_limit; usage_limit = usage_limit; association = association; scope = scope; offset = offset; active = active } }
uncounted_setting c (input.Set token set product currency connection timeout application max day_limit active) h = h
uncounted_setting c (input.Switch token product on) h = h
uncounted_setting c _ h = h

uncounted_events : (ts : List Carried) (c : CoreState) (es : List Seen) → map uncounted c.controls ≡ c.controls → map uncounted (fold (with_seen ts) c es).controls ≡ (fold (with_seen ts) c es).controls
uncounted_events ts c [] h = h
uncounted_events ts c (e ∷ es) h = uncounted_events ts (with_seen ts c e) es (by (is_done e.verdict))
  where
    by : (done : Bool)
        → map uncounted (cond done (after_setting (with_event c e) e.body.input) (with_event c e)).controls
        ≡ (cond done (after_setting (with_event c e) e.body.input) (with_event c e)).controls
    by true = uncounted_setting (with_event c e) e.body.input h
    by false = h

-- What events set again is what the settings among them set.
pub record AreSetAgain (s : State) (c : CoreState) : Type 0 where
  pub cardholders : c.cardholders ≡ (rebuilt s).cardholders
  pub products : c.products ≡ (rebuilt s).products
  pub groups : c.groups ≡ (rebuilt s).groups
  pub controls : c.controls ≡ (events_again s).controls
  pub sets : c.stand_ins.sets ≡ (rebuilt s).stand_ins.sets
  pub stood : c.stand_ins.stood ≡ nothing_kept

events_set : (s : State) → AreSetAgain s (set_part (events_again s))
events_set s = record { cardholders = refl; products = refl; groups = refl; controls = uncounted_events s.txns no_core s.events refl; sets = refl; stood = refl }

pub settings_again : (s : State) (c : CoreState) → c ≡ fold with_seen_setting no_core s.events → AreSetAgain s c
settings_again s c is = subst (AreSetAgain s) (all_seen s.txns no_core s.events ∙ sym is) (events_set s)

-- ---- one event

pub none_judged : (r : Option (Option Reason)) (v : Option Verdict) → None ≡ r → (IsTrue true ↔ IsJudged r v)
none_judged r v e = subst (λ (r : Option (Option Reason)). IsTrue true ↔ IsJudged r v) e ((λ h. tt), (λ h. refl))

pub declined_judged : (r : Option (Option Reason)) (v : Option Verdict) (why : Reason) (b : Bool) → Some (Some why) ≡ r → (IsTrue b ↔ (v ≡ Some (verdict.Declined why))) → (IsTrue b ↔ IsJudged r v)
declined_judged r v why b e h = subst (λ (r : Option (Option Reason)). IsTrue b ↔ IsJudged r v) e h

pub done_judged : (r : Option (Option Reason)) (v : Option Verdict) (b : Bool) → Some None ≡ r → b ≡ is_done v → (IsTrue b ↔ IsJudged r v)
done_judged r v b e is = subst (λ (r : Option (Option Reason)). IsTrue b ↔ IsJudged r v) e ((λ h. only v (sym is ∙ h)), (λ h. is ∙ ap is_done h))
  where
    only : (v : Option Verdict) → is_done v ≡ true → v ≡ Some verdict.Done
    only None h = cc
    only (Some verdict.Done) h = refl
    only (Some verdict.Approved) h = cc
    only (Some (verdict.Partial currency amount)) h = cc
    only (Some (verdict.Declined why)) h = cc

pub none_set : (c : CoreState) (e : Seen) → None ≡ reason_before (core_facts c) e.body.input → c ≡ with_seen_setting c e
none_set c e none = by (is_done e.verdict) (sets_something e.body.input) (unjudged (core_facts c) e.body.input (sym none))
  where
    by : (done b : Bool) → b ≡ false → c ≡ cond (done && b) (set_part (after_setting (record c { count = e.number }) e.body.input)) c
    by true true h = cc
    by true false h = refl
    by false b h = refl

pub declined_set : (c : CoreState) (e : Seen) (why : Reason) (b : Bool) → (IsTrue b ↔ (e.verdict ≡ Some (verdict.Declined why))) → IsTrue b → c ≡ with_seen_setting c e
declined_set c e why b h t = sym (ap (λ (v : Option Verdict). cond (is_done v && sets_something e.body.input) (set_part (after_setting (record c { count = e.number }) e.body.input)) c) (h.0 t))

pub done_set : (c d : CoreState) (e : Seen) → is_done e.verdict ≡ true → d ≡ cond (sets_something e.body.input) (set_part (after_setting (record c { count = e.number }) e.body.input)) c → d ≡ with_seen_setting c e
done_set c d e done is = is ∙ sym (ap (λ (b : Bool). cond (b && sets_something e.body.input) (set_part (after_setting (record c { count = e.number }) e.body.input)) c) done)

-- ---- one event after the other

pub seen_plain : (c : CoreState) (e : Seen) → set_part c ≡ c → set_part (with_seen_setting c e) ≡ with_seen_setting c e
seen_plain c e plain = by (is_done e.verdict && sets_something e.body.input)
  where
    next : CoreState
    next = after_setting (record c { count = e.number }) e.body.input

    by : (b : Bool) → set_part (cond b (set_part next) c) ≡ cond b (set_part next) c
    by true = λ j. record (set_part next) { controls = twice_uncounted next.controls j }
    by false = plain

-- What is left of the events after one of them, which is judged, is judged as they were, and sets what they did.
pub record GoesOn (c : CoreState) (es : List Seen) (P : Type 0) (all : CoreState) : Type 0 where
  pub plain : set_part c ≡ c
  pub judged : AreJudged c es ↔ P
  pub set : fold with_seen_setting c es ≡ all

pub goes_on : (c d : CoreState) (e : Seen) (xs es : List Seen) (b : Bool) (P : Type 0) (all : CoreState) → GoesOn c xs P all → xs ≡ e ∷ es
    → (IsTrue b ↔ IsJudged (reason_before (core_facts c) e.body.input) e.verdict) → IsTrue b → d ≡ with_seen_setting c e → GoesOn d es P all
goes_on c d e xs es b P all on is judged t same =
    subst (λ (d : CoreState). GoesOn d es P all) (sym same) (
    let on' : GoesOn c (e ∷ es) P all = subst (λ (xs : List Seen). GoesOn c xs P all) is on in
    record {
      plain = seen_plain c e on.plain;
      judged = ((λ h. on'.judged.0 (judged.0 t, h)), (λ p. (on'.judged.1 p).1));
      set = on'.set;
    }
    )

pub stops : (c : CoreState) (e : Seen) (xs es : List Seen) (P : Type 0) (all : CoreState) → GoesOn c xs P all → xs ≡ e ∷ es
    → (IsTrue false ↔ IsJudged (reason_before (core_facts c) e.body.input) e.verdict) → (IsTrue false ↔ P)
stops c e xs es P all on is judged =
    let on' : GoesOn c (e ∷ es) P all = subst (λ (xs : List Seen). GoesOn c xs P all) is on in
    ((λ t. absurd (never t)), (λ p. judged.1 ((on'.judged.1 p).0)))
  where
    never : IsTrue false → ⊥
    never t = cc
