-- Why a control is declined, by the one of its name that is kept.
use Rattle.std.proofs.Common.{◌≡◌, ℕ, suc, Bool, true, false, cond, not, nat_le, List, [], ◌∷◌, map, length, refl, sym, ap, ◌∙◌}
use Rattle.std.specs.Prelude.{Option, Some, None, option_map}
use Rattle.std.specs.Str.{bytes_eq}
use Rattle.iss_model.specs.declared.limits.TheConstants.{MOST_OF_A_KIND}
use Rattle.iss_model.specs.declared.setting.Control.{Control}
use Rattle.iss_model.specs.declared.decision.Reason.{Reason}
use Rattle.iss_model.specs.declared.decision.Reason.TheVariants as reason
use Rattle.iss_model.specs.rules.Controls.{ControlNow, control_named}
use Rattle.iss_model.specs.rules.Reasons.{first_reason, is_full, is_same_control, lacks_user, lacks_product, lacks_group, put_control_reason, control_reason}
use Rattle.iss_model.specs.state.Cores.{CoreState, ControlKept, control_facts, core_facts}
use Rattle.iss_velocity.specs.Puts.{kept_named, put_reason}

named : (name : List ℕ) (cs : List ControlKept) → control_named name (map control_facts cs) ≡ option_map control_facts (kept_named name cs)
named name [] = refl
named name (c ∷ cs) = by (bytes_eq c.control.name name) (named name cs)
  where
    by : (b : Bool) → control_named name (map control_facts cs) ≡ option_map control_facts (kept_named name cs)
        → cond b (Some (control_facts c)) (control_named name (map control_facts cs)) ≡ option_map control_facts (cond b (Some c) (kept_named name cs))
    by true rest = refl
    by false rest = rest

by_kept : (s : CoreState) (put : Control) (o : Option ControlKept) → kept_named put.name s.controls ≡ o
    → control_reason (core_facts s) put.name put.currency put.window put.association put.scope put.offset ≡ put_control_reason (option_map control_facts o) (core_facts s) put.currency put.window put.association put.scope put.offset
by_kept s put o e =
    ap (λ (k : Option ControlNow). put_control_reason k (core_facts s) put.currency put.window put.association put.scope put.offset)
    (named put.name s.controls ∙ ap (option_map control_facts) e)

-- one that stands keeps all but its limits and its activity
pub known_control : (s : CoreState) (put standing : Control) → Some standing ≡ option_map (λ (c : ControlKept). c.control) (kept_named put.name s.controls)
    → first_reason ((not (is_same_control standing put.currency put.window put.association put.scope put.offset), reason.ControlFixed) ∷ [])
    ≡ control_reason (core_facts s) put.name put.currency put.window put.association put.scope put.offset
known_control s put standing e = by (kept_named put.name s.controls) refl e
  where
    by : (o : Option ControlKept) → kept_named put.name s.controls ≡ o → Some standing ≡ option_map (λ (c : ControlKept). c.control) o
        → first_reason ((not (is_same_control standing put.currency put.window put.association put.scope put.offset), reason.ControlFixed) ∷ [])
        ≡ control_reason (core_facts s) put.name put.currency put.window put.association put.scope put.offset
    by None is e = cc
    by (Some c) is e =
        let same : standing ≡ c.control = cc in
        ap (λ (x : Control). first_reason ((not (is_same_control x put.currency put.window put.association put.scope put.offset), reason.ControlFixed) ∷ [])) same
        ∙ sym (by_kept s put (Some c) is)

-- a new one names what is known, and fits in
pub unknown_control : (s : CoreState) (put : Control) → None ≡ option_map (λ (c : ControlKept). c.control) (kept_named put.name s.controls)
    → put_control_reason None (core_facts s) put.currency put.window put.association put.scope put.offset ≡ control_reason (core_facts s) put.name put.currency put.window put.association put.scope put.offset
unknown_control s put e = by (kept_named put.name s.controls) refl e
  where
    by : (o : Option ControlKept) → kept_named put.name s.controls ≡ o → None ≡ option_map (λ (c : ControlKept). c.control) o
        → put_control_reason None (core_facts s) put.currency put.window put.association put.scope put.offset ≡ control_reason (core_facts s) put.name put.currency put.window put.association put.scope put.offset
    by None is e = sym (by_kept s put None is)
    by (Some c) is e = cc

as_many : (cs : List ControlKept) → length (map control_facts cs) ≡ length cs
as_many [] = refl
as_many (c ∷ cs) = ap suc (as_many cs)

only_last : (a b c d : Bool) (x y z w : Reason) → first_reason ((a, x) ∷ (b, y) ∷ (c, z) ∷ (d, w) ∷ []) ≡ None → first_reason ((d, w) ∷ []) ≡ None
only_last false false false d x y z w h = h
only_last true b c d x y z w h = cc
only_last false true c d x y z w h = cc
only_last false false true d x y z w h = cc

-- so if there is no reason to decline a control, it can be put
pub put_fits : (s : CoreState) (put : Control) → control_reason (core_facts s) put.name put.currency put.window put.association put.scope put.offset ≡ None
    → put_reason (kept_named put.name s.controls) s.controls put ≡ None
put_fits s put none = by (kept_named put.name s.controls) refl
  where
    by : (o : Option ControlKept) → kept_named put.name s.controls ≡ o → put_reason o s.controls put ≡ None
    by (Some c) is = sym (by_kept s put (Some c) is) ∙ none
    by None is =
        ap (λ (n : ℕ). first_reason ((nat_le MOST_OF_A_KIND n, reason.Limit) ∷ [])) (sym (as_many s.controls))
        ∙ only_last (lacks_user (core_facts s) put.association) (lacks_product (core_facts s) put.association) (lacks_group (core_facts s) put.scope) (is_full (core_facts s).controls)
        reason.UserUnknown reason.ProductUnknown reason.GroupUnknown reason.Limit (sym (by_kept s put None is) ∙ none)
