-- How controls are put and changed, and the reasons of refusals.
use Rattle.std.specs.Prelude.{ℕ, Bool, not, List, [], ◌∷◌, find, Option, Some, None, Result, Ok, Err, if◌then◌else◌}
use Rattle.std.specs.Str.{bytes_eq}
use Rattle.iss_model.specs.declared.setting.Control.{Control}
use Rattle.iss_model.specs.declared.decision.Reason.{Reason}
use Rattle.iss_model.specs.declared.decision.Reason.TheVariants as reason
use Rattle.iss_model.specs.rules.Controls.{ControlPut}
use Rattle.iss_model.specs.rules.Reasons.{first_reason, is_full, is_same_control}
use Rattle.iss_model.specs.state.Cores.{ControlKept}
use Rattle.iss_velocity.specs.declared.standing.Standing.{Standing}
use Rattle.iss_velocity.specs.declared.standing.Limits.{Limits}
use Rattle.iss_velocity.specs.declared.standing.Change.{Change}
use Rattle.iss_velocity.specs.declared.controls.ControlFault.{ControlFault}
use Rattle.iss_velocity.specs.declared.controls.ControlFault.TheVariants as fault

-- the control of this name
abbrev pub kept_named : List ℕ → List ControlKept → Option ControlKept
kept_named name controls = find (λ c. bytes_eq c.control.name name) controls

-- a control that stands keeps all but its limits and its activity; a new one fits in
abbrev pub put_reason : Option ControlKept → List ControlKept → Control → Option Reason
put_reason (Some c) controls put =
    first_reason ((not (is_same_control c.control put.currency put.window put.association put.scope put.offset), reason.ControlFixed) ∷ [])
put_reason None controls put = first_reason ((is_full controls, reason.Limit) ∷ [])

-- why a control that is put among these is refused
abbrev pub reason_among : List ControlKept → Control → Option Reason
reason_among controls put = put_reason (kept_named put.name controls) controls put

-- a control that stands has all of another that may not change
abbrev pub is_fixed_as : Control → Control → Bool
is_fixed_as standing put = is_same_control standing put.currency put.window put.association put.scope put.offset

-- the control of this name among those that stand
abbrev pub standing_named : List ℕ → List Standing → Option Standing
standing_named name controls = find (λ s. bytes_eq s.control.name name) controls

-- the limits of a change, if it has any
abbrev pub with_limits : Option Limits → Control → Control
with_limits None control = control
with_limits (Some limits) control = record control { amount_limit = limits.amount; usage_limit = limits.usage }

-- the activity of a change, if it has one
abbrev pub with_activity : Option Bool → Control → Control
with_activity None control = control
with_activity (Some active) control = record control { active = active }

-- the control of this name after a change, another one stays as it is
abbrev pub standing_after_change : List ℕ → Change → Standing → Standing
standing_after_change name change s =
    if bytes_eq name s.control.name then record s { control = with_activity change.active (with_limits change.limits s.control) } else s

abbrev pub kept_after_change : List ℕ → Change → ControlKept → ControlKept
kept_after_change name change c =
    if bytes_eq name c.control.name then record c { control = with_activity change.active (with_limits change.limits c.control) } else c

-- the control of this name takes these limits, another one stays as it is
abbrev pub control_after_limits : List ℕ → Option ℕ → Option ℕ → ControlKept → ControlKept
control_after_limits name amount usage c =
    if bytes_eq name c.control.name then record c { control = record (c.control) { amount_limit = amount; usage_limit = usage } } else c

-- the control of this name is active or not, another one stays as it is
abbrev pub control_after_activity : List ℕ → Bool → ControlKept → ControlKept
control_after_activity name active c =
    if bytes_eq name c.control.name then record c { control = record (c.control) { active = active } } else c

-- the reason of a fault; a failed allocation has none
abbrev pub control_fault_reason : ControlFault → Option Reason
control_fault_reason fault.Fixed = Some reason.ControlFixed
control_fault_reason fault.Limit = Some reason.Limit
control_fault_reason fault.OutOfMemory = None

-- the reason of a result
abbrev pub control_result_reason : {A : Type 0} → Result A ControlFault → Option Reason
control_result_reason (Ok x) = None
control_result_reason (Err f) = control_fault_reason f

-- a control that is put for the first time, by the record of this number
abbrev pub first_put : ℕ → Control → ControlPut
first_put number control = record { number = number; control = control }
