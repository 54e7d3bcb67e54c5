-- Merchant groups as they are kept, and the reasons of refusals.
use Rattle.std.specs.Prelude.{Option, Some, None, Result, Ok, Err}
use Rattle.iss_model.specs.declared.decision.Reason.{Reason}
use Rattle.iss_model.specs.declared.decision.Reason.TheVariants as reason
use Rattle.iss_model.specs.rules.Controls.{Group}
use Rattle.iss_scope.specs.declared.groups.MerchantGroup.{MerchantGroup}
use Rattle.iss_scope.specs.declared.groups.GroupFault.{GroupFault}
use Rattle.iss_scope.specs.declared.groups.GroupFault.TheVariants as fault

-- a group that is kept, as the rules see it
abbrev pub group_of : MerchantGroup → Group
group_of g = record { name = g.name; mccs = g.mccs }

-- the reason of a fault; a failed allocation has none
abbrev pub group_fault_reason : GroupFault → Option Reason
group_fault_reason fault.Exists = Some reason.Exists
group_fault_reason fault.Limit = Some reason.Limit
group_fault_reason fault.OutOfMemory = None

-- the reason of a result
abbrev pub group_result_reason : {A : Type 0} → Result A GroupFault → Option Reason
group_result_reason (Ok x) = None
group_result_reason (Err f) = group_fault_reason f
