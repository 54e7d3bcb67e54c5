use Rattle.std.proofs.Common.{◌≡◌}
use Rattle.iss_velocity.specs.Puts.{standing_after_change}
use Rattle.iss_velocity.proofs.Adding.{first_changed}
use Rattle.iss_velocity.proofs.table.change_all.Given as goal

abbrev pub invariant-loop-i : goal.invariant-loop-i
invariant-loop-i l = l.controls.items ≡ first_changed (standing_after_change l.name l.change) l.i l.initial.controls.items
