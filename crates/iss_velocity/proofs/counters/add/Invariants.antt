use Rattle.std.proofs.Common.{◌≡◌}
use Rattle.iss_velocity.specs.Counting.{counter_then}
use Rattle.iss_velocity.proofs.Adding.{first_changed}
use Rattle.iss_velocity.proofs.counters.add.Given as goal

abbrev pub invariant-loop-i : goal.invariant-loop-i
invariant-loop-i l = l.list.items ≡ first_changed (counter_then l.controls l.groups l.row) l.i l.initial.list.items
