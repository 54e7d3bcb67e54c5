use Rattle.std.proofs.Common.{◌≡◌}
use Rattle.iss_model.specs.state.Cores.{core_facts}
use Rattle.iss_drill.specs.Drills.{held_of_users}
use Rattle.iss_drill.proofs.report.held_of_all.Given as goal

abbrev pub invariant-loop-digit : goal.invariant-loop-digit
invariant-loop-digit l = l.held ≡ held_of_users (core_facts l.core.state) l.digit
