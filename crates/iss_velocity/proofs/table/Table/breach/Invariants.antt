use Rattle.std.proofs.Common.{◌≡◌, map, drop}
use Rattle.iss_model.specs.state.Cores.{control_facts}
use Rattle.iss_velocity.specs.Words.{breach_of}
use Rattle.iss_velocity.specs.Lists.{IsSplit}
use Rattle.iss_velocity.specs.Keeping.{controls_from, controls_in}
use Rattle.iss_velocity.proofs.table.Table.breach.Given as goal

abbrev pub invariant-loop-place : goal.invariant-loop-place
invariant-loop-place l =
    IsSplit l.counters l.next l.place
    × (breach_of l.groups (map control_facts (controls_in l.self)) l.row l.first
    ≡ breach_of l.groups (map control_facts (controls_from l.self.users l.self.past l.place (drop l.place l.self.controls.items))) l.row l.first)
