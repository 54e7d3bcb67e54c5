use Rattle.std.proofs.Common.{◌≡◌, ◌-◌, ◌≤◌, length, map, take}
use Rattle.iss_model.specs.state.Cores.{core_facts}
use Rattle.iss_exchange.proofs.cores.calls_of.Given as goal

-- the first calls were taken
abbrev pub invariant-calls : goal.invariant-calls
invariant-calls l = record {
  taken : l.calls.items ≡ take l.count (map (λ c. c.opened) (core_facts l.core.state).calls);
  few : l.count ≤ length (core_facts l.core.state).calls;
}

abbrev pub decreases-calls : goal.decreases-calls
decreases-calls l = length (core_facts l.core.state).calls - l.count
