use Rattle.std.proofs.Common.{◌≡◌, ◌++◌, map, drop}
use Rattle.iss_model.specs.state.Cores.{core_facts}
use Rattle.iss_core.specs.declared.due.Due.TheVariants.{Call}
use Rattle.iss_core.specs.States.{kept_state}
use Rattle.iss_core.specs.Sweeps.{calls_until, calls_after}
use Rattle.iss_core.proofs.state.State.push_until.Given as goal

-- what went out, and then what is to come
abbrev pub invariant-loop-place : goal.invariant-loop-place
invariant-loop-place l = record {
  due : l.due.items ++ map Call (calls_until (core_facts (kept_state l.self)).calls l.until (drop l.place l.calls))
      ≡ l.initial.due.items ++ map Call (calls_until (core_facts (kept_state l.self)).calls l.until l.calls);
  rest : calls_after (core_facts (kept_state l.self)).calls l.until (drop l.place l.calls)
      ≡ calls_after (core_facts (kept_state l.self)).calls l.until l.calls;
}
