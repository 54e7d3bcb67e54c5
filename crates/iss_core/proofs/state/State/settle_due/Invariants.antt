use Rattle.std.proofs.Common.{◌≡◌, drop, map}
use Rattle.iss_model.specs.rules.Stepping.{after_due}
use Rattle.iss_model.specs.state.Cores.{core_keeper}
use Rattle.iss_core.specs.States.{kept_state}
use Rattle.iss_core.specs.Sound.{IsTakenUp}
use Rattle.iss_core.specs.Sweeps.{thing_of, settled_from}
use Rattle.iss_core.proofs.state.State.settle_due.Given as goal

abbrev pub invariant-loop-thing : goal.invariant-loop-thing
invariant-loop-thing l = record {
  settled : settled_from l.accepted.at (kept_state l.self) l.out.items (map thing_of (drop l.thing-index l.thing-items)) ≡ after_due core_keeper (kept_state l.fn.self) l.accepted.at;
  taken_up : IsTakenUp l.accepted.input (kept_state l.self);
}
