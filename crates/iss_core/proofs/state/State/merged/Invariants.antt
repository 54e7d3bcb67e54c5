use Rattle.std.proofs.Common.{◌≡◌, ◌++◌, map, drop, fold}
use Rattle.iss_model.specs.rules.Due.{items_with}
use Rattle.iss_model.specs.state.Cores.{core_facts}
use Rattle.iss_core.specs.States.{kept_state}
use Rattle.iss_core.specs.Sweeps.{thing_of, AreOrdered, call_items, txn_items}
use Rattle.iss_core.proofs.state.State.merged.Given as goal

-- what went out, and then what is to come, which is in its order
abbrev pub invariant-loop-txn : goal.invariant-loop-txn
invariant-loop-txn l = record {
  ordered : AreOrdered (txn_items (core_facts (kept_state l.self)).txns (drop l.txn-index l.txns));
  out : map thing_of l.due.items
      ++ map (λ item. item.thing) (fold items_with (call_items (core_facts (kept_state l.self)).calls l.left) (txn_items (core_facts (kept_state l.self)).txns (drop l.txn-index l.txns)))
      ≡ map (λ item. item.thing) (fold items_with (call_items (core_facts (kept_state l.self)).calls l.calls) (txn_items (core_facts (kept_state l.self)).txns l.txns));
}
