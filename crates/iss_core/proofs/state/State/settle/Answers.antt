use Rattle.std.proofs.Common.{sym, subst, ◌∙◌, arith}
use Rattle.iss_model.specs.rules.Due.{thing_entries}
use Rattle.iss_model.specs.state.Cores.{core_facts}
use Rattle.iss_core.specs.States.{kept_state}
use Rattle.iss_core.specs.Entering.{MayAllEnter}
use Rattle.iss_core.specs.Sweeps.{thing_of}
use Rattle.iss_core.proofs.Bounds.{sliced}
use Rattle.iss_core.proofs.Upheld.{in_order, due_may, settled_up}
use Rattle.iss_core.proofs.state.State.settle.Goals as goal

pub put_due-requires-clause-order : goal.put_due-requires-clause-order
put_due-requires-clause-order c = in_order c.args.accepted.now.input (kept_state c.args.self.now) c.requires.taken_up

pub enter_all-requires : goal.enter_all-requires
enter_all-requires c =
    let s = kept_state c.args.self.now in
    let r = c.args.accepted.now in
    let len = c.args.out.now.ok.0 in
    let at = c.len-start.ensures in
    subst (MayAllEnter s)
    (sym (sliced c.args.out.now.items (thing_entries (thing_of c.args.thing.now) r.at (core_facts s)) c.deref.result.now c.len-start.result (c.deref.ensures.value ∙ c.in_ok-put_due.ensures) (omega (arith, len, at))))
    (due_may r.input s (thing_of c.args.thing.now) r.at c.requires.taken_up c.requires.stamp)

pub returns-clause-taken_up : goal.returns-clause-taken_up
returns-clause-taken_up c =
    let s = kept_state c.args.self.now in
    let r = c.args.accepted.now in
    let len = c.args.out.now.ok.0 in
    let at = c.len-start.ensures in
    settled_up c.enter_all.result r.input s (kept_state c.enter_all.new.self) _ (thing_of c.args.thing.now) r.at c.enter_all.ensures
    (sliced c.args.out.now.items (thing_entries (thing_of c.args.thing.now) r.at (core_facts s)) c.deref.result.now c.len-start.result (c.deref.ensures.value ∙ c.in_ok-put_due.ensures) (omega (arith, len, at)))
    c.requires.taken_up c.requires.stamp
