use Rattle.std.proofs.Common.{sym, subst, ◌∙◌, arith}
use Rattle.iss_model.specs.rules.Stepping.{entries_of}
use Rattle.iss_model.specs.state.Cores.{core_facts}
use Rattle.iss_core.specs.States.{kept_state}
use Rattle.iss_core.specs.Entering.{MayAllEnter}
use Rattle.iss_core.proofs.Bounds.{sliced}
use Rattle.iss_core.proofs.Upheld.{in_order, own_may}
use Rattle.iss_core.proofs.state.State.make.Goals as goal

pub put_own-requires-clause-order : goal.put_own-requires-clause-order
put_own-requires-clause-order c = in_order c.args.accepted.now.input (kept_state c.args.self.now) c.requires.taken_up

pub enter_all-requires : goal.enter_all-requires
enter_all-requires c =
    let s = kept_state c.args.self.now in
    let r = c.args.accepted.now in
    let len = c.args.out.now.ok.0 in
    let at = c.len-start.ensures in
    subst (MayAllEnter s)
    (sym (sliced c.args.out.now.items (entries_of r.input r.at (core_facts s)) c.deref.result.now c.len-start.result (c.deref.ensures.value ∙ c.in_ok-put_own.ensures) (omega (arith, len, at))))
    (own_may r.input s r.at c.requires.taken_up c.requires.input_form c.requires.stamp)
