use Rattle.std.proofs.Common.{sym, ◌∙◌}
use Rattle.iss_call.specs.States.{seen_call}
use Rattle.iss_core.proofs.Bounds.{asked_little, is_none_of}
use Rattle.iss_core.proofs.state.State.asked.Goals as goal

pub returns-clause-small : goal.returns-clause-small
returns-clause-small c =
    asked_little c.args.self.now.calls c.args.call.0 (seen_call c.in_ok-call.call) c.requires.order.amounts (sym c.in_ok-call.ensures)
    (is_none_of c.in_ok-call.call.how (sym c.is_some.ensures ∙ c.if-is_some.false))
