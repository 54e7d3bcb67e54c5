use Rattle.std.proofs.Common.{◌∙◌, subst}
use Rattle.std.proofs.lemmas.Result.{IfOk-weaker}
use Rattle.iss_model.specs.rules.Activity.{is_asked}
use Rattle.iss_call.specs.Orders.{AreNumbered}
use Rattle.iss_call.proofs.Found.{found_by}
use Rattle.iss_call.proofs.calls.Calls.asked_opened.Goals as goal

pub returns : goal.returns
returns c =
    IfOk-weaker c.opened_of.result _ _
    (λ v e. e ∙ found_by c.args.self.now is_asked c.deref.result.now (subst (AreNumbered 1) c.self.view_is c.self.invariant.ordered.numbered) (c.deref.ensures.value ∙ c.in_ok-ids.ensures))
    c.opened_of.ensures
