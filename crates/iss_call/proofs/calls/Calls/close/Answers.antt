use Rattle.std.proofs.Common.{List, refl, sym, subst, ◌∙◌, true≢false}
use Rattle.iss_model.specs.rules.Activity.{CallNow}
use Rattle.iss_call.specs.Orders.{AreNumbered}
use Rattle.iss_call.proofs.Numbered.{not_asked_stays}
use Rattle.iss_call.proofs.calls.Calls.close.Goals as goal

pub returns-in_default : goal.returns-in_default
returns-in_default c =
    record {
      exactly = (λ e. absurd (true≢false (sym e)), λ e. absurd (c.in_default.not-Asked (c.state.ensures ∙ e)));
      state = c.state.ensures;
      closed =
          sym (not_asked_stays 1 c.args.self.now c.args.id.0 c.args.how (subst (λ (cs : List CallNow). AreNumbered 1 cs) c.self.view_is c.self.invariant.ordered.numbered)
          (λ e. c.in_default.not-Asked (c.state.ensures ∙ e)));
      unchanged = refl;
    }
