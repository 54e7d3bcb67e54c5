use Rattle.std.proofs.Common.{List, ◌<◌, length, not, ap, ◌∙◌}
use Rattle.iss_model.specs.rules.Activity.{CallNow}
use Rattle.iss_model.specs.rules.Due.{is_quiet}
use Rattle.iss_call.specs.Named.{calls_in}
use Rattle.iss_call.specs.States.{calls_due}
use Rattle.iss_call.proofs.DueOrder.{first_due, none_due}
use Rattle.iss_call.proofs.calls.Calls.is_due.Goals as goal

pub returns-in-Some : goal.returns-in-Some
returns-in-Some c =
    first_due c.args.now (calls_in c.self.inside.names 1 c.self.inside.rows.items) c.self.inside.orders.deadlines.keys c.in-Some.field-0.now c.self.invariant.ordered.numbered c.self.invariant.ordered.deadlines c.in-Some.ensures.first
    ∙ ap (λ (cs : List CallNow). not (is_quiet (calls_due cs c.args.now))) c.self.view_is

pub returns-in-None : goal.returns-in-None
returns-in-None c =
    none_due c.args.now (calls_in c.self.inside.names 1 c.self.inside.rows.items) c.self.inside.orders.deadlines.keys c.self.invariant.ordered.numbered c.self.invariant.ordered.deadlines
    (λ (h : 0 < length c.self.inside.orders.deadlines.keys). let some = c.in-None.ensures.variant.1 h in absurd (cc))
    ∙ ap (λ (cs : List CallNow). not (is_quiet (calls_due cs c.args.now))) c.self.view_is
