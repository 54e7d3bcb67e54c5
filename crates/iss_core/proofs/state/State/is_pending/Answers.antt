use Rattle.std.proofs.Common.{List, ap, ◌∙◌}
use Rattle.std.specs.List.{list_any}
use Rattle.iss_model.specs.declared.call.Opened.{Opened}
use Rattle.iss_model.specs.rules.Asks.{is_authorization}
use Rattle.iss_call.specs.States.{asked_of}
use Rattle.iss_core.proofs.Bounds.{any_opened}
use Rattle.iss_core.proofs.state.State.is_pending.Goals as goal

pub returns : goal.returns
returns c =
    c.is_any_authorization.ensures
    ∙ ap (λ (os : List Opened). list_any (λ (o : Opened). is_authorization o.method) os) (c.deref.ensures.value ∙ c.in_ok-asked.ensures)
    ∙ any_opened (λ (o : Opened). is_authorization o.method) (asked_of c.args.self.now.calls c.args.txn.now.token)
