use Rattle.std.proofs.Common.{ap}
use Rattle.iss_model.specs.rules.Facts.{event_reply, Facts}
use Rattle.iss_core.specs.States.{kept_state}
use Rattle.iss_core.proofs.OnBook.{told_by_state}
use Rattle.iss_core.proofs.engine.Core.reply.Goals as goal

pub returns-clause-on_book : goal.returns-clause-on_book
returns-clause-on_book c = λ rs stands.
    told_by_state c.args.self.now (kept_state c.self.inside.state.value) rs (λ (f : Facts). event_reply f c.args.event.now) c.reply.result (ap (λ x. x.state) c.self.view_is)
    (rw c.deref.ensures at c.reply.ensures) stands
