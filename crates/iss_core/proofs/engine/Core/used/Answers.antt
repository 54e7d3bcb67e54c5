use Rattle.std.proofs.Common.{ap}
use Rattle.iss_model.specs.rules.Asks.{used_in}
use Rattle.iss_model.specs.rules.Facts.{Facts}
use Rattle.iss_core.specs.States.{kept_state}
use Rattle.iss_core.proofs.OnBook.{told_by_state}
use Rattle.iss_core.proofs.engine.Core.used.Goals as goal

pub returns-clause-on_book : goal.returns-clause-on_book
returns-clause-on_book c = λ rs stands.
    told_by_state c.args.self.now (kept_state c.self.inside.state.value) rs (λ (f : Facts). used_in f c.args.control.now c.args.user.now c.args.at) c.used.result (ap (λ x. x.state) c.self.view_is)
    (rw c.deref.ensures at c.used.ensures) stands
