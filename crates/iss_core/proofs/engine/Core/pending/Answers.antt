use Rattle.std.proofs.Common.{ap}
use Rattle.iss_model.specs.rules.Facts.{Facts}
use Rattle.iss_core.specs.States.{kept_state}
use Rattle.iss_core.proofs.OnBook.{listed_by_state}
use Rattle.iss_core.proofs.engine.Core.pending.Goals as goal

pub returns-clause-on_book : goal.returns-clause-on_book
returns-clause-on_book c = λ rs stands.
    listed_by_state (λ v. v.items) c.args.self.now (kept_state c.self.inside.state.value) rs (λ (f : Facts). f.pending) c.pending_notices.result (ap (λ x. x.state) c.self.view_is) (rw c.deref.ensures at c.pending_notices.ensures) stands
