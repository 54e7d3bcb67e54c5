use Rattle.std.proofs.Common.{ap}
use Rattle.iss_core.specs.Views.{asked_openings}
use Rattle.iss_core.specs.States.{kept_state}
use Rattle.iss_core.proofs.OnBook.{listed_by_state}
use Rattle.iss_core.proofs.engine.Core.asked.Goals as goal

pub returns-clause-on_book : goal.returns-clause-on_book
returns-clause-on_book c = λ rs stands.
    listed_by_state (λ v. v.items) c.args.self.now (kept_state c.self.inside.state.value) rs asked_openings c.asked_opened.result (ap (λ x. x.state) c.self.view_is) (rw c.deref.ensures at c.asked_opened.ensures) stands
