use Rattle.std.proofs.Common.{ap}
use Rattle.iss_core.specs.States.{kept_state}
use Rattle.iss_core.proofs.ShownKeys.{state_told}
use Rattle.iss_core.proofs.engine.Core.state.Goals as goal

pub returns-clause-on_book : goal.returns-clause-on_book
returns-clause-on_book c = λ rs stands.
    state_told c.args.self.now (kept_state c.self.inside.state.value) rs c.shown.result (ap (λ x. x.state) c.self.view_is) (rw c.deref.ensures at c.shown.ensures) stands
