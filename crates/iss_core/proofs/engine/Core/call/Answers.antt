use Rattle.std.proofs.Common.{ap}
use Rattle.iss_model.specs.rules.Facts.{call_in, Facts}
use Rattle.iss_call.specs.States.{call_state_of}
use Rattle.iss_core.specs.States.{kept_state}
use Rattle.iss_core.proofs.OnBook.{told_by_state}
use Rattle.iss_core.proofs.engine.Core.call.Goals as goal

pub returns-clause-on_book : goal.returns-clause-on_book
returns-clause-on_book c = λ rs stands.
    told_by_state c.args.self.now (kept_state c.self.inside.state.value) rs (λ (f : Facts). call_state_of (call_in f c.args.call.0)) c.state.result (ap (λ x. x.state) c.self.view_is)
    (rw c.deref.ensures at c.state.ensures) stands
