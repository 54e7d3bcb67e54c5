use Rattle.std.proofs.Common.{ap}
use Rattle.std.specs.Option.{option_map}
use Rattle.iss_model.specs.rules.Activity.{CallNow}
use Rattle.iss_model.specs.rules.Facts.{call_in, Facts}
use Rattle.iss_core.specs.States.{kept_state}
use Rattle.iss_core.proofs.OnBook.{told_by_state}
use Rattle.iss_core.proofs.engine.Core.opened.Goals as goal

pub returns-clause-on_book : goal.returns-clause-on_book
returns-clause-on_book c = λ rs stands.
    told_by_state c.args.self.now (kept_state c.self.inside.state.value) rs (λ (f : Facts). option_map (λ (x : CallNow). x.opened) (call_in f c.args.call.0)) c.opened.result (ap (λ x. x.state) c.self.view_is)
    (rw c.deref.ensures at c.opened.ensures) stands
