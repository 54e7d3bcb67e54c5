use Rattle.iss_core.specs.States.{kept_state}
use Rattle.iss_core.proofs.Merging.{calls_are_due}
use Rattle.iss_core.proofs.state.State.is_due.Goals as goal

pub returns-then-is_due : goal.returns-then-is_due
returns-then-is_due c = calls_are_due (kept_state c.args.self.now) c.args.at c.is_due.result c.is_due.ensures c.if-is_due.true
