use Rattle.std.proofs.Common.{sym, ◌∙◌}
use Rattle.iss_core.specs.States.{kept_state}
use Rattle.iss_core.proofs.Bounds.{its_timeout}
use Rattle.iss_core.proofs.state.State.put_gateway_ask.Goals as goal

pub call_for-requires-clause-time : goal.call_for-requires-clause-time
call_for-requires-clause-time c = its_timeout (kept_state c.args.self.now) c.args.ask.now.txn.product c.in-Some.product c.requires.order (sym c.in-Some.is ∙ c.product.ensures)
