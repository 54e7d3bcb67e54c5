use Rattle.std.proofs.Common.{sym, ◌∙◌}
use Rattle.iss_core.specs.States.{kept_state}
use Rattle.iss_core.proofs.Bounds.{its_hold_time}
use Rattle.iss_core.proofs.state.State.put_purchase.Goals as goal

pub first_ask-requires-clause-time : goal.first_ask-requires-clause-time
first_ask-requires-clause-time c = its_hold_time (kept_state c.args.self.now) c.args.card.now.product c.in-Some.product c.requires.order (sym c.in-Some.is ∙ c.product.ensures)
