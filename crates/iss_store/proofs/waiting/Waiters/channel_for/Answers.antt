use Rattle.std.proofs.Common.{◌∙◌}
use Rattle.iss_store.proofs.Waiters.{channel_at, no_channel}
use Rattle.iss_store.proofs.waiting.Waiters.channel_for.Goals as goal

pub returns-in_err-place : goal.returns-in_err-place
returns-in_err-place c =
    rw (← c.self.view_is) (c.from_residual.ensures ∙ no_channel c.self.inside.events c.self.inside.waiting c.self.invariant c.args.event.now c.in_err-place.ensures.none)

pub returns : goal.returns
returns c =
    rw (← c.self.view_is) (channel_at c.self.inside.events c.self.inside.waiting c.self.invariant c.args.event.now c.in_ok-place.place c.in_ok-waiting.waiting.now c.in_ok-place.ensures.first c.in_ok-waiting.ensures)
