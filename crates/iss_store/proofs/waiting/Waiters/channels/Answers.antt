use Rattle.std.proofs.Common.{List, map, ap, ◌∙◌}
use Rattle.std.proofs.lemmas.Result.{IfOk-weaker}
use Rattle.iss_channels.specs.Placed.{things_of}
use Rattle.iss_session.specs.Desks.{Waiter}
use Rattle.iss_store.proofs.Waiters.{channels_as}
use Rattle.iss_store.proofs.waiting.Waiters.channels.Goals as goal

pub returns : goal.returns
returns c =
    IfOk-weaker c.channels.result _ _
    (λ v e. e ∙ channels_as (things_of c.self.inside.waiting) ∙ ap (λ (ws : List Waiter). map (λ waiter. waiter.ch) ws) c.self.view_is)
    c.channels.ensures
