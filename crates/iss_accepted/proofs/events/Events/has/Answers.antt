use Rattle.std.proofs.Common.{ℕ, ap, ◌∙◌}
use Rattle.std.specs.Prelude.{Option, is_some}
use Rattle.iss_accepted.proofs.Steps.{has_found}
use Rattle.iss_accepted.proofs.events.Events.has.Goals as goal

pub returns : goal.returns
returns c =
    has_found _ _ _ _ c.args.self.now c.args.event.now
    c.self.invariant.kept c.self.view_is c.is_some.result (c.is_some.ensures ∙ ap (λ (o : Option ℕ). is_some o) c.find.ensures.value)
