use Rattle.std.proofs.Common.{◌∙◌, ap, sym}
use Rattle.iss_model.specs.rules.Activity.{CallNow}
use Rattle.iss_sound_parts.proofs.Entered.{entered}
use Rattle.iss_sound_parts.proofs.asked.enter.Goals as goal

pub returns : goal.returns
returns c =
    entered c.args.only_authorizations c.args.call.now c.call.inside.opened c.args.events.now c.insert.new.self
    (sym c.is_looked_for.ensures ∙ c.if-not-is_looked_for.false)
    (ap (λ (x : CallNow). x.opened) (sym c.call.view_is)) c.in_ok-insert.ensures.updates
