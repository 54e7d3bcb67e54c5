use Rattle.std.proofs.Common.{List, subst}
use Rattle.iss_model.specs.rules.Activity.{CallNow}
use Rattle.iss_sound_parts.proofs.Entered.{AreEventsFrom, one_entered}
use Rattle.iss_sound_parts.proofs.asked.events_asked.Goals as goal

pub loop-call-preserved : goal.loop-call-preserved
loop-call-preserved c =
    one_entered c.args.only_authorizations c.args.calls.now c.next.new.self.iter.rest.now c.in-Some.call.now c.loop-call.events c.enter.new.events
    (subst (λ (left : List CallNow). AreEventsFrom c.args.only_authorizations c.args.calls.now left c.loop-call.events) c.in-Some.ensures.steps c.loop-call.invariant)
    c.in_ok-enter.ensures
