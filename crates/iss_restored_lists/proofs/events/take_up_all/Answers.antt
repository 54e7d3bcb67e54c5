use Rattle.std.proofs.Common.{arith}
use Rattle.iss_restored_lists.proofs.EventsAgain.{begins, goes_on, is_new, its_form, over}
use Rattle.iss_restored_lists.proofs.events.take_up_all.Goals as goal

pub loop-event-init : goal.loop-event-init
loop-event-init c = begins c.args.events.now c.in_ok-accepted.accepted c.in_ok-accepted.ensures c.requires.forms c.requires.tokens

pub take_up-requires-clause-form : goal.take_up-requires-clause-form
take_up-requires-clause-form c =
    its_form c.args.events.now c.loop-event.event-index c.event-item.result c.loop-event.accepted (omega arith) c.event-item.is c.loop-event.invariant

pub take_up-requires-clause-new : goal.take_up-requires-clause-new
take_up-requires-clause-new c =
    is_new c.args.events.now c.loop-event.event-index c.event-item.result c.loop-event.accepted (omega arith) c.event-item.is c.loop-event.invariant

pub loop-event-preserved : goal.loop-event-preserved
loop-event-preserved c =
    goes_on c.args.events.now c.loop-event.event-index c.event-item.result c.loop-event.accepted (omega arith) c.event-item.is c.loop-event.invariant
    c.take_up.new.accepted c.in_ok-take_up.ensures

pub returns : goal.returns
returns c = over c.args.events.now c.loop-event.accepted c.loop-event.event-index (omega arith) c.loop-event.invariant
