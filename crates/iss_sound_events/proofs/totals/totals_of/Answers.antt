use Rattle.iss_sound_events.proofs.Sized.{have_room}
use Rattle.iss_sound_events.proofs.Totalled.{totals_step}
use Rattle.iss_sound_events.proofs.totals.totals_of.Goals as goal

pub add_event-requires-clause-room : goal.add_event-requires-clause-room
add_event-requires-clause-room c =
    have_room c.loop-event.totals c.args.events.now c.loop-event.event-index c.requires.small c.requires.few c.loop-event.invariant

pub loop-event-preserved : goal.loop-event-preserved
loop-event-preserved c =
    totals_step c.loop-event.totals c.add_event.new.totals c.args.events.now c.loop-event.event-index c.event-item.result
    c.loop-event-test.true c.event-item.is c.in_ok-add_event.ensures c.loop-event.invariant
