use Rattle.std.proofs.Common.{sym}
use Rattle.iss_restored_lists.proofs.EventsAgain.{is_there, its_input}
use Rattle.iss_restored_lists.proofs.events.take_up.Goals as goal

pub add-requires-clause-form : goal.add-requires-clause-form
add-requires-clause-form c = its_input c.args.event.now c.requires.form

pub decide-requires-clause-accepted : goal.decide-requires-clause-accepted
decide-requires-clause-accepted c =
    is_there c.args.accepted.now c.args.event.now c.requires.form _ (sym c.in-Some-event.ensures) c.requires.new
    c.add.new.self c.in_ok-add.ensures.added
