use Rattle.std.proofs.Common.{sym}
use Rattle.iss_sound_events.proofs.Sized.{found_room}
use Rattle.iss_sound_events.proofs.Totalled.{set_total}
use Rattle.iss_sound_events.proofs.totals.add.Goals as goal

pub plus-sum-requires-clause-room : goal.plus-sum-requires-clause-room
plus-sum-requires-clause-room c =
    found_room c.args.totals.now c.args.worth.now.txn c.in-Some.total.now c.requires.room (sym c.in-Some.ensures)

pub returns-in-Some : goal.returns-in-Some
returns-in-Some c =
    set_total c.args.worth.now c.in-Some.total.now c.plus-sum.result c.args.totals.now c.set.new.self (sym c.in-Some.ensures)
    c.plus-sum.ensures c.set.ensures.changed
