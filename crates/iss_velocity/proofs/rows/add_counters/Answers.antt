use Rattle.std.proofs.Common.{◌<◌, length, arith}
use Rattle.std.proofs.lemmas.Option.{slice_get-get_or}
use Rattle.iss_velocity.proofs.Gathering.{counter_added}
use Rattle.iss_velocity.proofs.rows.add_counters.Goals as goal

pub loop-counter-preserved : goal.loop-counter-preserved
loop-counter-preserved c =
    let below : c.loop-counter.counter-index < length c.args.counters.now = omega arith in
    counter_added c.args.user.now c.args.counters.now c.loop-counter.counter-index _ c.args.rows.now c.loop-counter.rows c.add_counter.new.rows
    (slice_get-get_or c.args.counters.now c.loop-counter.counter-index _ below) c.loop-counter.invariant c.in_ok-add_counter.ensures
