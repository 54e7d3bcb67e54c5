use Rattle.std.proofs.Common.{◌≡◌, true, drop}
use Rattle.iss_velocity.specs.Lists.{rising_from}
use Rattle.iss_velocity.specs.Showing.{rows_of_user, AreLeft}
use Rattle.iss_velocity.proofs.rows.add_counters.Given as goal

abbrev pub invariant-loop-counter : goal.invariant-loop-counter
invariant-loop-counter l =
    (rising_from 0 (drop l.counter-index l.counters) ≡ true)
    × AreLeft (rows_of_user l.user l.counters) (rows_of_user l.user (drop l.counter-index l.counters)) l.initial.rows l.rows
