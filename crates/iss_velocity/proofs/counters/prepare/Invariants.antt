use Rattle.iss_velocity.specs.Lists.{IsSplit, AreReady}
use Rattle.iss_velocity.specs.Keeping.{StaysSame}
use Rattle.iss_velocity.proofs.counters.prepare.Given as goal

abbrev pub invariant-loop-place : goal.invariant-loop-place
invariant-loop-place l =
    IsSplit l.list.items l.next l.place
    × (StaysSame l.row.user l.initial.list.items l.initial.past l.list.items l.past
    × AreReady l.controls l.groups l.row l.initial.list.items l.initial.past l.list.items l.place)
