use Rattle.std.proofs.Common.{◌+◌, ◌-◌, vec_len}
use Rattle.iss_chain.proofs.RowPlaces.{IsRoomed}
use Rattle.iss_chain.proofs.rows.make_room.Given as goal

abbrev pub invariant-loop-sums : goal.invariant-loop-sums
invariant-loop-sums l = IsRoomed l.initial.sums.items l.sums.items l.place

abbrev pub decreases-loop-sums : goal.decreases-loop-sums
decreases-loop-sums l = l.place + 1 - vec_len l.sums
