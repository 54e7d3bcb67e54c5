use Rattle.std.proofs.Common.{◌≡◌, take}
use Rattle.iss_states.specs.Rebuilding.{kept_by, stood_sum}
use Rattle.iss_restored_lists.proofs.StandInsAgain.{stand_ins_with}
use Rattle.iss_restored_lists.proofs.stand_ins.note_all.Given as goal

abbrev pub invariant-loop-sum : goal.invariant-loop-sum
invariant-loop-sum l = l.sets ≡ stand_ins_with l.initial.sets.sets (kept_by stood_sum (take l.sum-index l.sums))
