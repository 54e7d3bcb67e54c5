use Rattle.std.proofs.Common.{◌≡◌, drop}
use Rattle.std.specs.Prelude.{option_map, None}
use Rattle.iss_named.specs.Stood.{place_of_stood}
use Rattle.iss_sound_parts.specs.Rising.{do_follow}
use Rattle.iss_sound_parts.proofs.stand_ins.do_follow.Given as goal

abbrev pub invariant-loop-sum : goal.invariant-loop-sum
invariant-loop-sum l = do_follow place_of_stood (option_map place_of_stood l.before) (drop l.sum-index l.sums) ≡ do_follow place_of_stood None l.sums
