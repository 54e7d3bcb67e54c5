use Rattle.std.proofs.Common.{◌≡◌, map}
use Rattle.iss_model.specs.state.Cores.{set_after_put}
use Rattle.iss_commando.proofs.Replaced.{changed_from}
use Rattle.iss_commando.proofs.sets.replace.Given as goal

abbrev pub invariant-loop-standing : goal.invariant-loop-standing
invariant-loop-standing l = changed_from (set_after_put l.put) l.standing-index l.sets ≡ map (set_after_put l.put) l.initial.sets
