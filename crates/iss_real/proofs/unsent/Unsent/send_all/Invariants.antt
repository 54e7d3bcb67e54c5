-- a text that goes out, or is lost, opens and closes no channel
use Rattle.std.specs.Prelude.{◌≡◌}
use Rattle.iss_real.proofs.unsent.Unsent.send_all.Given as goal

abbrev pub invariant-loop : goal.invariant-loop
invariant-loop g l = l.peers ≡ l.initial.peers
