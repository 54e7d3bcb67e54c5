use Rattle.std.proofs.Common.{◌≡◌, drop}
use Rattle.iss_archive.specs.Steps as spec
use Rattle.iss_archive.proofs.stepping.are_next.Given as goal

abbrev pub invariant-steps : goal.invariant-steps
invariant-steps l = spec.are_next l.number l.steps ≡ spec.are_next l.last (drop l.stepped-index l.steps)
