use Rattle.std.proofs.Common.{◌≡◌, drop}
use Rattle.iss_known.specs.Reading.{are_listed}
use Rattle.iss_known.proofs.txns.are_listed.Given as goal

abbrev pub invariant-loop-place : goal.invariant-loop-place
invariant-loop-place l = are_listed (drop l.place l.listed) (drop l.place l.begun) ≡ are_listed l.listed l.begun
