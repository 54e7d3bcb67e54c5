use Rattle.std.proofs.Common.{drop}
use Rattle.iss_known.specs.Reading.{known_in}
use Rattle.iss_known.proofs.Fresh.{IsReading}
use Rattle.iss_known.proofs.reading.read_all.Given as goal

abbrev pub invariant-loop-seen : goal.invariant-loop-seen
invariant-loop-seen l = IsReading l.txns l.events (drop l.seen-index l.events) (known_in l.parts)
