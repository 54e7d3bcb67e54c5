use Rattle.std.proofs.Common.{take}
use Rattle.iss_drill.specs.Tallies.{Counts}
use Rattle.iss_drill.proofs.tally.Tally.count.Given as goal

abbrev pub invariant-loop-entry : goal.invariant-loop-entry
invariant-loop-entry l = Counts (take l.entry-index l.entries) l.initial.self l.self
