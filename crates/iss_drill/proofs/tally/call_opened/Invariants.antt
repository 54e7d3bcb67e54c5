use Rattle.std.proofs.Common.{◌≡◌, drop}
use Rattle.iss_drill.specs.Drills.{call_opened}
use Rattle.iss_drill.proofs.tally.call_opened.Given as goal

abbrev pub invariant-loop-entry : goal.invariant-loop-entry
invariant-loop-entry l = call_opened l.entries ≡ call_opened (drop l.entry-index l.entries)
