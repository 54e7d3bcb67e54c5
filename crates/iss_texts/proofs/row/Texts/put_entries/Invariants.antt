use Rattle.std.proofs.Common.{take}
use Rattle.std.specs.List.{flat_map}
use Rattle.iss_texts.specs.TextRows.{Gains, entry_texts_at}
use Rattle.iss_texts.proofs.row.Texts.put_entries.Given as goal

abbrev pub invariant-loop-entry : goal.invariant-loop-entry
invariant-loop-entry l = Gains (flat_map (entry_texts_at l.instance) (take l.entry-index l.entries)) l.initial.self l.self
