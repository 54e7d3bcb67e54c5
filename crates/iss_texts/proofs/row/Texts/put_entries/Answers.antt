use Rattle.std.proofs.Common.{arith}
use Rattle.iss_texts.specs.TextRows.{entry_texts_at}
use Rattle.iss_texts.proofs.Rows.{gains_more}
use Rattle.iss_texts.proofs.row.Texts.put_entries.Goals as goal

pub loop-entry-preserved : goal.loop-entry-preserved
loop-entry-preserved c =
    gains_more (entry_texts_at c.args.instance) c.args.entries.now c.loop-entry.entry-index c.entry-item.result c.args.self.now c.loop-entry.self c.put_entry.new.self
    (omega arith) c.entry-item.is c.loop-entry.invariant c.in_ok-put_entry.ensures
