use Rattle.std.proofs.Common.{drop}
use Rattle.iss_statement.proofs.Steps.{Puts}
use Rattle.iss_statement.proofs.lines.put_rows.Given as goal

abbrev pub invariant-rows : goal.invariant-rows
invariant-rows l = Puts l.user l.currency l.to l.rows (drop l.row-index l.rows) l.balance l.closing l.initial.lines.items l.lines.items
