use Rattle.std.proofs.Common.{drop}
use Rattle.iss_statement.proofs.Steps.{Opens}
use Rattle.iss_statement.proofs.opening.opening_of.Given as goal

abbrev pub invariant-rows : goal.invariant-rows
invariant-rows l = Opens l.user l.currency l.from l.rows (drop l.i l.rows) l.balance
