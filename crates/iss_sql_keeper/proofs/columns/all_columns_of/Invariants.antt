use Rattle.std.proofs.Common.{◌≡◌, ◌++◌, drop, map}
use Rattle.iss_sql_keeper.specs.Given.{posting_given}
use Rattle.iss_sql_keeper.proofs.columns.all_columns_of.Given as goal

abbrev pub invariant-rows : goal.invariant-rows
invariant-rows l = l.rows ≡ map posting_given l.all.items ++ drop l.row-index l.rows
