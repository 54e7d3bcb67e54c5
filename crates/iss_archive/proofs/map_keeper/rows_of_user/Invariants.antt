use Rattle.std.proofs.Common.{◌≡◌, ◌++◌, drop}
use Rattle.iss_archive.specs.Archived.{rows_of_user}
use Rattle.iss_archive.proofs.map_keeper.rows_of_user.Given as goal

abbrev pub invariant-rows : goal.invariant-rows
invariant-rows l = rows_of_user l.user l.currency l.rows ≡ l.found.items ++ rows_of_user l.user l.currency (drop l.row-index l.rows)
