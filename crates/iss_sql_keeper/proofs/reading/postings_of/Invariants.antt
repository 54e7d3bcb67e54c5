use Rattle.std.proofs.Common.{◌≡◌, ◌++◌, drop, map, true}
use Rattle.std.specs.List.{list_all}
use Rattle.iss_archive.specs.Archived.{is_of_user}
use Rattle.iss_sql_keeper.specs.Decoded.{posting_shown}
use Rattle.iss_sql_keeper.proofs.reading.postings_of.Given as goal

abbrev pub invariant-rows : goal.invariant-rows
invariant-rows l =
    (map posting_shown l.rows ≡ l.all.items ++ map posting_shown (drop l.row-index l.rows))
    × (list_all (is_of_user l.user l.currency) l.all.items ≡ true)
