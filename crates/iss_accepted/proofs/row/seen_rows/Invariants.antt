use Rattle.std.proofs.Common.{◌≡◌, ◌++◌, drop, length, map}
use Rattle.iss_accepted.specs.Kept.{row_seen}
use Rattle.iss_accepted.specs.Short.{rows_of}
use Rattle.iss_accepted.proofs.row.seen_rows.Given as goal

abbrev pub invariant-loop-place : goal.invariant-loop-place
invariant-loop-place l =
    l.seen.items ++ map (row_seen l.bytes l.marks) (drop l.place (rows_of l.others (length l.bytes) l.rows))
    ≡ map (row_seen l.bytes l.marks) (rows_of l.others (length l.bytes) l.rows)
