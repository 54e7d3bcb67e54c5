use Rattle.std.proofs.Common.{◌≡◌, ◌++◌, true, map}
use Rattle.std.specs.List.{filter_map, list_all}
use Rattle.iss_velocity.specs.Keeping.{has_no_zero}
use Rattle.iss_velocity.specs.Showing.{counted_entry, row_entry}
use Rattle.iss_velocity.proofs.rows.shown.Given as goal

abbrev pub invariant-loop-key : goal.invariant-loop-key
invariant-loop-key l =
    (map counted_entry l.counted.items ++ filter_map (row_entry l.controls) l.key-iterator ≡ filter_map (row_entry l.controls) l.rows.entries)
    × (list_all (λ c. has_no_zero c.user) l.counted.items ≡ true)
