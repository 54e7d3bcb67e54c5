use Rattle.std.specs.List.Sorted.{IsStrictlySortedBy}
use Rattle.std.specs.Map.{keys_of}
use Rattle.iss_velocity.specs.Counting.{by_name, in_span, at_place, counters_at}
use Rattle.iss_velocity.specs.Showing.{AreLeft}
use Rattle.iss_velocity.proofs.Gathering.{rows_of_all}
use Rattle.iss_velocity.proofs.rows.add_users.Given as goal

abbrev pub invariant-loop-user : goal.invariant-loop-user
invariant-loop-user l =
    IsStrictlySortedBy by_name (keys_of l.user-iterator)
    × AreLeft (λ p u n. in_span n (at_place p (counters_at l.users u))) (rows_of_all l.user-iterator) l.initial.rows l.rows
