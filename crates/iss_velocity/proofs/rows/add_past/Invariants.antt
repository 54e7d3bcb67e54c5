use Rattle.std.specs.Map.{lookup}
use Rattle.std.specs.BTreeMap.{is_at}
use Rattle.iss_velocity.specs.Counting.{by_span, past_at}
use Rattle.iss_velocity.specs.Showing.{AreLeft}
use Rattle.iss_velocity.proofs.rows.add_past.Given as goal

abbrev pub invariant-loop-key : goal.invariant-loop-key
invariant-loop-key l =
    AreLeft (λ p u n. past_at l.past u p n) (λ p u n. lookup (is_at (by_span (u, (p, n)))) l.key-iterator) l.initial.rows l.rows
