use Rattle.std.proofs.Common.{◌≡◌, ◌++◌, true, drop, map}
use Rattle.std.specs.List.{list_all}
use Rattle.iss_core.specs.Showing.{counter_by, has_span}
use Rattle.iss_core.proofs.showing.counters_of.Given as goal

abbrev pub invariant-loop-counter : goal.invariant-loop-counter
invariant-loop-counter l =
    (l.counters.items ++ map (counter_by l.origins) (drop l.counter-index l.counted) ≡ map (counter_by l.origins) l.counted)
    × (list_all (has_span l.origins) (drop l.counter-index l.counted) ≡ true)
