use Rattle.std.proofs.Common.{◌≡◌, map, take}
use Rattle.iss_states.specs.Rebuilding.{with_counters}
use Rattle.iss_restored_lists.proofs.counters.restore_all.Given as goal

abbrev pub invariant-loop-counter : goal.invariant-loop-counter
invariant-loop-counter l = l.controls ≡ map (with_counters l.known.txns (take l.counter-index l.counters)) l.initial.controls
