use Rattle.std.proofs.Common.{◌≡◌, ◌+◌, ◌≤◌, length}
use Rattle.iss_image_lists.specs.Runs.{runs_of}
use Rattle.iss_image_lists.proofs.counters.count_runs.Given as goal

abbrev pub invariant-runs : goal.invariant-runs
invariant-runs l = record { runs : l.count + length (runs_of l.left) ≡ length (runs_of l.counters); fits : l.count + length l.left ≤ length l.counters }

abbrev pub decreases-runs : goal.decreases-runs
decreases-runs l = length l.left
