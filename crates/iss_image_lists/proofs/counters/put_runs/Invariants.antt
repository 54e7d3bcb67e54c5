use Rattle.std.proofs.Common.{◌≡◌, ◌++◌, length}
use Rattle.std.specs.List.{flat_map}
use Rattle.iss_codec.specs.Places.{place_bytes}
use Rattle.iss_image_lists.specs.Runs.{runs_of}
use Rattle.iss_image_lists.specs.Spelling.{run_bytes}
use Rattle.iss_image_lists.proofs.counters.put_runs.Given as goal

-- what went out, and what is still to come, is what was to go out
abbrev pub invariant-runs : goal.invariant-runs
invariant-runs g l =
    l.out.items ++ flat_map (run_bytes (place_bytes (g.P.Places.tokens l.places))) (runs_of l.left)
    ≡ l.fn.out.items ++ flat_map (run_bytes (place_bytes (g.P.Places.tokens l.places))) (runs_of l.counters)

abbrev pub decreases-runs : goal.decreases-runs
decreases-runs g l = length l.left
