use Rattle.std.proofs.Common.{◌≡◌, ◌-◌, [], None}
use Rattle.iss_image_lists.specs.Along.{runs_onto}
use Rattle.iss_codec.specs.Places.{take_place}
use Rattle.iss_image_lists.proofs.counters.take_runs.Given as goal

-- the runs that are still read, after those that were, are what was to be read
abbrev pub invariant-loop : goal.invariant-loop
invariant-loop g l =
    runs_onto (take_place l.tokens) (g.W.Windows.window_of l.windows) l.before l.counters.items (l.count - l.counter) l.reader.bytes.now
    ≡ runs_onto (take_place l.tokens) (g.W.Windows.window_of l.windows) None [] l.count l.fn.reader.bytes.now
