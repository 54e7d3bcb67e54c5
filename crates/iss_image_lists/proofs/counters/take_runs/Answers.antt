use Rattle.std.proofs.Common.{◌≡◌, Some, None, rules}
use Rattle.iss_codec.specs.Places.{take_place}
use Rattle.iss_image_lists.specs.Along.{take_run_onto}
use Rattle.iss_image_lists.proofs.TakenRuns.{goes_on, ends, is_done}
use Rattle.iss_image_lists.proofs.counters.take_runs.Goals as goal

pub returns-in-None : goal.returns-in-None
returns-in-None g c =
    let none : take_run_onto (take_place c.args.tokens.now) (g.W.Windows.window_of c.args.windows.now) c.loop.before c.loop.counters.items c.loop.reader.bytes.now ≡ None = search rules in
    ends (take_place c.args.tokens.now) (g.W.Windows.window_of c.args.windows.now) c.loop.before c.loop.counters.items c.args.count c.loop.counter c.loop.reader.bytes.now _ c.loop-test.true none c.loop.invariant

pub loop-preserved : goal.loop-preserved
loop-preserved g c =
    let one : take_run_onto (take_place c.args.tokens.now) (g.W.Windows.window_of c.args.windows.now) c.loop.before c.loop.counters.items c.loop.reader.bytes.now ≡ Some ((c.in-Some.control, c.take_run.new.counters.items), c.take_run.new.reader.bytes.now) = search rules in
    goes_on (take_place c.args.tokens.now) (g.W.Windows.window_of c.args.windows.now) c.loop.before c.loop.counters.items c.args.count c.loop.counter c.loop.reader.bytes.now c.in-Some.control c.take_run.new.counters.items c.take_run.new.reader.bytes.now _ c.loop-test.true one c.loop.invariant

pub returns : goal.returns
returns g c =
    is_done (take_place c.args.tokens.now) (g.W.Windows.window_of c.args.windows.now) c.loop.before c.loop.counters.items c.args.count c.loop.counter c.loop.reader.bytes.now _ c.loop-test.false c.loop.invariant
