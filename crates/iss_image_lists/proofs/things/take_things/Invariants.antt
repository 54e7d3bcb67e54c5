use Rattle.std.proofs.Common.{◌≡◌, ◌-◌}
use Rattle.iss_image_lists.specs.Taking.{take_things}
use Rattle.iss_image_lists.specs.Readers.{with_prefix}
use Rattle.iss_image_lists.proofs.things.take_things.Given as goal

-- what is there, and what is still read, is what was to be read
abbrev pub invariant-loop : goal.invariant-loop
invariant-loop g l =
    with_prefix l.things.items (take_things (g.T.Takes.take_thing l.taker) (l.count - l.counter) l.reader.bytes.now)
    ≡ with_prefix l.fn.things.items (take_things (g.T.Takes.take_thing l.taker) l.count l.fn.reader.bytes.now)
