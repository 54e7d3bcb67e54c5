use Rattle.std.proofs.Common.{◌≡◌, ◌-◌}
use Rattle.iss_codec.specs.Places.{take_place}
use Rattle.iss_image_lists.specs.Taking.{take_things}
use Rattle.iss_image.specs.TakingEvents.{take_seen}
use Rattle.iss_image_lists.specs.Readers.{with_prefix}
use Rattle.iss_image.proofs.events.take_each_event.Given as goal

abbrev pub invariant-loop : goal.invariant-loop
invariant-loop l =
    with_prefix l.events.items (take_things (take_seen (take_place l.tokens)) (l.count - l.counter) l.reader.bytes.now)
    ≡ take_things (take_seen (take_place l.tokens)) l.count l.fn.reader.bytes.now
