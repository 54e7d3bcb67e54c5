use Rattle.std.proofs.Common.{◌≡◌, Some, None, rules}
use Rattle.iss_codec.specs.Places.{take_place}
use Rattle.iss_image.specs.TakingEvents.{take_seen}
use Rattle.iss_image_lists.proofs.OneByOne.{goes_on, ends, is_done}
use Rattle.iss_image.proofs.events.take_each_event.Goals as goal

pub returns-in-None : goal.returns-in-None
returns-in-None c =
    let none : take_seen (take_place c.args.tokens.now) c.loop.reader.bytes.now ≡ None = search rules in
    ends (take_seen (take_place c.args.tokens.now)) c.loop.events.items c.args.count c.loop.counter c.loop.reader.bytes.now _ c.loop-test.true none c.loop.invariant

pub loop-preserved : goal.loop-preserved
loop-preserved c =
    let one : take_seen (take_place c.args.tokens.now) c.loop.reader.bytes.now ≡ Some (c.in-Some.event, c.take_event.new.reader.bytes.now) = search rules in
    rw c.in_ok-push-in-Some.ensures.items
    (goes_on (take_seen (take_place c.args.tokens.now)) c.loop.events.items c.args.count c.loop.counter c.loop.reader.bytes.now _ c.in-Some.event c.take_event.new.reader.bytes.now c.loop-test.true one c.loop.invariant)

pub returns : goal.returns
returns c =
    is_done (take_seen (take_place c.args.tokens.now)) c.loop.events.items c.args.count c.loop.counter c.loop.reader.bytes.now _ c.loop-test.false c.loop.invariant
