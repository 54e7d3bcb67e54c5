use Rattle.std.proofs.Common.{sym}
use Rattle.iss_image_lists.proofs.OneByOne.{goes_on, ends, is_done}
use Rattle.iss_image_lists.proofs.things.take_things.Goals as goal

pub returns-in-None : goal.returns-in-None
returns-in-None g c =
    ends (g.T.Takes.take_thing c.args.taker.now) c.loop.things.items c.args.count c.loop.counter c.loop.reader.bytes.now _ c.loop-test.true (sym c.in-None.ensures) c.loop.invariant

pub loop-preserved : goal.loop-preserved
loop-preserved g c =
    rw c.in_ok-push-in-Some.ensures.items
    (goes_on (g.T.Takes.take_thing c.args.taker.now) c.loop.things.items c.args.count c.loop.counter c.loop.reader.bytes.now _ c.in-Some.thing c.take.new.reader.bytes.now c.loop-test.true (sym c.in-Some.ensures) c.loop.invariant)

pub returns : goal.returns
returns g c =
    is_done (g.T.Takes.take_thing c.args.taker.now) c.loop.things.items c.args.count c.loop.counter c.loop.reader.bytes.now _ c.loop-test.false c.loop.invariant
