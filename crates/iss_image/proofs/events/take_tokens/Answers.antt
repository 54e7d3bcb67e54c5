use Rattle.std.proofs.Common.{sym}
use Rattle.iss_codec.specs.Taking.{take_token}
use Rattle.iss_image_lists.specs.Taking.{take_things}
use Rattle.iss_image_lists.proofs.OneByOne.{goes_on, ends, is_done}
use Rattle.iss_image.proofs.events.take_tokens.Goals as goal

pub returns-in-None : goal.returns-in-None
returns-in-None c =
    ends take_token c.loop.tokens.items c.args.count c.loop.counter c.loop.reader.bytes.now (take_things take_token c.args.count c.args.reader.now.bytes.now) c.loop-test.true (sym c.in-None.ensures) c.loop.invariant

pub loop-preserved : goal.loop-preserved
loop-preserved c =
    rw c.in_ok-push-in-Some.ensures.items (goes_on take_token c.loop.tokens.items c.args.count c.loop.counter c.loop.reader.bytes.now (take_things take_token c.args.count c.args.reader.now.bytes.now) c.in-Some.token c.take_token.new.self.bytes.now c.loop-test.true (sym c.in-Some.ensures) c.loop.invariant)

pub returns : goal.returns
returns c =
    is_done take_token c.loop.tokens.items c.args.count c.loop.counter c.loop.reader.bytes.now (take_things take_token c.args.count c.args.reader.now.bytes.now) c.loop-test.false c.loop.invariant
