use Rattle.std.proofs.Common.{sym}
use Rattle.iss_codec.proofs.Codes.{goes_on, ends, is_done}
use Rattle.iss_codec.specs.Taking.{take_codes}
use Rattle.iss_codec.proofs.reader.Reader.take_codes.Goals as goal

pub returns-in-None : goal.returns-in-None
returns-in-None c =
    ends c.loop.codes.items c.args.count c.loop.counter c.loop.self.bytes.now (take_codes c.args.count c.args.self.now.bytes.now) c.loop-test.true (sym c.in-None.ensures) c.loop.invariant

pub loop-preserved : goal.loop-preserved
loop-preserved c =
    rw c.in_ok-push-in-Some.ensures.items (goes_on c.loop.codes.items c.args.count c.loop.counter c.loop.self.bytes.now c.in-Some.code c.take_u16.new.self.bytes.now (take_codes c.args.count c.args.self.now.bytes.now) c.loop-test.true (sym c.in-Some.ensures) c.loop.invariant)

pub returns : goal.returns
returns c =
    is_done c.loop.codes.items c.args.count c.loop.counter c.loop.self.bytes.now (take_codes c.args.count c.args.self.now.bytes.now) c.loop-test.false c.loop.invariant
