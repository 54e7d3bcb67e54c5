use Rattle.iss_channels.specs.Placed.{things_of}
use Rattle.iss_link.proofs.Listening.{fed_reads_if, not_none}
use Rattle.iss_link.proofs.answers.feed.Goals as goal

pub unreachable-requires : goal.unreachable-requires
unreachable-requires c = not_none c.args.ch (things_of c.args.links.now) c.in_default.ensures.none c.requires.watched

pub returns : goal.returns
returns c = fed_reads_if c.args.ch c.args.piece.now (things_of c.args.links.now) (things_of c.receive.new.self) c.in-Some.said c.in-Some.ensures.received
