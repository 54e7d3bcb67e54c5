use Rattle.std.proofs.Common.{sym, ◌∙◌}
use Rattle.iss_channels.specs.Placed.{is_on}
use Rattle.iss_channels.proofs.Keeping.{others_then, none_left}
use Rattle.iss_channels.proofs.by_channel.ByChannel.remove.Goals as goal

pub loop-preserved : goal.loop-preserved
loop-preserved g c =
    others_then (is_on g.T.OnChannel.channel_of c.args.ch) c.loop.self c.take.new.self c.take.result c.take.ensures.taken c.take.ensures.unchanged ∙ c.loop.invariant

pub returns : goal.returns
returns g c =
    none_left (is_on g.T.OnChannel.channel_of c.args.ch) c.loop.self c.take.new.self c.take.result (sym c.is_some.ensures ∙ c.if-is_some.false) c.take.ensures.none c.take.ensures.unchanged ∙ c.loop.invariant
