use Rattle.std.proofs.Common.{◌≡◌, ◌++◌, map}
use Rattle.iss_channels.specs.Placed.{things_of}
use Rattle.iss_channels.proofs.by_channel.ByChannel.channels.Given as goal

abbrev pub invariant-loop-thing : goal.invariant-loop-thing
invariant-loop-thing g l = l.channels.items ++ map g.T.OnChannel.channel_of l.thing-iterator ≡ map g.T.OnChannel.channel_of (things_of l.self)
