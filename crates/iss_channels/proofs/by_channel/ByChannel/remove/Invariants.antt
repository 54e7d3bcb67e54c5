use Rattle.std.proofs.Common.{◌≡◌, not, filter, length}
use Rattle.iss_channels.specs.Placed.{things_of, is_on}
use Rattle.iss_channels.proofs.by_channel.ByChannel.remove.Given as goal

abbrev pub decreases-loop : goal.decreases-loop
decreases-loop g l = length l.self.entries

abbrev pub invariant-loop : goal.invariant-loop
invariant-loop g l =
    filter (λ x. not (is_on g.T.OnChannel.channel_of l.ch x)) (things_of l.self) ≡ filter (λ x. not (is_on g.T.OnChannel.channel_of l.ch x)) (things_of l.initial.self)
