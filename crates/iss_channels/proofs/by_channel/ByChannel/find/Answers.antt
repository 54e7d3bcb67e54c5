use Rattle.std.proofs.Common.{ap, sym, ◌∙◌}
use Rattle.std.specs.Option.{option_copied}
use Rattle.iss_channels.specs.Placed.{is_on}
use Rattle.iss_channels.proofs.Lookups.{none_found}
use Rattle.iss_channels.proofs.Keeping.{none_on, found_on}
use Rattle.iss_channels.proofs.by_channel.ByChannel.find.Goals as goal

pub returns-in_err-place : goal.returns-in_err-place
returns-in_err-place g c =
    rw (← c.self.view_is)
    (ap option_copied c.from_residual.ensures
    ∙ sym (none_found (is_on g.T.OnChannel.channel_of c.args.ch) _
    (none_on g.T.OnChannel.channel_of c.self.inside.next c.self.inside.things c.self.inside.places c.self.invariant c.args.ch c.in_err-place.ensures.none)))

pub returns : goal.returns
returns g c =
    rw (← c.self.view_is)
    (c.get.ensures.value
    ∙ found_on g.T.OnChannel.channel_of c.self.inside.next c.self.inside.things c.self.inside.places c.self.invariant c.args.ch c.in_ok-place.place c.in_ok-place.ensures.first)
