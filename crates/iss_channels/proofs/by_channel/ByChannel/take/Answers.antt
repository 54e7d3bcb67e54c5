use Rattle.std.proofs.Common.{sym, ◌∙◌}
use Rattle.iss_channels.proofs.Keeping.{none_on, first_on, found_on, kept_less}
use Rattle.iss_channels.proofs.by_channel.ByChannel.take.Goals as goal

pub returns-in_err-place-clause-none : goal.returns-in_err-place-clause-none
returns-in_err-place-clause-none g c =
    rw c.from_residual.ensures
    (rw (← c.self.view_is)
    (none_on g.T.OnChannel.channel_of c.self.inside.next c.self.inside.things c.self.inside.places c.self.invariant c.args.ch c.in_err-place.ensures.none))

pub invariant_of-self-2 : goal.invariant_of-self-2
invariant_of-self-2 g c =
    kept_less g.T.OnChannel.channel_of c.self.inside.next c.self.inside.things c.self.inside.places c.self.invariant c.args.ch c.in_ok-place.place
    (first_on g.T.OnChannel.channel_of c.self.inside.next c.self.inside.things c.self.inside.places c.self.invariant c.args.ch c.in_ok-place.place c.in_ok-place.ensures.first)
    c.in_ok-thing.thing (sym c.in_ok-thing.ensures.value) c.remove.new.self c.remove-2.new.self c.remove.ensures.entries c.remove.ensures.ordered c.remove-2.ensures

pub returns-clause-first : goal.returns-clause-first
returns-clause-first g c =
    rw (← c.self.view_is)
    (sym (found_on g.T.OnChannel.channel_of c.self.inside.next c.self.inside.things c.self.inside.places c.self.invariant c.args.ch c.in_ok-place.place c.in_ok-place.ensures.first)
    ∙ sym c.in_ok-thing.ensures.value)

pub returns-clause-placed : goal.returns-clause-placed
returns-clause-placed g c =
    (kept_less g.T.OnChannel.channel_of c.self.inside.next c.self.inside.things c.self.inside.places c.self.invariant c.args.ch c.in_ok-place.place
    (first_on g.T.OnChannel.channel_of c.self.inside.next c.self.inside.things c.self.inside.places c.self.invariant c.args.ch c.in_ok-place.place c.in_ok-place.ensures.first)
    c.in_ok-thing.thing (sym c.in_ok-thing.ensures.value) c.remove.new.self c.remove-2.new.self c.remove.ensures.entries c.remove.ensures.ordered c.remove-2.ensures).placed
