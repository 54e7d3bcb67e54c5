use Rattle.std.proofs.Common.{sym}
use Rattle.iss_channels.proofs.Keeping.{none_on, first_on, kept_received, received_first}
use Rattle.iss_channels.proofs.by_channel.ByChannel.receive.Goals as goal

pub returns-in_err-place-clause-none : goal.returns-in_err-place-clause-none
returns-in_err-place-clause-none g c =
    rw c.from_residual.ensures
    (rw (← c.self.view_is)
    (none_on g.T.OnChannel.channel_of c.self.inside.next c.self.inside.things c.self.inside.places c.self.invariant c.args.ch c.in_err-place.ensures.none))

pub invariant_of-self-2 : goal.invariant_of-self-2
invariant_of-self-2 g c =
    kept_received g.T.OnChannel.channel_of c.self.inside.next c.self.inside.things c.self.inside.places c.self.invariant c.args.ch c.in_ok-place.place
    (first_on g.T.OnChannel.channel_of c.self.inside.next c.self.inside.things c.self.inside.places c.self.invariant c.args.ch c.in_ok-place.place c.in_ok-place.ensures.first)
    c.in_ok-thing.thing.now (sym c.in_ok-thing.ensures.value) (c.get_mut.follows.lender c.receive.new.self) c.receive.new.self c.receive.ensures.channel (c.get_mut.follows.holds c.receive.new.self)

pub returns-clause-received : goal.returns-clause-received
returns-clause-received g c =
    rw (← c.self.view_is)
    (received_first g.T.OnChannel.channel_of c.self.inside.next c.self.inside.things c.self.inside.places c.self.invariant c.args.ch c.in_ok-place.place
    (first_on g.T.OnChannel.channel_of c.self.inside.next c.self.inside.things c.self.inside.places c.self.invariant c.args.ch c.in_ok-place.place c.in_ok-place.ensures.first)
    c.in_ok-thing.thing.now (sym c.in_ok-thing.ensures.value) (λ x y. g.T.Receives.receives x c.args.piece.now c.receive.result y) (c.get_mut.follows.lender c.receive.new.self).entries c.receive.new.self
    c.receive.ensures.channel (c.get_mut.follows.holds c.receive.new.self).0 c.receive.ensures.receives)
