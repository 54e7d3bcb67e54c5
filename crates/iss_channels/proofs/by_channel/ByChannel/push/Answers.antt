use Rattle.std.proofs.Common.{rules, ◌≡◌, ◌+◌, ◌<◌, ◌^◌, true, subst}
use Rattle.std.specs.Ordering.{nat_cmp}
use Rattle.iss_edge.specs.declared.outside.Channel.{Channel}
use Rattle.iss_channels.specs.Places.{Puts}
use Rattle.iss_channels.proofs.Keeping.{kept_more, pushed, pushed_things}
use Rattle.iss_channels.proofs.by_channel.ByChannel.push.Goals as goal

pub invariant_of-self-in-Ok : goal.invariant_of-self-in-Ok
invariant_of-self-in-Ok g c =
    let up : c.in-Some.next ≡ c.self.inside.next + 1 = search rules in
    let few : c.in-Some.next < 2 ^ 64 = search rules in
    kept_more g.T.OnChannel.channel_of c.self.inside.next c.self.inside.things c.self.inside.places c.self.invariant c.in-Some.next c.insert.new.self c.args.thing up c.in-Ok.ensures.entries
    c.add.new.self few c.in-Ok.ensures.ordered
    (subst (λ (ch : Channel). Puts nat_cmp ch.0 c.self.inside.next true c.self.inside.places c.add.new.self) c.channel-ch.ensures c.in_ok-add.ensures.added)

pub returns-in-Ok-clause-pushed : goal.returns-in-Ok-clause-pushed
returns-in-Ok-clause-pushed g c =
    let up : c.in-Some.next ≡ c.self.inside.next + 1 = search rules in
    pushed g.T.OnChannel.channel_of c.self.inside.next c.self.inside.things c.self.inside.places c.self.invariant c.in-Some.next c.insert.new.self c.args.thing up c.in-Ok.ensures.entries
    c.args.self.now c.self.view_is

pub returns-in-Ok-clause-things : goal.returns-in-Ok-clause-things
returns-in-Ok-clause-things g c =
    let up : c.in-Some.next ≡ c.self.inside.next + 1 = search rules in
    rw (← c.self.view_is)
    (pushed_things g.T.OnChannel.channel_of c.self.inside.next c.self.inside.things c.self.inside.places c.self.invariant c.in-Some.next c.insert.new.self c.args.thing up c.in-Ok.ensures.entries)

pub returns-in-Ok-clause-placed : goal.returns-in-Ok-clause-placed
returns-in-Ok-clause-placed g c =
    let up : c.in-Some.next ≡ c.self.inside.next + 1 = search rules in
    let few : c.in-Some.next < 2 ^ 64 = search rules in
    (kept_more g.T.OnChannel.channel_of c.self.inside.next c.self.inside.things c.self.inside.places c.self.invariant c.in-Some.next c.insert.new.self c.args.thing up c.in-Ok.ensures.entries
    c.add.new.self few c.in-Ok.ensures.ordered
    (subst (λ (ch : Channel). Puts nat_cmp ch.0 c.self.inside.next true c.self.inside.places c.add.new.self) c.channel-ch.ensures c.in_ok-add.ensures.added)).placed
