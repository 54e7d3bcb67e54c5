use Rattle.std.proofs.Common.{◌≡◌, ◌+◌, ◌++◌, ◌∷◌, [], rules}
use Rattle.iss_real.proofs.Opened.{below_next, next_unused, up_to_next, up_to_opened}
use Rattle.iss_real.proofs.sockets.Sockets.admit.Goals as goal

pub push-requires : goal.push-requires
push-requires g c =
    let next : c.in_ok-number.number ≡ c.self.inside.last + 1 = search rules in
    record { greatest = below_next c.self.inside.last c.in_ok-number.number c.self.inside.clients next c.self.invariant.0 }

pub invariant_of-self : goal.invariant_of-self
invariant_of-self g c =
    let s = c.self.inside in
    let number = c.in_ok-number.number in
    let next : number ≡ s.last + 1 = search rules in
    let pushed : c.wake.new.self ≡ s.clients ++ number ∷ [] = search rules in
    (up_to_opened s.last number s.clients c.wake.new.self next pushed c.self.invariant.0, up_to_next s.last number s.dialled next c.self.invariant.1)

pub returns-in-Ok-clause-unused : goal.returns-in-Ok-clause-unused
returns-in-Ok-clause-unused g c =
    let s = c.self.inside in
    let number = c.in_ok-number.number in
    let next : number ≡ s.last + 1 = search rules in
    rw (← c.client.ensures) (rw (← c.self.view_is) (next_unused s.last number s.clients s.dialled s.ready next c.self.invariant.0 c.self.invariant.1))
