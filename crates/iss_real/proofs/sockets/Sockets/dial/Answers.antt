use Rattle.std.proofs.Common.{◌≡◌, ◌+◌, ◌++◌, ◌∷◌, [], rules}
use Rattle.iss_real.proofs.Opened.{below_next, next_unused, up_to_next, up_to_opened}
use Rattle.iss_real.proofs.sockets.Sockets.dial.Goals as goal

pub push-requires : goal.push-requires
push-requires g c =
    let next : c.in_ok-number.number ≡ c.self.inside.last + 1 = search rules in
    record { greatest = below_next c.self.inside.last c.in_ok-number.number c.self.inside.dialled next c.self.invariant.1 }

pub invariant_of-self-2 : goal.invariant_of-self-2
invariant_of-self-2 g c =
    let s = c.self.inside in
    let number = c.in_ok-number.number in
    let next : number ≡ s.last + 1 = search rules in
    let pushed : c.push.new.self ≡ s.dialled ++ number ∷ [] = search rules in
    (up_to_next s.last number s.clients next c.self.invariant.0, up_to_opened s.last number s.dialled c.push.new.self next pushed c.self.invariant.1)

pub returns-clause-unused : goal.returns-clause-unused
returns-clause-unused g c =
    let s = c.self.inside in
    let number = c.in_ok-number.number in
    let next : number ≡ s.last + 1 = search rules in
    rw (← c.self.view_is) (next_unused s.last number s.clients s.dialled s.ready next c.self.invariant.0 c.self.invariant.1)
