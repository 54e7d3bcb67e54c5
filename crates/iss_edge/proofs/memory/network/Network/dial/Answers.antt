use Rattle.std.proofs.Common.{◌≡◌, ◌+◌, ◌++◌, ◌∷◌, [], rules}
use Rattle.iss_edge.proofs.Numbers.{dial_unused, dialled_more}
use Rattle.iss_edge.proofs.memory.network.Network.dial.Goals as goal

pub invariant_of-self-2 : goal.invariant_of-self-2
invariant_of-self-2 c =
    let n = c.self.inside in
    let number : c.in_ok-number.number ≡ n.dials + 1000001 = search rules in
    let pushed : c.push.new.self.items ≡ n.dialled.items ++ c.in_ok-number.number ∷ [] = search rules in
    (c.self.invariant.0, c.self.invariant.1, rw pushed (dialled_more n.dials c.in_ok-number.number n.dialled.items number c.self.invariant.2))

pub returns-clause-unused : goal.returns-clause-unused
returns-clause-unused c =
    let n = c.self.inside in
    let number : c.in_ok-number.number ≡ n.dials + 1000001 = search rules in
    rw (← c.self.view_is) (dial_unused (record { 0 = c.in_ok-number.number }) n.clients.items n.dialled.items n.ready n.dials number c.self.invariant.1 c.self.invariant.2)
