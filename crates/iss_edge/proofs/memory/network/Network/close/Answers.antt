use Rattle.iss_edge.proofs.Numbers.{numbers_closed}
use Rattle.iss_edge.proofs.memory.network.Network.close.Goals as goal

pub invariant_of-self : goal.invariant_of-self
invariant_of-self c =
    let n = c.self.inside in
    let kept = numbers_closed c.args.ch.0 n.clients.items n.dialled.items n.script.items n.dials c.self.invariant.0 c.self.invariant.1 c.self.invariant.2 in
    rw c.forget.ensures (rw c.forget-2.ensures kept)
