use Rattle.std.proofs.Common.{not, ◌==◌}
use Rattle.iss_edge.proofs.Numbers.{filter_all}
use Rattle.iss_real.specs.Numbers.{is_up_to}
use Rattle.iss_real.proofs.sockets.Sockets.close.Goals as goal

pub invariant_of-self : goal.invariant_of-self
invariant_of-self g c =
    let s = c.self.inside in
    rw c.close.ensures (rw c.close-2.ensures (rw c.withdraw.ensures (
      filter_all (is_up_to s.last) (λ n. not (n == c.args.ch.0)) s.clients c.self.invariant.0,
      filter_all (is_up_to s.last) (λ n. not (n == c.args.ch.0)) s.dialled c.self.invariant.1,
    )))
