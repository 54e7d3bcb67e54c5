use Rattle.iss_real.proofs.Opened.{numbers_removed}
use Rattle.iss_real.proofs.peers.Peers.close.Goals as goal

pub returns : goal.returns
returns c = rw (← c.self.view_is) (numbers_removed c.args.ch.0 c.self.inside.peers c.remove.new.self c.remove.ensures.entries c.remove.ensures.updates)
