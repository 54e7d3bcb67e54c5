use Rattle.std.proofs.Common.{◌∙◌}
use Rattle.iss_real.proofs.Opened.{has_number}
use Rattle.iss_real.proofs.peers.Peers.has.Goals as goal

pub returns : goal.returns
returns c = rw (← c.self.view_is) (c.contains_key.ensures ∙ has_number c.args.ch.0 c.self.inside.peers)
