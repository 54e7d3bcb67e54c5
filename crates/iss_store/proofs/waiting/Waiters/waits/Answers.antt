use Rattle.std.proofs.Common.{◌∙◌}
use Rattle.iss_channels.specs.Placed.{things_of}
use Rattle.iss_store.proofs.Waiters.{waits_as}
use Rattle.iss_store.proofs.waiting.Waiters.waits.Goals as goal

pub returns : goal.returns
returns c = rw (← c.self.view_is) (c.is_some.ensures ∙ waits_as c.args.ch (things_of c.self.inside.waiting) c.find.result c.find.ensures)
