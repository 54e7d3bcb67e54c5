use Rattle.std.proofs.Common.{◌∙◌}
use Rattle.iss_channels.specs.Placed.{things_of}
use Rattle.iss_clients.proofs.Feeding.{reads_as}
use Rattle.iss_clients.proofs.clients.Clients.is_reading.Goals as goal

pub returns : goal.returns
returns g c = rw (← c.self.view_is) (c.is_some.ensures ∙ reads_as c.args.ch (things_of c.self.inside.clients) c.find.result c.find.ensures)
