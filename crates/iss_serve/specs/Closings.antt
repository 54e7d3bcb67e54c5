-- The channels that are open while a run serves.
use Rattle.std.specs.Prelude.{List, ◌++◌, map}
use Rattle.iss_edge.specs.declared.outside.Channel.{Channel}
use Rattle.iss_serve.specs.Held.{HeldNow}

-- clients whose requests aren't whole, clients that wait, and channels to the gateway, each in the order in which they came
abbrev pub open_channels : HeldNow → List Channel
open_channels h = map (λ r. r.ch) h.clients ++ map (λ w. w.ch) h.served ++ map (λ l. l.ch) h.links.links
