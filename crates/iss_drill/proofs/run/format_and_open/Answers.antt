use Rattle.iss_drill.proofs.Fresh.{opened_fresh}
use Rattle.iss_drill.proofs.run.format_and_open.Goals as goal

pub returns-in-Ok-open-clause-opened : goal.returns-in-Ok-open-clause-opened
returns-in-Ok-open-clause-opened g c =
    λ device there.
    opened_fresh c.in-Ok-open.store (g.E.Edge.told c.args.edge.now) (g.E.Edge.told c.format.new.edge) (g.E.Edge.told c.open.new.edge) device
    c.in-Ok.ensures.formatted c.in-Ok-open.ensures.opens there
