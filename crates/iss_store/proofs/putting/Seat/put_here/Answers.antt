use Rattle.std.proofs.Common.{ap, subst}
use Rattle.iss_model.specs.declared.input.Record.{Record}
use Rattle.iss_store.specs.Values.{Plan, IsFramed}
use Rattle.iss_store.specs.Putting.{stood}
use Rattle.iss_store.proofs.Commits.{part_told_here, kept_told_here}
use Rattle.iss_store.proofs.putting.Seat.put_here.Goals as goal

pub returns-in_default-clause-moments : goal.returns-in_default-clause-moments
returns-in_default-clause-moments g c =
    part_told_here (stood c.args.self c.args.core.now) c.requires.store c.args.planned.now c.requires.plan c.planned.inside.frame
    (subst (λ (r : Record). IsFramed r c.planned.inside.frame) (ap (λ (p : Plan). p.accepted) c.planned.view_is) c.planned.invariant)
    (g.E.Edge.told c.args.edge.now) (g.E.Edge.told c.append.new.edge) c.requires.here c.append.ensures.moments

pub returns-clause-moments : goal.returns-clause-moments
returns-clause-moments g c =
    part_told_here (stood c.args.self c.args.core.now) c.requires.store c.args.planned.now c.requires.plan c.planned.inside.frame
    (subst (λ (r : Record). IsFramed r c.planned.inside.frame) (ap (λ (p : Plan). p.accepted) c.planned.view_is) c.planned.invariant)
    (g.E.Edge.told c.args.edge.now) (g.E.Edge.told c.append.new.edge) c.requires.here c.append.ensures.moments

pub returns-clause-lasts : goal.returns-clause-lasts
returns-clause-lasts g c =
    kept_told_here (stood c.args.self c.args.core.now) c.requires.store c.args.planned.now c.requires.plan c.planned.inside.frame
    (subst (λ (r : Record). IsFramed r c.planned.inside.frame) (ap (λ (p : Plan). p.accepted) c.planned.view_is) c.planned.invariant)
    (g.E.Edge.told c.args.edge.now) (g.E.Edge.told c.append.new.edge) c.requires.here c.in-Ok.ensures.acknowledged
