use Rattle.std.proofs.Common.{◌≡◌, Err, rules}
use Rattle.iss_serve.specs.Causes.{fault_of_opening}
use Rattle.iss_serve.proofs.ToldServes.{told_unopened_refuses, told_unopened_ends_well, told_served, told_served_refuses, told_served_ends_well}
use Rattle.iss_serve.proofs.running.serve.Goals as goal

pub returns-in_err-store-clause-refused : goal.returns-in_err-store-clause-refused
returns-in_err-store-clause-refused g c =
    let failed : c.from_residual.result ≡ Err (fault_of_opening c.in_err-store.field-0.0) = search rules in
    rw failed (
    told_unopened_refuses c.in_err-store.field-0.0 (g.E.Edge.told c.args.edge.now) (g.E.Edge.told c.open.new.edge) c.in_err-store.ensures.opens c.in_err-store.ensures.moments c.in_err-store.ensures.refused
    )

pub returns-in_err-store-clause-complete : goal.returns-in_err-store-clause-complete
returns-in_err-store-clause-complete g c =
    let failed : c.from_residual.result ≡ Err (fault_of_opening c.in_err-store.field-0.0) = search rules in
    rw failed (
    told_unopened_ends_well c.in_err-store.field-0.0 (g.E.Edge.faults c.args.edge.now) (g.E.Edge.faults c.open.new.edge) (g.E.Edge.told c.args.edge.now) (g.E.Edge.told c.open.new.edge)
    c.in_err-store.ensures.cause c.in_err-store.ensures.opens
    )

pub returns-clause-serving : goal.returns-clause-serving
returns-clause-serving g c =
    told_served c.args.turns c.in_ok-store.store (g.E.Edge.told c.args.edge.now) (g.E.Edge.told c.open.new.edge) (g.E.Edge.told c.serve_on.new.edge)
    (g.E.Edge.heard c.args.edge.now) (g.E.Edge.heard c.open.new.edge) (g.E.Edge.heard c.serve_on.new.edge) c.in_ok-store.ensures.opened c.in_ok-store.ensures.heard
    c.serve_on.result (g.E.Edge.faults c.open.new.edge) (g.E.Edge.faults c.serve_on.new.edge) c.serve_on.ensures.caused c.serve_on.ensures.whole c.serve_on.ensures.part

pub returns-clause-refused : goal.returns-clause-refused
returns-clause-refused g c =
    told_served_refuses c.in_ok-store.store (g.E.Edge.told c.args.edge.now) (g.E.Edge.told c.open.new.edge) (g.E.Edge.told c.serve_on.new.edge) c.in_ok-store.ensures.opened c.serve_on.ensures.alone
    c.serve_on.result (g.E.Edge.faults c.open.new.edge) (g.E.Edge.faults c.serve_on.new.edge) c.serve_on.ensures.caused

pub returns-clause-complete : goal.returns-clause-complete
returns-clause-complete g c =
    told_served_ends_well c.in_ok-store.store (g.E.Edge.told c.args.edge.now) (g.E.Edge.told c.open.new.edge) (g.E.Edge.told c.serve_on.new.edge) c.in_ok-store.ensures.opened c.serve_on.ensures.alone
    c.serve_on.result (g.E.Edge.faults c.args.edge.now) (g.E.Edge.faults c.open.new.edge) (g.E.Edge.faults c.serve_on.new.edge) c.in_ok-store.ensures.cause.later c.serve_on.ensures.caused
