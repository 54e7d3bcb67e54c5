use Rattle.std.proofs.Common.{rules, ◌≡◌, true, false, Err}
use Rattle.iss_edge.specs.World.{Told}
use Rattle.iss_follow_runs.specs.Statuses.{stop_of_opening}
use Rattle.iss_follow_catch.specs.Behind.{OpensAhead}
use Rattle.iss_follow_catch.proofs.Exits.{catch_not_behind, catch_ran, from_unopened, to_unopened}
use Rattle.iss_follow_catch.proofs.catching.catch.Goals as goal

pub returns-in_err-store : goal.returns-in_err-store
returns-in_err-store g c =
    let failed : c.from_residual.result ≡ Err (stop_of_opening c.in_err-store.field-0.0) = search rules in
    rw failed (
    to_unopened c.in_err-store.field-0.0 (g.F.Edge.faults c.args.from.now) (g.T.Edge.faults c.args.to.now) (g.T.Edge.faults c.open.new.edge)
    (g.F.Edge.told c.args.from.now) (g.T.Edge.told c.args.to.now) (g.T.Edge.told c.open.new.edge) c.in_err-store.ensures.opens c.in_err-store.ensures.moments c.in_err-store.ensures.refused c.in_err-store.ensures.cause
    )

pub returns-in_err-ahead : goal.returns-in_err-ahead
returns-in_err-ahead g c =
    let failed : c.from_residual-in_err-ahead.result ≡ Err (stop_of_opening c.in_err-ahead.field-0.0) = search rules in
    rw failed (
    from_unopened c.in_ok-store.store (g.T.Edge.faults c.args.to.now) (g.T.Edge.faults c.open.new.edge) (g.T.Edge.told c.args.to.now) (g.T.Edge.told c.open.new.edge)
    c.in_ok-store.ensures.opened c.in_ok-store.ensures.cause.later c.in_err-ahead.field-0.0 (g.F.Edge.faults c.args.from.now) (g.F.Edge.faults c.open_ahead.new.edge)
    (g.F.Edge.told c.args.from.now) (g.F.Edge.told c.open_ahead.new.edge) c.in_err-ahead.ensures.opens c.in_err-ahead.ensures.moments c.in_err-ahead.ensures.refused c.in_err-ahead.ensures.cause
    )

pub returns-then-not-ahead : goal.returns-then-not-ahead
returns-then-not-ahead g c =
    let first : Told (OpensAhead c.in_ok-ahead.ahead.opened c.in_ok-store.store.core c.in_ok-ahead.ahead.met c.in_ok-ahead.ahead.later.items) (g.F.Edge.told c.args.from.now) (g.F.Edge.told c.open_ahead.new.edge) = search rules in
    let none : c.in_ok-ahead.ahead.met ≡ false = search rules in
    catch_not_behind c.in_ok-store.store (g.T.Edge.faults c.args.to.now) (g.T.Edge.faults c.open.new.edge) (g.T.Edge.told c.args.to.now) (g.T.Edge.told c.open.new.edge)
    c.in_ok-store.ensures.opened c.in_ok-store.ensures.cause.later c.in_ok-ahead.ahead.opened c.in_ok-ahead.ahead.met c.in_ok-ahead.ahead.later.items
    (g.F.Edge.faults c.args.from.now) (g.F.Edge.faults c.open_ahead.new.edge) (g.F.Edge.told c.args.from.now) (g.F.Edge.told c.open_ahead.new.edge) first c.in_ok-ahead.ensures.cause.later none

pub returns : goal.returns
returns g c =
    let first : Told (OpensAhead c.in_ok-ahead.ahead.opened c.in_ok-store.store.core c.in_ok-ahead.ahead.met c.in_ok-ahead.ahead.later.items) (g.F.Edge.told c.args.from.now) (g.F.Edge.told c.open_ahead.new.edge) = search rules in
    let is : c.in_ok-ahead.ahead.met ≡ true = search rules in
    catch_ran c.in_ok-store.store (g.T.Edge.faults c.args.to.now) (g.T.Edge.faults c.open.new.edge) (g.T.Edge.told c.args.to.now) (g.T.Edge.told c.open.new.edge)
    c.in_ok-store.ensures.opened c.in_ok-store.ensures.cause.later c.in_ok-ahead.ahead.opened c.in_ok-ahead.ahead.met c.in_ok-ahead.ahead.later.items
    (g.F.Edge.faults c.args.from.now) (g.F.Edge.faults c.open_ahead.new.edge) (g.F.Edge.told c.args.from.now) (g.F.Edge.told c.open_ahead.new.edge) first c.in_ok-ahead.ensures.cause.later
    is c.as_slice.result.now c.as_slice.ensures.value c.commit_all.result (g.T.Edge.faults c.commit_all.new.to) (g.T.Edge.told c.commit_all.new.to)
    c.commit_all.ensures.kind c.commit_all.ensures.ran c.commit_all.ensures.part c.commit_all.ensures.left c.commit_all.ensures.cause
