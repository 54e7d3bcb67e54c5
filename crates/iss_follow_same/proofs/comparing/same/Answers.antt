use Rattle.std.proofs.Common.{rules, ◌≡◌, true, Err, refl}
use Rattle.std.specs.Prelude.{◌↔◌}
use Rattle.iss_follow_runs.specs.declared.stop.Stop.TheVariants as stop
use Rattle.iss_follow_runs.specs.Statuses.{stop_of_opening}
use Rattle.iss_follow_same.specs.Comparing.{AreSame}
use Rattle.iss_follow_same.specs.Lines.{same_line}
use Rattle.iss_follow_same.proofs.Exits.{same_first_unopened, same_second_unopened, same_no_memory, same_unsent, same_sent}
use Rattle.iss_follow_same.proofs.comparing.same.Goals as goal

pub returns-in_err-first : goal.returns-in_err-first
returns-in_err-first g c =
    let failed : c.from_residual.result ≡ Err (stop_of_opening c.in_err-first.field-0.0) = search rules in
    rw failed (
    same_first_unopened c.in_err-first.field-0.0 (g.F.Edge.faults c.args.from.now) (g.F.Edge.faults c.open.new.edge) (g.T.Edge.faults c.args.to.now)
    (g.F.Edge.told c.args.from.now) (g.F.Edge.told c.open.new.edge) (g.T.Edge.told c.args.to.now)
    c.in_err-first.ensures.opens c.in_err-first.ensures.moments c.in_err-first.ensures.refused c.in_err-first.ensures.cause
    )

pub returns-in_err-second : goal.returns-in_err-second
returns-in_err-second g c =
    let failed : c.from_residual-in_err-second.result ≡ Err (stop_of_opening c.in_err-second.field-0.0) = search rules in
    rw failed (
    same_second_unopened c.in_ok-first.first (g.F.Edge.faults c.args.from.now) (g.F.Edge.faults c.open.new.edge) (g.F.Edge.told c.args.from.now) (g.F.Edge.told c.open.new.edge) c.in_ok-first.ensures.opened
    c.in_err-second.field-0.0 (g.T.Edge.faults c.args.to.now) (g.T.Edge.faults c.open-2.new.edge) (g.T.Edge.told c.args.to.now) (g.T.Edge.told c.open-2.new.edge)
    c.in_ok-first.ensures.cause.later c.in_err-second.ensures.opens c.in_err-second.ensures.moments c.in_err-second.ensures.refused c.in_err-second.ensures.cause
    )

pub returns-in_err-same : goal.returns-in_err-same
returns-in_err-same g c =
    let failed : c.from_residual-in_err-same.result ≡ Err stop.Memory = search rules in
    rw failed (
    same_no_memory c.in_ok-first.first (g.F.Edge.faults c.args.from.now) (g.F.Edge.faults c.open.new.edge) (g.F.Edge.told c.args.from.now) (g.F.Edge.told c.open.new.edge) c.in_ok-first.ensures.opened
    c.in_ok-second.second (g.T.Edge.faults c.args.to.now) (g.T.Edge.faults c.open-2.new.edge) (g.T.Edge.told c.args.to.now) (g.T.Edge.told c.open-2.new.edge) c.in_ok-second.ensures.opened
    c.in_ok-first.ensures.cause.later c.in_ok-second.ensures.cause.later
    )

pub returns-in_err-line : goal.returns-in_err-line
returns-in_err-line g c =
    let failed : c.from_residual-in_err-line.result ≡ Err stop.Memory = search rules in
    rw failed (
    same_no_memory c.in_ok-first.first (g.F.Edge.faults c.args.from.now) (g.F.Edge.faults c.open.new.edge) (g.F.Edge.told c.args.from.now) (g.F.Edge.told c.open.new.edge) c.in_ok-first.ensures.opened
    c.in_ok-second.second (g.T.Edge.faults c.args.to.now) (g.T.Edge.faults c.open-2.new.edge) (g.T.Edge.told c.args.to.now) (g.T.Edge.told c.open-2.new.edge) c.in_ok-second.ensures.opened
    c.in_ok-first.ensures.cause.later c.in_ok-second.ensures.cause.later
    )

pub returns-in-Ok : goal.returns-in-Ok
returns-in-Ok g c =
    let exactly : (c.in_ok-same.same ≡ true) ↔ AreSame c.in_ok-first.first.core c.in_ok-second.second.core = search rules in
    let is : c.as_slice.result.now ≡ same_line c.in_ok-first.first.core.state.count c.in_ok-same.same = search rules in
    same_sent c.in_ok-first.first (g.F.Edge.faults c.args.from.now) (g.F.Edge.faults c.open.new.edge) (g.F.Edge.told c.args.from.now) (g.F.Edge.told c.open.new.edge) c.in_ok-first.ensures.opened
    c.in_ok-second.second (g.T.Edge.faults c.args.to.now) (g.T.Edge.faults c.open-2.new.edge) (g.T.Edge.told c.args.to.now) (g.T.Edge.told c.open-2.new.edge) c.in_ok-second.ensures.opened
    (record { 0 = 0 }) c.as_slice.result.now (g.F.Edge.faults c.emit.new.self) (g.F.Edge.told c.emit.new.self)
    c.in_ok-same.same exactly refl is c.in_ok-first.ensures.cause.later c.in_ok-second.ensures.cause.later c.emit.ensures.cause.later (rw c.in-Ok.is at c.emit.ensures.emitted)

pub returns : goal.returns
returns g c =
    let exactly : (c.in_ok-same.same ≡ true) ↔ AreSame c.in_ok-first.first.core c.in_ok-second.second.core = search rules in
    let is : c.as_slice.result.now ≡ same_line c.in_ok-first.first.core.state.count c.in_ok-same.same = search rules in
    same_unsent c.in_ok-first.first (g.F.Edge.faults c.args.from.now) (g.F.Edge.faults c.open.new.edge) (g.F.Edge.told c.args.from.now) (g.F.Edge.told c.open.new.edge) c.in_ok-first.ensures.opened
    c.in_ok-second.second (g.T.Edge.faults c.args.to.now) (g.T.Edge.faults c.open-2.new.edge) (g.T.Edge.told c.args.to.now) (g.T.Edge.told c.open-2.new.edge) c.in_ok-second.ensures.opened
    (record { 0 = 0 }) c.as_slice.result.now (g.F.Edge.faults c.emit.new.self) (g.F.Edge.told c.emit.new.self)
    c.in_ok-same.same exactly refl is c.in_ok-first.ensures.cause.later c.in_ok-second.ensures.cause.later c.emit.ensures.cause.later (rw c.in-Err.is at c.emit.ensures.cause.failed) (rw c.in-Err.is at c.emit.ensures.part)
