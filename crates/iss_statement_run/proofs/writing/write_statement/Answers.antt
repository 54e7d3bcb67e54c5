use Rattle.std.proofs.Common.{rules, ◌≡◌}
use Rattle.std.specs.List.{concat}
use Rattle.iss_archive.specs.Statement.{statement_of}
use Rattle.iss_statement_run.proofs.Writings.{sent}
use Rattle.iss_statement_run.proofs.writing.write_statement.Goals as goal

pub returns-in-Ok : goal.returns-in-Ok
returns-in-Ok g c =
    let asked = c.args.asked.now in
    let rows = c.in_ok-rows.rows.items in
    let text = c.as_slice-3.result.now in
    let is : text ≡ concat (statement_of asked.user asked.currency asked.from asked.to rows) = search rules in
    sent asked (g.K.Keeper.faults c.args.keeper.now) (g.K.Keeper.faults c.of_user.new.self) (g.K.Keeper.told c.args.keeper.now) (g.K.Keeper.told c.of_user.new.self) (g.K.Keeper.left c.args.keeper.now) (g.K.Keeper.left c.of_user.new.self)
    c.of_user.ensures.cause.later c.of_user.ensures.stop rows c.in_ok-rows.ensures.read text (g.E.Edge.faults c.args.edge.now) (g.E.Edge.faults c.emit.new.self) (g.E.Edge.told c.args.edge.now) (g.E.Edge.told c.emit.new.self)
    c.emit.ensures.cause.later is (rw c.in-Ok.is at c.emit.ensures.emitted)
