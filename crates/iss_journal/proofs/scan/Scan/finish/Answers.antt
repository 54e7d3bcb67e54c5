use Rattle.std.proofs.Common.{rules}
use Rattle.iss_journal.proofs.Closings.{close_part, close_done_good}
use Rattle.iss_journal.proofs.scan.Scan.finish.Goals as goal

pub returns-in_err-put-clause-moments : goal.returns-in_err-put-clause-moments
returns-in_err-put-clause-moments g c =
    close_part c.args.self c.in_ok-gate.gate (g.E.Edge.told c.args.edge.now) (g.E.Edge.told c.read_gate.new.edge) (g.E.Edge.told c.put.new.edge) (search rules) (search rules) (search rules)

pub returns-clause-moments : goal.returns-clause-moments
returns-clause-moments g c =
    close_done_good c.args.self c.in_ok-gate.gate (g.E.Edge.told c.args.edge.now) (g.E.Edge.told c.read_gate.new.edge) (g.E.Edge.told c.put.new.edge) (search rules) (search rules) (search rules)
