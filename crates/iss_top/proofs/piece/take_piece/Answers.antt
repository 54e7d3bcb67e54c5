use Rattle.iss_top.proofs.ToldHears.{told_piece}
use Rattle.iss_top.proofs.piece.take_piece.Goals as goal

pub returns-in-Ok-clause-heard : goal.returns-in-Ok-clause-heard
returns-in-Ok-clause-heard g c =
    told_piece c.take.new.buf c.take.result (g.E.Edge.told c.args.edge.now) (g.E.Edge.told c.take.new.self) (g.E.Edge.heard c.args.edge.now) (g.E.Edge.heard c.take.new.self) c.take.ensures.taken c.take.ensures.unchanged c.take.ensures.heard

pub returns-in-Err-clause-heard : goal.returns-in-Err-clause-heard
returns-in-Err-clause-heard g c =
    told_piece c.take.new.buf c.take.result (g.E.Edge.told c.args.edge.now) (g.E.Edge.told c.take.new.self) (g.E.Edge.heard c.args.edge.now) (g.E.Edge.heard c.take.new.self) c.take.ensures.taken c.take.ensures.unchanged c.take.ensures.heard
