use Rattle.iss_edge.specs.Outer.{outer_of}
use Rattle.iss_serve.specs.Held.{seen_held}
use Rattle.iss_serve.proofs.Hears.{told_waiter_passed, told_waiter_failed}
use Rattle.iss_serve.proofs.held.Held.pass_over.Goals as goal

pub returns-in-Some-clause-hears : goal.returns-in-Some-clause-hears
returns-in-Some-clause-hears g c = λ store.
    told_waiter_passed store (seen_held c.args.self.now) c.args.ch c.requires.settled (outer_of (g.E.Edge.told c.args.edge.now) (g.E.Edge.heard c.args.edge.now)) (outer_of (g.E.Edge.told c.take_piece.new.edge) (g.E.Edge.heard c.take_piece.new.edge))
    c.take_piece.new.buffer c.in-Some.field-0 c.requires.other c.requires.waiting c.take_piece.ensures.room c.in-Some.ensures.bound c.in-Some.ensures.told

pub returns-in-None-clause-hears : goal.returns-in-None-clause-hears
returns-in-None-clause-hears g c = λ store.
    told_waiter_failed store (seen_held c.args.self.now) c.args.ch c.requires.settled (outer_of (g.E.Edge.told c.args.edge.now) (g.E.Edge.heard c.args.edge.now)) (outer_of (g.E.Edge.told c.take_piece.new.edge) (g.E.Edge.heard c.take_piece.new.edge))
    (seen_held c.lose_waiter.new.self) (outer_of (g.E.Edge.told c.lose_waiter.new.edge) (g.E.Edge.heard c.lose_waiter.new.edge)) c.requires.other c.requires.waiting c.lose_waiter.ensures.now c.in-None.ensures.told c.lose_waiter.ensures.told
