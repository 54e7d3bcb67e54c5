use Rattle.iss_edge.specs.Outer.{outer_of}
use Rattle.iss_texts.proofs.ToldSaying.{all_sent_told}
use Rattle.iss_texts.proofs.row.Texts.send.Goals as goal

pub returns-clause-sent : goal.returns-clause-sent
returns-clause-sent g c = λ texts all.
    all_sent_told texts c.args.self.now
    (outer_of (g.E.Edge.told c.args.edge.now) (g.E.Edge.heard c.args.edge.now)) (outer_of (g.E.Edge.told c.send_each.new.edge) (g.E.Edge.heard c.send_each.new.edge))
    c.send_each.result all (rw c.deref-2.ensures.value at (rw c.deref.ensures.value at c.send_each.ensures.sent))
