use Rattle.std.proofs.Common.{[], ◌∷◌}
use Rattle.iss_event.specs.FormLines.{form_text}
use Rattle.iss_texts.specs.TextRows.{HasAll}
use Rattle.iss_texts.proofs.Rows.{gained_all}
use Rattle.iss_top.proofs.ToldHears.{told_sends_each, told_sends_some}
use Rattle.iss_top.proofs.taking.tell_fault.Goals as goal

pub returns-in-Ok-clause-heard : goal.returns-in-Ok-clause-heard
returns-in-Ok-clause-heard g c =
    let texts = form_text c.args.fault.now ∷ [] in
    let all : HasAll texts c.put_form.new.self = gained_all texts c.clear.new.self c.put_form.new.self c.clear.ensures c.in_ok-put_form.ensures in
    told_sends_each texts (g.E.Edge.told c.args.edge.now) (g.E.Edge.told c.send.new.edge) (g.E.Edge.heard c.args.edge.now) (g.E.Edge.heard c.send.new.edge)
    (rw c.in-Ok.is at (c.send.ensures.told texts all))
    (rw c.in-Ok.is at (c.send.ensures.sent texts all))

pub returns-in-Err-clause-heard : goal.returns-in-Err-clause-heard
returns-in-Err-clause-heard g c =
    let texts = form_text c.args.fault.now ∷ [] in
    let all : HasAll texts c.put_form.new.self = gained_all texts c.clear.new.self c.put_form.new.self c.clear.ensures c.in_ok-put_form.ensures in
    told_sends_some texts (g.E.Edge.told c.args.edge.now) (g.E.Edge.told c.send.new.edge) (g.E.Edge.heard c.args.edge.now) (g.E.Edge.heard c.send.new.edge)
    (rw c.in-Err.is at (c.send.ensures.part texts all))
    (rw c.in-Err.is at (c.send.ensures.stopped texts all))
