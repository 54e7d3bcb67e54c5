use Rattle.std.proofs.Common.{◌≡◌, [], ◌∷◌, ap, ◌∙◌}
use Rattle.iss_edge.specs.Outer.{outer_of}
use Rattle.iss_model.specs.texts.GatewayTexts.{request_text}
use Rattle.iss_http.specs.Messages.{ask}
use Rattle.iss_session.specs.Desks.{of_call}
use Rattle.iss_session.specs.Sendings.{gone_on}
use Rattle.iss_link.specs.declared.gone.Gone.TheVariants.{Asked, Unreached}
use Rattle.iss_store.proofs.ServedTexts.{notes_text_if, text_in_part_if, reached_one, unreached_one}
use Rattle.iss_store.proofs.entries.send_request.Goals as goal

pub returns-in-Some-clause-notes : goal.returns-in-Some-clause-notes
returns-in-Some-clause-notes g c =
    let text = request_text c.args.instance c.args.opened.now in
    let subject = of_call c.args.opened.now in
    let bytes : c.deref.result.now ≡ ask text = c.deref.ensures.value ∙ c.in_ok-write_request.ensures in
    let x = outer_of (g.E.Edge.told c.args.edge.now) (g.E.Edge.heard c.args.edge.now) in
    let y = outer_of (g.E.Edge.told c.send.new.edge) (g.E.Edge.heard c.send.new.edge) in
    let f = g.E.Edge.faults c.args.edge.now in
    let h = g.E.Edge.faults c.send.new.edge in
    λ ended.
    notes_text_if c.note.result subject text c.send.result (Asked c.args.opened.now c.in-Some.ch ∷ []) c.args.gone.now.items c.note.new.gone.items ended f h x y c.note.ensures.noted (ap (gone_on subject) c.in-Some.is)
    (reached_one f h c.args.opened.now c.in-Some.ch c.send.ensures.later) (λ level tasks waiting. c.send.ensures.sends level subject text tasks waiting bytes)

pub returns-in-Some-clause-part : goal.returns-in-Some-clause-part
returns-in-Some-clause-part g c =
    let text = request_text c.args.instance c.args.opened.now in
    let subject = of_call c.args.opened.now in
    let bytes : c.deref.result.now ≡ ask text = c.deref.ensures.value ∙ c.in_ok-write_request.ensures in
    let x = outer_of (g.E.Edge.told c.args.edge.now) (g.E.Edge.heard c.args.edge.now) in
    let y = outer_of (g.E.Edge.told c.send.new.edge) (g.E.Edge.heard c.send.new.edge) in
    text_in_part_if c.note.result subject text c.send.result x y (λ level tasks waiting. c.send.ensures.sends level subject text tasks waiting bytes)

pub returns-in-None-clause-notes : goal.returns-in-None-clause-notes
returns-in-None-clause-notes g c =
    let text = request_text c.args.instance c.args.opened.now in
    let subject = of_call c.args.opened.now in
    let bytes : c.deref.result.now ≡ ask text = c.deref.ensures.value ∙ c.in_ok-write_request.ensures in
    let x = outer_of (g.E.Edge.told c.args.edge.now) (g.E.Edge.heard c.args.edge.now) in
    let y = outer_of (g.E.Edge.told c.send.new.edge) (g.E.Edge.heard c.send.new.edge) in
    let f = g.E.Edge.faults c.args.edge.now in
    let h = g.E.Edge.faults c.send.new.edge in
    λ ended.
    notes_text_if c.note-in-None.result subject text c.send.result (Unreached c.args.opened.now.call ∷ []) c.args.gone.now.items c.note-in-None.new.gone.items ended f h x y c.note-in-None.ensures.noted
    (ap (gone_on subject) c.in-None.is) (unreached_one f h c.args.opened.now.call c.send.ensures.later (c.send.ensures.unsent c.in-None.is)) (λ level tasks waiting. c.send.ensures.sends level subject text tasks waiting bytes)

pub returns-in-None-clause-part : goal.returns-in-None-clause-part
returns-in-None-clause-part g c =
    let text = request_text c.args.instance c.args.opened.now in
    let subject = of_call c.args.opened.now in
    let bytes : c.deref.result.now ≡ ask text = c.deref.ensures.value ∙ c.in_ok-write_request.ensures in
    let x = outer_of (g.E.Edge.told c.args.edge.now) (g.E.Edge.heard c.args.edge.now) in
    let y = outer_of (g.E.Edge.told c.send.new.edge) (g.E.Edge.heard c.send.new.edge) in
    text_in_part_if c.note-in-None.result subject text c.send.result x y (λ level tasks waiting. c.send.ensures.sends level subject text tasks waiting bytes)
