use Rattle.std.proofs.Common.{◌≡◌, [], ◌∷◌, sym, ap, ◌∙◌, append-nil}
use Rattle.iss_edge.specs.Outer.{outer_of}
use Rattle.iss_model.specs.texts.GatewayTexts.{notice_text}
use Rattle.iss_http.specs.Messages.{ask}
use Rattle.iss_session.specs.Desks.{of_notice}
use Rattle.iss_session.specs.Sendings.{gone_on}
use Rattle.iss_link.specs.declared.gone.Gone.TheVariants.{Noted}
use Rattle.iss_store.proofs.ServedTexts.{notes_text, notes_text_if, text_in_part_if, noted_one, none_unreached}
use Rattle.iss_store.proofs.entries.send_notice.Goals as goal

pub returns-in-Some-clause-notes : goal.returns-in-Some-clause-notes
returns-in-Some-clause-notes g c =
    let text = notice_text c.args.instance c.args.notice.now in
    let subject = of_notice c.args.notice.now.number in
    let bytes : c.deref.result.now ≡ ask text = c.deref.ensures.value ∙ c.in_ok-write_notice.ensures in
    let x = outer_of (g.E.Edge.told c.args.edge.now) (g.E.Edge.heard c.args.edge.now) in
    let y = outer_of (g.E.Edge.told c.send.new.edge) (g.E.Edge.heard c.send.new.edge) in
    let f = g.E.Edge.faults c.args.edge.now in
    let h = g.E.Edge.faults c.send.new.edge in
    λ ended.
    notes_text_if c.note.result subject text c.send.result (Noted c.args.notice.now.number c.in-Some.ch ∷ []) c.args.gone.now.items c.note.new.gone.items ended f h x y c.note.ensures.noted (ap (gone_on subject) c.in-Some.is)
    (noted_one f h c.args.notice.now.number c.in-Some.ch c.send.ensures.later) (λ level tasks waiting. c.send.ensures.sends level subject text tasks waiting bytes)

pub returns-in-Some-clause-part : goal.returns-in-Some-clause-part
returns-in-Some-clause-part g c =
    let text = notice_text c.args.instance c.args.notice.now in
    let subject = of_notice c.args.notice.now.number in
    let bytes : c.deref.result.now ≡ ask text = c.deref.ensures.value ∙ c.in_ok-write_notice.ensures in
    let x = outer_of (g.E.Edge.told c.args.edge.now) (g.E.Edge.heard c.args.edge.now) in
    let y = outer_of (g.E.Edge.told c.send.new.edge) (g.E.Edge.heard c.send.new.edge) in
    text_in_part_if c.note.result subject text c.send.result x y (λ level tasks waiting. c.send.ensures.sends level subject text tasks waiting bytes)

pub returns-in-None-clause-notes : goal.returns-in-None-clause-notes
returns-in-None-clause-notes g c =
    let text = notice_text c.args.instance c.args.notice.now in
    let subject = of_notice c.args.notice.now.number in
    let bytes : c.deref.result.now ≡ ask text = c.deref.ensures.value ∙ c.in_ok-write_notice.ensures in
    let x = outer_of (g.E.Edge.told c.args.edge.now) (g.E.Edge.heard c.args.edge.now) in
    let y = outer_of (g.E.Edge.told c.send.new.edge) (g.E.Edge.heard c.send.new.edge) in
    let f = g.E.Edge.faults c.args.edge.now in
    let h = g.E.Edge.faults c.send.new.edge in
    λ ended.
    notes_text subject text c.send.result [] c.args.gone.now.items c.args.gone.now.items ended f h x y (sym (append-nil c.args.gone.now.items)) (ap (gone_on subject) c.in-None.is)
    (none_unreached f h c.send.ensures.later) (λ level tasks waiting. c.send.ensures.sends level subject text tasks waiting bytes)
