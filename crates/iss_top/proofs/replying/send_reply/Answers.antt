use Rattle.std.proofs.Common.{List, ℕ, sym, subst, ◌∙◌}
use Rattle.iss_edge.specs.World.{Told}
use Rattle.iss_texts.specs.Sending.{Says, SaysSome}
use Rattle.iss_texts.proofs.Rows.{all_end}
use Rattle.iss_top.specs.Dry.{each_bytes, reply_of_line}
use Rattle.iss_top.proofs.ReplyLemmas.{line_told}
use Rattle.iss_top.proofs.ToldHears.{told_sends_each, told_sends_some}
use Rattle.iss_top.proofs.replying.send_reply.Goals as goal

pub send-requires : goal.send-requires
send-requires g c =
    record { ends = all_end (each_bytes (reply_of_line c.args.core.state c.args.line.now).texts) c.answer.new.texts c.in_ok-next.ensures.texts }

pub returns-in-Ok-clause-heard : goal.returns-in-Ok-clause-heard
returns-in-Ok-clause-heard g c =
    let texts = each_bytes (reply_of_line c.args.core.state c.args.line.now).texts in
    told_sends_each texts (g.E.Edge.told c.args.edge.now) (g.E.Edge.told c.send.new.edge) (g.E.Edge.heard c.args.edge.now) (g.E.Edge.heard c.send.new.edge)
    (rw c.in-Ok.is at (c.send.ensures.told texts c.in_ok-next.ensures.texts))
    (rw c.in-Ok.is at (c.send.ensures.sent texts c.in_ok-next.ensures.texts))

pub returns-in-Err-clause-heard : goal.returns-in-Err-clause-heard
returns-in-Err-clause-heard g c =
    let texts = each_bytes (reply_of_line c.args.core.state c.args.line.now).texts in
    told_sends_some texts (g.E.Edge.told c.args.edge.now) (g.E.Edge.told c.send.new.edge) (g.E.Edge.heard c.args.edge.now) (g.E.Edge.heard c.send.new.edge)
    (rw c.in-Err.is at (c.send.ensures.part texts c.in_ok-next.ensures.texts))
    (rw c.in-Err.is at (c.send.ensures.stopped texts c.in_ok-next.ensures.texts))

pub returns-in-Ok-clause-told : goal.returns-in-Ok-clause-told
returns-in-Ok-clause-told g c =
    let texts = each_bytes (reply_of_line c.args.core.state c.args.line.now).texts in
    subst (λ (texts : List (List ℕ)). Told (Says texts) (g.E.Edge.told c.args.edge.now) (g.E.Edge.told c.send.new.edge))
    (line_told c.args.core.state c.args.line.now (sym c.is_blank.ensures ∙ c.if-is_blank.false))
    (rw c.in-Ok.is at (c.send.ensures.told texts c.in_ok-next.ensures.texts))

pub returns-in-Err-clause-part : goal.returns-in-Err-clause-part
returns-in-Err-clause-part g c =
    let texts = each_bytes (reply_of_line c.args.core.state c.args.line.now).texts in
    subst (λ (texts : List (List ℕ)). Told (SaysSome texts) (g.E.Edge.told c.args.edge.now) (g.E.Edge.told c.send.new.edge))
    (line_told c.args.core.state c.args.line.now (sym c.is_blank.ensures ∙ c.if-is_blank.false))
    (rw c.in-Err.is at (c.send.ensures.part texts c.in_ok-next.ensures.texts))
