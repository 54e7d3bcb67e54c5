use Rattle.std.proofs.Common.{◌∙◌, ap, ap₂, subst, sym}
use Rattle.iss_event.specs.declared.kind.Kind.TheVariants as kind
use Rattle.iss_event.specs.PlainLines.{SaysAfter, purchase_text, line_with}
use Rattle.iss_event.proofs.PlainLines.{purchase_read}
use Rattle.iss_event.proofs.plain.purchase_line.Goals as goal

pub returns : goal.returns
returns c =
    let it = c.in_ok-purchase.purchase in
    let at = c.in_ok-at.at in
    let spelled = c.in_ok-purchase.ensures ∙ ap (purchase_text it) c.in_ok-at.ensures.spelled in
    let read = purchase_read c.args.mode c.args.rest.now it at c.in_ok-at.ensures.whole spelled in
    let said = ap₂ line_with (sym c.stamp_said.ensures) (sym c.purchase_input.ensures) ∙ sym c.line_of.ensures in
    subst (SaysAfter c.args.mode kind.Authorization c.args.rest.now) said read
