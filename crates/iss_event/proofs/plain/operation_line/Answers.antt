use Rattle.std.proofs.Common.{◌∙◌, ap, ap₂, subst, sym}
use Rattle.iss_event.specs.declared.kind.Kind.TheVariants as kind
use Rattle.iss_event.specs.PlainLines.{SaysAfter, kind_of_operation, operation_text, line_with}
use Rattle.iss_event.proofs.PlainLines.{operation_read}
use Rattle.iss_event.proofs.plain.operation_line.Goals as goal

pub returns : goal.returns
returns c =
    let it = c.in_ok-texts.texts in
    let at = c.in_ok-at.at in
    let spelled = c.in_ok-texts.ensures ∙ ap (operation_text it) c.in_ok-at.ensures.spelled in
    let read = operation_read c.args.mode c.args.kind c.args.rest.now it at c.in_ok-at.ensures.whole spelled in
    let said = ap₂ line_with (sym c.stamp_said.ensures) (sym c.operation_input.ensures) ∙ sym c.line_of.ensures in
    subst (SaysAfter c.args.mode (kind_of_operation c.args.kind) c.args.rest.now) said read
