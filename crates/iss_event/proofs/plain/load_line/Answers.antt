use Rattle.std.proofs.Common.{◌∙◌, ap, ap₂, subst, sym}
use Rattle.iss_event.specs.declared.kind.Kind.TheVariants as kind
use Rattle.iss_event.specs.PlainLines.{SaysAfter, load_text, line_with}
use Rattle.iss_event.proofs.PlainLines.{load_read}
use Rattle.iss_event.proofs.plain.load_line.Goals as goal

pub returns : goal.returns
returns c =
    let it = c.in_ok-load.load in
    let at = c.in_ok-at.at in
    let spelled = c.in_ok-load.ensures ∙ ap (load_text it) c.in_ok-at.ensures.spelled in
    let read = load_read c.args.mode c.args.rest.now it at c.in_ok-at.ensures.whole spelled in
    let said = ap₂ line_with (sym c.stamp_said.ensures) (sym c.load_input.ensures) ∙ sym c.line_of.ensures in
    subst (SaysAfter c.args.mode kind.Load c.args.rest.now) said read
