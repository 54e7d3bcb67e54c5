use Rattle.std.proofs.Common.{◌∙◌, ap, ap₂, subst, sym}
use Rattle.json.specs.Json.{number, string}
use Rattle.iss_field.specs.Names.{name_text}
use Rattle.iss_field.specs.declared.name.Name.TheVariants as name
use Rattle.iss_field.specs.PlainObjects.{member_text}
use Rattle.iss_event.specs.declared.kind.Kind.TheVariants as kind
use Rattle.iss_event.specs.declared.line.Mode.TheVariants.{Lines}
use Rattle.iss_event.specs.PlainLines.{SaysAfter, answer_known, line_with, stamp_known}
use Rattle.iss_event.proofs.PlainLines.{answer_read}
use Rattle.iss_event.proofs.plain.answer_line.Goals as goal

pub returns : goal.returns
returns c =
    let call = c.in_ok-call.call in
    let text = c.in_ok-text.text.now in
    let at = c.in_ok-at.at in
    let outcome = c.in_ok-outcome.outcome in
    let after = c.in_ok-text.ensures.spelled ∙ ap (member_text 44 (name_text name.Outcome) (string text)) c.in_ok-at.ensures.spelled in
    let spelled = c.in_ok-call.ensures.spelled ∙ ap (member_text 44 (name_text name.Call) (number call.digits.now)) after in
    let read = answer_read c.args.rest.now call outcome text at c.in_ok-call.ensures.whole c.in_ok-at.ensures.whole c.in_ok-outcome.ensures spelled in
    let stamped = ap (λ m. stamp_known m at) (sym c.in-Lines.is) ∙ sym c.stamp_said.ensures in
    let said = ap₂ line_with stamped (ap (λ v. answer_known v outcome) (sym c.value.ensures) ∙ sym c.answer_input.ensures) ∙ sym c.line_of.ensures in
    subst (λ m. SaysAfter m kind.Answer c.args.rest.now c.line_of.result) (sym c.in-Lines.is) (subst (SaysAfter Lines kind.Answer c.args.rest.now) said read)
