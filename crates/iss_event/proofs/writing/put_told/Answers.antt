use Rattle.std.proofs.Common.{ap, ◌∙◌}
use Rattle.iss_model.specs.texts.AnswerLines.{answer_text}
use Rattle.iss_event.proofs.Lines.{named, unknown_call, already, unknown_notice}
use Rattle.iss_event.proofs.writing.put_told.Goals as goal

pub returns-in-UnknownCall : goal.returns-in-UnknownCall
returns-in-UnknownCall c = named c.put_numbered.result _ _ _ _ (ap answer_text c.in-UnknownCall.is ∙ unknown_call c.in-UnknownCall.call) c.put_numbered.ensures

pub returns-in-Already : goal.returns-in-Already
returns-in-Already c =
    named c.put_numbered-in-Already.result _ _ _ _ (ap answer_text c.in-Already.is ∙ already c.in-Already.notice) c.put_numbered-in-Already.ensures

pub returns-in-UnknownNotice : goal.returns-in-UnknownNotice
returns-in-UnknownNotice c =
    named c.put_numbered-in-UnknownNotice.result _ _ _ _ (ap answer_text c.in-UnknownNotice.is ∙ unknown_notice c.in-UnknownNotice.notice) c.put_numbered-in-UnknownNotice.ensures
