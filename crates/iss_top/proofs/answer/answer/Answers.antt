use Rattle.std.proofs.lemmas.Result.{IfOk-weaker}
use Rattle.iss_top.proofs.ReplyLemmas.{read_tells, fault_tells}
use Rattle.iss_top.proofs.answer.answer.Goals as goal

pub returns-in-Ok : goal.returns-in-Ok
returns-in-Ok c =
    IfOk-weaker c.decide.result _ _
    (λ next tells. read_tells c.args.core.state next.state c.args.line.now c.in-Ok.said c.decide.new.texts c.in-Ok.ensures.read tells)
    c.decide.ensures

pub returns-in_ok-put_form-in-Err-Form : goal.returns-in_ok-put_form-in-Err-Form
returns-in_ok-put_form-in-Err-Form c =
    let read = rw c.in-Err-Form.field-0-is at c.in-Err-Form.ensures.read in
    let put = rw c.in-Err-Form.field-0-is at c.in_ok-put_form-in-Err-Form.ensures in
    fault_tells c.args.core.state c.args.line.now c.in-Err-Form.fault c.args.texts.now c.put_form.new.self read c.requires.empty put
