use Rattle.std.proofs.Common.{arith}
use Rattle.iss_model.specs.state.Cores.{core_facts}
use Rattle.iss_core.specs.States.{kept_state}
use Rattle.iss_core.proofs.NoticeAnswers.{waits, gone}
use Rattle.iss_core.proofs.state.State.notice_answer.Goals as goal

pub returns-in-Some : goal.returns-in-Some
returns-in-Some c =
    let made = c.made.ensures in
    let most = c.if-notice-made.false in
    waits (core_facts (kept_state c.args.self.now)) c.args.notice c.in-Some.field-0.now c.if-notice-eq0.false (omega (arith, made, most)) c.in-Some.ensures

pub returns-in-None : goal.returns-in-None
returns-in-None c =
    let made = c.made.ensures in
    let most = c.if-notice-made.false in
    gone (core_facts (kept_state c.args.self.now)) c.args.notice c.if-notice-eq0.false (omega (arith, made, most)) c.in-None.ensures
