use Rattle.std.proofs.Common.{sym, ◌∙◌}
use Rattle.iss_core.specs.States.{kept_state}
use Rattle.iss_core.proofs.Judged.{judged_as, answered_event}
use Rattle.iss_core.proofs.state.State.judge.Goals as goal

pub returns-in_ok-answer-in-Some : goal.returns-in_ok-answer-in-Some
returns-in_ok-answer-in-Some c =
    judged_as c.judged.result _ _ c.judged.ensures
    (answered_event (kept_state c.args.self.now) c.args.input.now c.in-Some.field-0 c.args.at c.in_ok-answer-in-Some.answer (sym c.event.ensures ∙ c.in-Some.is) c.in_ok-answer-in-Some.ensures)
