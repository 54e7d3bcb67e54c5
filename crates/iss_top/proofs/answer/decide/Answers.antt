use Rattle.std.proofs.Common.{sym, ◌∙◌}
use Rattle.iss_top.proofs.ReplyLemmas.{answer_tells, record_tells, clock_tells}
use Rattle.iss_top.proofs.answer.decide.Goals as goal

pub returns-in_ok-put_time_taken-in-New : goal.returns-in_ok-put_time_taken-in-New
returns-in_ok-put_time_taken-in-New c =
    record_tells c.args.core.state c.args.said.now.input c.args.said.now.at c.unwrap_or-at.result c.in-New.accepted c.in_ok-next-in-New.next.state
    c.args.texts.now c.take_up.new.texts c.put_time_taken.new.texts
    c.requires.room c.unwrap_or-at.ensures (sym c.in-New.is ∙ c.in_ok-accepted.ensures.judged) c.requires.empty c.in_ok-next-in-New.ensures c.in_ok-put_time_taken-in-New.ensures

pub returns-in_ok-put_answer_left-in-Clock : goal.returns-in_ok-put_answer_left-in-Clock
returns-in_ok-put_answer_left-in-Clock c =
    clock_tells c.args.core.state c.args.said.now.input c.args.said.now.at c.unwrap_or-at.result c.in-Clock.clock c.in_ok-next-in-Clock.next.state
    c.args.texts.now c.take_up-in-Clock.new.texts c.put_answer_left.new.texts
    c.requires.room c.unwrap_or-at.ensures (sym c.in-Clock.is ∙ c.in_ok-accepted.ensures.judged) c.requires.empty c.in_ok-next-in-Clock.ensures c.in_ok-put_answer_left-in-Clock.ensures

pub returns-in_ok-put_told-in-Told : goal.returns-in_ok-put_told-in-Told
returns-in_ok-put_told-in-Told c =
    answer_tells c.args.core.state c.args.said.now.input c.args.said.now.at c.unwrap_or-at.result c.in-Told.answer c.args.texts.now c.put_told.new.self
    c.requires.room c.unwrap_or-at.ensures (sym c.in-Told.is ∙ c.in_ok-accepted.ensures.judged) c.requires.empty c.in_ok-put_told-in-Told.ensures
