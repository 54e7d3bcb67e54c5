use Rattle.iss_exchange.proofs.Becoming.{answer_taken, becomes_same_if, found_there, no_answer}
use Rattle.iss_exchange.proofs.sides.Sides.reach_processor.Goals as goal

pub returns-in-Some : goal.returns-in-Some
returns-in-Some c =
    becomes_same_if c.args.self c.take_answer.result _ _
    (answer_taken c.args.self c.args.place c.args.at c.in-Some.answer
    (found_there c.args.place c.args.self.given.items _ _ _ c.deref.ensures.value c.answer_at.ensures c.in-Some.is))
    c.take_answer.ensures

pub returns-in-None : goal.returns-in-None
returns-in-None c =
    no_answer c.args.self c.args.place c.args.at
    (found_there c.args.place c.args.self.given.items _ _ _ c.deref.ensures.value c.answer_at.ensures c.in-None.is) c.requires.standing
