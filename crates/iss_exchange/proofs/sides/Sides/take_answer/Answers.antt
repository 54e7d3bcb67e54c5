use Rattle.std.proofs.Common.{sym, ◌∙◌}
use Rattle.iss_exchange.proofs.Becoming.{answer_input, becomes_same_if, no_input}
use Rattle.iss_exchange.proofs.sides.Sides.take_answer.Goals as goal

pub returns-in-Some : goal.returns-in-Some
returns-in-Some c =
    becomes_same_if c.args.self c.take.result _ _ (answer_input c.args.self c.args.at _ c.in-Some.input (sym c.input_given.ensures ∙ c.in-Some.is)) c.take.ensures

pub returns-in-None : goal.returns-in-None
returns-in-None c = no_input c.args.self c.args.at _ (sym c.input_given.ensures ∙ c.in-None.is) c.requires.standing
