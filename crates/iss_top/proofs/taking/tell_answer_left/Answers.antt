use Rattle.iss_top.proofs.ToldHears.{told_says_lines}
use Rattle.iss_top.proofs.taking.tell_answer_left.Goals as goal

pub returns-in_err-tell-in-Told-clause-heard : goal.returns-in_err-tell-in-Told-clause-heard
returns-in_err-tell-in-Told-clause-heard g c =
    told_says_lines g.E.Edge.told g.E.Edge.heard g.E.Edge.channels c.args.edge.now c.tell.new.edge _ _ _ _ (c.in_err-tell-in-Told.ensures.lines c.requires.lines) c.in_err-tell-in-Told.ensures.cause
