use Rattle.std.proofs.Common.{◌-◌, arith, ◌∙◌}
use Rattle.std.proofs.lemmas.Bool.Decides.{nat_tests}
use Rattle.iss_exchange.proofs.Becoming.{got, not_first}
use Rattle.iss_exchange.proofs.moving.answer_at.Goals as goal

pub returns : goal.returns
returns c =
    c.copied.ensures ∙ got c.args.given.now (c.args.place - 1) c.get.result c.get.ensures.lookup.0 c.get.ensures.lookup.1
    ∙ not_first c.args.place c.args.given.now (grind (arith, nat_tests))
