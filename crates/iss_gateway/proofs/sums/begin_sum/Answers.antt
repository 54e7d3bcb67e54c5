use Rattle.std.proofs.Common.{sym, ◌∙◌}
use Rattle.iss_gateway.proofs.Trees.{begun_sums, sums_stay}
use Rattle.iss_gateway.proofs.sums.begin_sum.Goals as goal

pub returns-in_ok-insert-clause-same : goal.returns-in_ok-insert-clause-same
returns-in_ok-insert-clause-same c =
    begun_sums c.args.sums.now c.insert.new.self c.args.key (sym c.contains_key.ensures ∙ c.if-not-contains_key.true) c.in_ok-insert.ensures.updates

pub returns-in_ok-insert-clause-stay : goal.returns-in_ok-insert-clause-stay
returns-in_ok-insert-clause-stay c = sums_stay c.args.sums.now c.insert.new.self c.args.key _ c.in_ok-insert.ensures.updates
