use Rattle.std.proofs.Common.{sym, ◌∙◌}
use Rattle.iss_hold.proofs.IndexCalls.{begun_same, begun_stay}
use Rattle.iss_hold.proofs.indexes.begin_sum.Goals as goal

pub returns-in_ok-insert-clause-same : goal.returns-in_ok-insert-clause-same
returns-in_ok-insert-clause-same c =
    begun_same c.args.sums.now c.insert.new.self c.args.key (sym c.contains_key.ensures ∙ c.if-not-contains_key.true) c.in_ok-insert.ensures.updates

pub returns-in_ok-insert-clause-stay : goal.returns-in_ok-insert-clause-stay
returns-in_ok-insert-clause-stay c = begun_stay c.args.sums.now c.insert.new.self c.args.key 0 c.in_ok-insert.ensures.updates
