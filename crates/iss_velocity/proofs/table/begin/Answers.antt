use Rattle.std.proofs.Common.{sym, ◌∙◌}
use Rattle.iss_velocity.proofs.KeyOrder.{token_plain}
use Rattle.iss_velocity.proofs.Noting.{begun_same, begun_plain}
use Rattle.iss_velocity.proofs.table.begin.Goals as goal

pub returns-in_ok-insert-clause-same : goal.returns-in_ok-insert-clause-same
returns-in_ok-insert-clause-same c =
    begun_same c.args.users.now c.insert.new.self c.args.user.now c.new.result (sym c.contains_key.ensures ∙ c.if-not-contains_key.true) c.new.ensures c.in_ok-insert.ensures.updates

pub returns-in_ok-insert-clause-plain : goal.returns-in_ok-insert-clause-plain
returns-in_ok-insert-clause-plain c =
    begun_plain c.args.users.now c.insert.new.self c.args.user.now c.new.result c.requires.plain (token_plain c.args.user.now c.text-name.ensures.token) c.in_ok-insert.ensures.entries
