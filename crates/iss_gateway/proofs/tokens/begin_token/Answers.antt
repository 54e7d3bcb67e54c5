use Rattle.std.proofs.Common.{sym, ◌∙◌}
use Rattle.iss_gateway.proofs.Trees.{begun_tokens}
use Rattle.iss_gateway.proofs.tokens.begin_token.Goals as goal

pub returns-in_ok-insert-clause-same : goal.returns-in_ok-insert-clause-same
returns-in_ok-insert-clause-same c =
    begun_tokens c.args.tokens.now c.insert.new.self c.args.token.now (sym c.contains_key.ensures ∙ c.if-not-contains_key.true) c.in_ok-insert.ensures.updates
