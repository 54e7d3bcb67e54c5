use Rattle.iss_gateway.proofs.Trees.{voided_tokens}
use Rattle.iss_gateway.proofs.tokens.void_one.Goals as goal

pub returns : goal.returns
returns c = voided_tokens c.args.tokens.now c.set_known.new.tokens c.args.token.now c.known_of.result c.known_of.ensures c.set_known.ensures
