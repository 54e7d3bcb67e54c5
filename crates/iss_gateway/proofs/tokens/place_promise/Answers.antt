use Rattle.iss_gateway.proofs.Trees.{placed_tokens}
use Rattle.iss_gateway.proofs.tokens.place_promise.Goals as goal

pub returns : goal.returns
returns c = placed_tokens c.args.tokens.now c.set_known.new.tokens c.args.token.now c.args.place c.known_of.result c.known_of.ensures c.set_known.ensures
