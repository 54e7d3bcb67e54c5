use Rattle.iss_chain.proofs.Made.{held_so}
use Rattle.iss_chain.specs.Rows.{chain_of}
use Rattle.iss_chain.proofs.chain.Chain.hold.Goals as goal

pub returns-clause-parts : goal.returns-clause-parts
returns-clause-parts c = rw (← c.self.view_is) (held_so (chain_of c.self.inside.books) c.args.txn.now c.get.result c.get.ensures.txn c.get.ensures.parts)
