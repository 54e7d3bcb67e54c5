use Rattle.iss_core.proofs.ShownParts.{AreEntering}
use Rattle.iss_core.proofs.state.State.origins.Given as goal

abbrev pub invariant-loop-carried : goal.invariant-loop-carried
invariant-loop-carried l = AreEntering l.self.chain.holdings.txns l.txns l.carried-iterator.iter.rest.now l.origins
