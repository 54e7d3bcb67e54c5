use Rattle.std.proofs.Common.{◌∙◌}
use Rattle.iss_core.proofs.ShownParts.{tokens_carried}
use Rattle.iss_core.proofs.state.State.shown.Goals as goal

pub counters_shown-requires-clause-all : goal.counters_shown-requires-clause-all
counters_shown-requires-clause-all c =
    tokens_carried c.args.self.now.chain c.deref.result.now c.args.self.now.chain.holdings.txns (c.deref.ensures.value ∙ c.in_ok-txns.ensures)
