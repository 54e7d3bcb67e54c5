use Rattle.iss_core.proofs.ShownKeys.{balances_told}
use Rattle.iss_core.proofs.state.State.balances_shown.Goals as goal

pub returns : goal.returns
returns c = balances_told (λ v. v.items) c.args.self.now.chain.balances c.balances.result c.balances.ensures.balances c.balances.ensures.named
