use Rattle.iss_core.proofs.ShownKeys.{sums_told}
use Rattle.iss_core.proofs.state.State.sums_shown.Goals as goal

pub returns : goal.returns
returns c = sums_told (λ v. v.items) c.args.self.now.sets.stood c.sums.result c.sums.ensures.sums c.sums.ensures.named
