-- Sums, counters and decisions of a core that is made again.
use Rattle.std.proofs.Common.{refl}
use Rattle.iss_model.specs.state.Cores.{CoreState}
use Rattle.iss_rebuilt.specs.Sums.{HasCountsAgain}

pub counts_again : (c : CoreState) → HasCountsAgain c
counts_again c = record { time = refl; records = refl; notices = refl }
