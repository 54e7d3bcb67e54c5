use Rattle.iss_state.proofs.effects.Reach.{entries_within, entry_within}
use Rattle.iss_state.proofs.entries.entries_move_sums.Goals as goal

pub returns-clause-one : goal.returns-clause-one
returns-clause-one c = entry_within

pub returns-clause-all : goal.returns-clause-all
returns-clause-all c = entries_within
