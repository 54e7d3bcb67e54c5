use Rattle.iss_chain.proofs.InCore.{after_entries_part}
use Rattle.iss_chain.proofs.laws.a_chain_is_part_of_the_core.Goals as goal

pub returns-clause-entered : goal.returns-clause-entered
returns-clause-entered c = after_entries_part
