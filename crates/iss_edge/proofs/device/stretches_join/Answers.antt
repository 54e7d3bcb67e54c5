use Rattle.iss_edge.proofs.StretchLemmas.{join, join_on}
use Rattle.iss_edge.proofs.device.stretches_join.Goals as goal

pub returns-clause-good : goal.returns-clause-good
returns-clause-good g c = join g.S.Showing.starts g.S.Showing.stands g.S.Showing.mids

pub returns-clause-goes_on : goal.returns-clause-goes_on
returns-clause-goes_on g c = join_on g.S.Showing.starts g.S.Showing.stands g.S.Showing.mids g.S.Showing.ends
