use Rattle.std.proofs.Common.{ap, arith}
use Rattle.iss_model.specs.state.Cores.{StandIns}
use Rattle.iss_parts_tests.proofs.Small.{once_small}
use Rattle.iss_parts_tests.proofs.listed.sums_of_one.Goals as goal

pub note-requires-clause-small : goal.note-requires-clause-small
note-requires-clause-small c = once_small _ _ _ 5 86400000 (ap (λ (s : StandIns). s.stood) c.in_ok-sets.ensures) (omega arith)
