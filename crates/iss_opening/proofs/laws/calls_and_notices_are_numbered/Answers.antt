use Rattle.iss_opening.proofs.Images.{loaded_numbered}
use Rattle.iss_opening.proofs.Numbered.{core_numbered, step_numbered}
use Rattle.iss_opening.proofs.laws.calls_and_notices_are_numbered.Goals as goal

pub returns-clause-kept : goal.returns-clause-kept
returns-clause-kept c = step_numbered

pub returns-clause-records : goal.returns-clause-records
returns-clause-records c = core_numbered

pub returns-clause-loaded : goal.returns-clause-loaded
returns-clause-loaded c = loaded_numbered
