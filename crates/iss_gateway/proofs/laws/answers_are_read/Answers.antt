use Rattle.iss_gateway.proofs.Told.{told_as_given}
use Rattle.iss_gateway.proofs.laws.answers_are_read.Goals as goal

pub returns : goal.returns
returns c = told_as_given
