-- Marks are of asks.
use Rattle.iss_well_formed.proofs.MarksOfAsks.{marks_of_asks}
use Rattle.iss_well_formed.proofs.events.marks_are_of_asks.Goals as goal

pub returns : goal.returns
returns c = marks_of_asks
