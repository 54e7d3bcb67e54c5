-- Notices stay told well.
use Rattle.iss_well_formed.proofs.NoticeSteps.{told_after}
use Rattle.iss_well_formed.proofs.notices.notices_stay_told_well.Goals as goal

pub returns : goal.returns
returns c = told_after
