use Rattle.iss_session.proofs.StillSteps.{stretch_goes_on, last_goes_on}
use Rattle.iss_session.proofs.laws.sessions_are_good_stretches.Goals as goal

pub returns-clause-steps : goal.returns-clause-steps
returns-clause-steps g c = stretch_goes_on g.S.Showing.starts g.S.Showing.stands

pub returns-clause-last : goal.returns-clause-last
returns-clause-last g c = last_goes_on g.S.Showing.starts g.S.Showing.stands
