-- Notices give back at most their amounts.
use Rattle.std.proofs.Common.{refl}
use Rattle.iss_noticed.proofs.GivenBack.{legal_within, within_after}
use Rattle.iss_noticed.proofs.given_back.notices_give_back_within.Goals as goal

pub returns-clause-begins : goal.returns-clause-begins
returns-clause-begins c = refl

pub returns-clause-steps : goal.returns-clause-steps
returns-clause-steps c = within_after

pub returns-clause-records : goal.returns-clause-records
returns-clause-records c = legal_within
