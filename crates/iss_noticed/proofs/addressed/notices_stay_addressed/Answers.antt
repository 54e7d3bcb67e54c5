-- Notices stay addressed.
use Rattle.std.proofs.Common.{refl}
use Rattle.iss_noticed.proofs.AddressedSteps.{addressed_after, legal_addressed}
use Rattle.iss_noticed.proofs.addressed.notices_stay_addressed.Goals as goal

pub returns-clause-begins : goal.returns-clause-begins
returns-clause-begins c = record { txns = refl; calls = refl }

pub returns-clause-steps : goal.returns-clause-steps
returns-clause-steps c = addressed_after

pub returns-clause-records : goal.returns-clause-records
returns-clause-records c = legal_addressed
