-- States stay well-formed.
use Rattle.std.proofs.Common.{subst}
use Rattle.iss_states.proofs.StateOfBook.{state_shown}
use Rattle.iss_well_formed.specs.WellFormed.{IsWellFormed}
use Rattle.iss_well_formed.proofs.FormedSteps.{legal_formed, formed_after}
use Rattle.iss_well_formed.proofs.well_formed.states_stay_well_formed.Goals as goal

pub returns-clause-steps : goal.returns-clause-steps
returns-clause-steps c = formed_after

pub returns-clause-records : goal.returns-clause-records
returns-clause-records c rs legal form few = subst IsWellFormed (state_shown rs) (legal_formed rs legal form few)
