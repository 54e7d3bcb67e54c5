use Rattle.iss_state.proofs.invariants.FormStates.{approved_small, decided_small, funded_small}
use Rattle.iss_state.proofs.forms.parts_are_small.Goals as goal

pub returns-clause-funded : goal.returns-clause-funded
returns-clause-funded c = funded_small

pub returns-clause-approved : goal.returns-clause-approved
returns-clause-approved c = approved_small

pub returns-clause-entered : goal.returns-clause-entered
returns-clause-entered c = decided_small
