-- Cores that are made again meet what holds of every core.
use Rattle.iss_well_formed.proofs.WellAgain.{well_again}
use Rattle.iss_sound.proofs.Apart.{settings_apart}
use Rattle.iss_restored.proofs.CoresAgain.{core_again}
use Rattle.iss_restored.proofs.CountedAgain.{counted_again}
use Rattle.iss_least.proofs.FormsAgain.{forms_again}
use Rattle.iss_restored.proofs.WithinAgain.{within_again}
use Rattle.iss_restored.proofs.cores.sound_states_make_cores.Goals as goal

pub returns-clause-within : goal.returns-clause-within
returns-clause-within c s h = within_again s h

pub returns-clause-wells : goal.returns-clause-wells
returns-clause-wells c s h = well_again s h.order h.pending h.own

pub returns-clause-few : goal.returns-clause-few
returns-clause-few c s h = h.committed

pub returns-clause-counted : goal.returns-clause-counted
returns-clause-counted c s h = counted_again s h.names

pub returns-clause-forms : goal.returns-clause-forms
returns-clause-forms c s h = forms_again s h.order h.verdicts.parts h.least

pub returns-clause-cores : goal.returns-clause-cores
returns-clause-cores c = core_again

pub returns-clause-sound : goal.returns-clause-sound
returns-clause-sound c s h = core_again s ((settings_apart s).0 h).0
