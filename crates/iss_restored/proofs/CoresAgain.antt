-- A core that is made again from a sound state meets what holds of every core.
use Rattle.iss_model.specs.declared.state.State.{State}
use Rattle.iss_states.specs.Rebuilding.{rebuilt}
use Rattle.iss_well_formed.proofs.WellAgain.{well_again}
use Rattle.iss_sound.specs.Sound.{IsSoundButSettings}
use Rattle.iss_restored.specs.Made.{HoldsOfCore}
use Rattle.iss_restored.proofs.CountedAgain.{counted_again}
use Rattle.iss_least.proofs.FormsAgain.{forms_again}
use Rattle.iss_restored.proofs.WithinAgain.{within_again}

pub core_again : (s : State) → IsSoundButSettings s → HoldsOfCore (rebuilt s)
core_again s h =
    record {
      within = within_again s h;
      well = well_again s h.order h.pending h.own;
      forms = forms_again s h.order h.verdicts.parts h.least;
      few = h.committed;
      counted = counted_again s h.names;
    }
