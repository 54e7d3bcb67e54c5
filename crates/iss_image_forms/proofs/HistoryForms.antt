-- The state of a history is in image form.
use Rattle.std.proofs.Common.{◌≡◌, ◌≤◌, length, List, true}
use Rattle.iss_model.specs.declared.input.Record.{Record}
use Rattle.iss_model.specs.declared.limits.TheConstants.{MOST_RECORDS}
use Rattle.iss_model.specs.rules.Histories.{IsLegal, history_of}
use Rattle.iss_states.specs.OverBook.{state_of}
use Rattle.iss_rebuilt.specs.Sums.{AreRecords}
use Rattle.iss_sound.proofs.SoundSteps.{records_sound}
use Rattle.iss_image.specs.States.{is_in_image_form}
use Rattle.iss_image_forms.proofs.SpansHistories.{spans_of_history}
use Rattle.iss_image_forms.proofs.WholeForms.{whole_in_form}

pub history_in_form : (rs : List Record) → IsLegal rs → AreRecords rs → length rs ≤ MOST_RECORDS → is_in_image_form (state_of (history_of rs)) ≡ true
history_in_form rs legal form few = whole_in_form (state_of (history_of rs)) (records_sound rs legal form few) (spans_of_history rs legal form)
