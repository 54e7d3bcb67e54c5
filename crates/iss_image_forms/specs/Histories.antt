-- The states of histories, told over their whole books: their counters' spans, and their form.
use Rattle.std.specs.Prelude.{◌≤◌, List, length, IsTrue}
use Rattle.iss_model.specs.declared.input.Record.{Record}
use Rattle.iss_model.specs.declared.limits.TheConstants.{MOST_RECORDS}
use Rattle.iss_model.specs.rules.Histories.{IsLegal, history_of}
use Rattle.iss_states.specs.OverBook.{state_of}
use Rattle.iss_rebuilt.specs.Sums.{AreRecords}
use Rattle.iss_image.specs.States.{is_in_image_form}
use Rattle.iss_image_forms.specs.Spans.{are_spans_of_64_bits}

-- the numbers among the spans of a history's counters have 64 bits
abbrev pub SpansHave64Bits : Type 0
SpansHave64Bits = (rs : List Record) → IsLegal rs → AreRecords rs → IsTrue (are_spans_of_64_bits (state_of (history_of rs)).counters)

-- the state of a history of at most as many records as there may be is in image form
abbrev pub HistoriesAreInImageForm : Type 0
HistoriesAreInImageForm =
    (rs : List Record) → IsLegal rs → AreRecords rs → length rs ≤ MOST_RECORDS → IsTrue (is_in_image_form (state_of (history_of rs)))
