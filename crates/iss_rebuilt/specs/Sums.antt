-- Sums, counters and decisions of a core that is made again from what is shown, as they are in the core.
use Rattle.std.specs.Prelude.{◌≡◌, ℕ, List, true}
use Rattle.std.specs.List.{list_all}
use Rattle.iss_model.specs.declared.input.Record.{Record}
use Rattle.iss_model.specs.rules.Facts.{verdict_in}
use Rattle.iss_model.specs.state.Cores.{CoreState}
use Rattle.iss_model.specs.texts.Spelling.{is_record}
use Rattle.iss_states.specs.Rebuilding.{rebuilt}
use Rattle.iss_states.specs.Showing.{shown}

-- each of these records is of a stamp and an input in form, and each of its names is a token
abbrev pub AreRecords : List Record → Type 0
AreRecords rs = list_all is_record rs ≡ true

-- A core made again from what this one shows has its time, its number of records and its notices.
pub record HasCountsAgain (c : CoreState) : Type 0 where
  pub time : (rebuilt (shown c)).now ≡ c.now
  pub records : (rebuilt (shown c)).count ≡ c.count
  pub notices : (rebuilt (shown c)).outbox ≡ c.outbox

-- it has decided each event as this one has, or not at all
abbrev pub AreDecidedAgain : CoreState → Type 0
AreDecidedAgain c = (event : List ℕ) → verdict_in (rebuilt (shown c)).decisions event ≡ verdict_in c.decisions event

-- it has the sets of this one, and what the programme stood in with
abbrev pub HasStoodAgain : CoreState → Type 0
HasStoodAgain c = (rebuilt (shown c)).stand_ins ≡ c.stand_ins

-- it has the controls of this one, each with what it has counted
abbrev pub HasControlsAgain : CoreState → Type 0
HasControlsAgain c = (rebuilt (shown c)).controls ≡ c.controls
