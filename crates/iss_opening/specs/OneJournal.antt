-- What is read of one journal: it has no image, so its records are a history, and the book judges them.
use Rattle.std.specs.Prelude.{◌≡◌, ℕ, false, List}
use Rattle.iss_journal.specs.Place.{Place}
use Rattle.iss_halves.specs.Forms.{Layout}
use Rattle.iss_model.specs.declared.input.Record.{Record}
use Rattle.iss_model.specs.rules.Histories.{Follows, history_of}
use Rattle.iss_core.specs.Values.{CoreNow}
use Rattle.iss_standing.specs.Standing.{AreHistory, DeviceStandsFor}
use Rattle.iss_opening.specs.Values.{StoreNow, form_under, seat_under}
use Rattle.iss_opening.specs.Standing.{StandsFor}
use Rattle.iss_opening.specs.Reading.{ReadsOn, BadHistoryAt}
use Rattle.iss_opening.specs.Opening.{OpensStore}

-- the records that are read of one journal are a history
abbrev pub OneJournalIsHistory : Type 0
OneJournalIsHistory =
    (layout : Layout) (image : List ℕ) (start : CoreNow) (rs : List Record) (place : Place) (device : List ℕ)
    → layout.halved ≡ false → ReadsOn layout image start rs place device → AreHistory rs

-- a store stands for records for which the device stands, at its form and its seat
pub record OpensHistory (s : StoreNow) (device : List ℕ) : Type 0 where
  pub rs : List Record
  pub device_stands : DeviceStandsFor (form_under s) (seat_under s) rs device
  pub stands : StandsFor s rs

-- a device of one journal that was opened stands for records, and the store for them
abbrev pub OneJournalStands : Type 0
OneJournalStands = (s : StoreNow) (device : List ℕ) → s.layout.halved ≡ false → OpensStore s device → OpensHistory s device

-- a record of one journal that isn't taken up doesn't follow on those before it, by the book
abbrev pub OneJournalBadHistory : Type 0
OneJournalBadHistory =
    (gate : ℕ) (device : List ℕ) (bad : BadHistoryAt gate device)
    → bad.after.before.layout.halved ≡ false → Follows (history_of bad.after.before.rs) bad.r → ⊥
