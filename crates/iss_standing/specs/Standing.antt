-- What a device stands for: an image of the first records, up to a point, and after it the spellings of the others.
use Rattle.std.specs.Prelude.{◌≡◌, ◌<◌, ◌≤◌, ℕ, true, List, map, take, drop, length, IsTrue}
use Rattle.std.specs.List.{list_all}
use Rattle.iss_journal.specs.declared.layout.TheConstants.{HEADER_INSTANCES, LEAST_SIZE, GREATEST_SIZE}
use Rattle.iss_journal.specs.Region.{Shows}
use Rattle.iss_halves.specs.declared.layout.TheConstants.{LEAST_HALVES_SIZE}
use Rattle.iss_halves.specs.Forms.{Form, Seat}
use Rattle.iss_halves.specs.Standing.{Saved, JournalHolds, RestsFrom, StandsFrom}
use Rattle.iss_halves.specs.Opening.{OpensFrom, OpenedFrom}
use Rattle.iss_model.specs.declared.input.Record.{Record}
use Rattle.iss_model.specs.declared.limits.TheConstants.{MOST_RECORDS}
use Rattle.iss_model.specs.texts.Spelling.{spelling, is_record}
use Rattle.iss_model.specs.rules.Histories.{IsLegal, history_of}
use Rattle.iss_states.specs.OverBook.{state_of}
use Rattle.iss_image.specs.States.{image_of_state}

-- these records are a history: each is new on those before it, at no earlier stamp, and each has a spelling
pub record AreHistory (rs : List Record) : Type 0 where
  pub legal : IsLegal rs
  pub spelled : IsTrue (list_all is_record rs)

-- the bodies of records: the spelling of each
abbrev pub bodies_of : List Record → List (List ℕ)
bodies_of rs = map spelling rs

-- the image of records: that of the state of their book
abbrev pub image_after : List Record → List ℕ
image_after rs = image_of_state (state_of (history_of rs))

-- what a device may hold of records: the image of the first ones, whichever, and the bodies of all
abbrev pub saved_of : List Record → Saved
saved_of rs = record { image = λ m. image_after (take m rs); bodies = bodies_of rs }

-- the size is one of the form, and a header can spell the instance
pub record IsForm (form : Form) : Type 0 where
  pub least : LEAST_SIZE ≤ form.size
  pub least_halves : form.halved ≡ true → LEAST_HALVES_SIZE ≤ form.size
  pub most : form.size ≤ GREATEST_SIZE
  pub small : form.instance < HEADER_INSTANCES

-- A device of this form stands for these records at this seat. They are a history, in halves of at most as many records as there may be.
-- The current half has the image of the first ones, up to the seat's point, and its journal shows the spellings of the others. One journal
-- has no image, and shows all of them.
pub record DeviceStandsFor (form : Form) (seat : Seat) (rs : List Record) (device : List ℕ) : Type 0 where
  pub form_is : IsForm form
  pub size : form.size ≡ length device
  pub history : AreHistory rs
  pub few : form.halved ≡ true → length rs ≤ MOST_RECORDS
  pub low : seat.point ≤ length rs
  pub shows : JournalHolds form seat (image_after (take seat.point rs)) (λ region. Shows region (bodies_of (drop seat.point rs)) device)

-- where a stretch of a run starts and ends: at this seat, with the first i of these records and an end gate of 0
abbrev pub RestsAt : Form → Seat → List Record → List ℕ → ℕ → Type 0
RestsAt form seat rs device i = RestsFrom form seat (saved_of rs) device i

-- what a stop may leave within a stretch: at some seat the first i of these records, with nothing or the next of them left behind
abbrev pub StandsAt : Form → List Record → List ℕ → ℕ → Type 0
StandsAt form rs device i = StandsFrom form (saved_of rs) device i

-- where an opening starts: this device, which shows the first i of these records firmly
abbrev pub OpensAt : Form → List Record → List ℕ → List ℕ → ℕ → Type 0
OpensAt form rs start device i = OpensFrom form (saved_of rs) start device i

-- what a stop may leave within an opening: the same records, with nothing left behind or what was, or also the record that was left behind
abbrev pub OpenedAt : Form → List Record → List ℕ → List ℕ → ℕ → Type 0
OpenedAt form rs start device i = OpenedFrom form (saved_of rs) start device i

-- a device stands for no more records than there may be
abbrev pub DevicesStandForFew : Type 0
DevicesStandForFew = (form : Form) (seat : Seat) (rs : List Record) (device : List ℕ) → DeviceStandsFor form seat rs device → length rs ≤ MOST_RECORDS
