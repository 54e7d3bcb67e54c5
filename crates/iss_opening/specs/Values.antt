-- What a device that is opened, and a store, are seen as.
use Rattle.std.specs.Prelude.{◌≡◌, ℕ, ◌<◌, ◌≤◌, false, Option, Some}
use Rattle.iss_journal.specs.Place.{Place}
use Rattle.iss_halves.specs.Forms.{Form, Seat, Layout, form_of, seat_at, IsLayout}
use Rattle.iss_halves.specs.Standing.{end_of}
use Rattle.iss_model.specs.declared.limits.TheConstants.{MOST_RECORDS}
use Rattle.iss_model.specs.run.Rooms.{Room}
use Rattle.iss_core.specs.Values.{CoreNow}
use Rattle.iss_standing.specs.Rooms.{room_in}
use Rattle.iss_opening.specs.Numbers.{IsNumbered}

-- A store: its core, the end gate's place with the place where its journal ends, and how the device is laid out. The point is the number of
-- records in the image of the current half; one journal has no image, and its point is 0.
pub record StoreNow : Type 0 where
  pub core : CoreNow
  pub place : Place
  pub layout : Layout
  pub point : ℕ

-- the form of a store's device
abbrev pub form_under : StoreNow → Form
form_under s = form_of s.layout

-- the seat at which its records stand
abbrev pub seat_under : StoreNow → Seat
seat_under s = seat_at s.layout.second s.point

-- the room of its device
abbrev pub room_of : StoreNow → Option Room
room_of s = Some (room_in (form_under s) (seat_under s))

-- What holds of every store. Its gate is within its journal, and that ends where the layout says. Its core has the device's instance, and at
-- most as many records as there may be, of which the first ones are in the image. Its calls and notices are numbered from 1.
pub record IsStore (s : StoreNow) : Type 0 where
  pub within : s.place.gate < s.place.to
  pub to : s.place.to ≡ end_of s.layout.halved s.layout.size s.layout.second
  pub layout_is : IsLayout s.layout
  pub instance : s.core.instance ≡ s.layout.instance
  pub few : s.core.state.count ≤ MOST_RECORDS
  pub low : s.point ≤ s.core.state.count
  pub no_image : s.layout.halved ≡ false → s.point ≡ 0
  pub numbered : IsNumbered s.core.state
