-- What a store stands for.
use Rattle.std.specs.Prelude.{◌≡◌, ◌≤◌, List, length}
use Rattle.iss_halves.specs.Standing.{EndsHere}
use Rattle.iss_halves.specs.Forms.{Form, Seat}
use Rattle.iss_model.specs.declared.input.Record.{Record}
use Rattle.iss_core.specs.Values.{CoreStandsFor}
use Rattle.iss_standing.specs.Standing.{AreHistory, saved_of}
use Rattle.iss_standing.specs.Rooms.{room_in}
use Rattle.iss_opening.specs.Values.{StoreNow, form_under, seat_under}

-- A store stands for these records. They are a history, its core's state is like the one that they make, and at its seat they end at its
-- gate.
pub record StandsFor (s : StoreNow) (rs : List Record) : Type 0 where
  pub history : AreHistory rs
  pub core : CoreStandsFor s.core rs
  pub low : s.point ≤ length rs
  pub ends : EndsHere (form_under s) (seat_under s) (saved_of rs) (length rs) s.place

-- the store is on a device of this form, with the room of this seat, and stands for these records
pub record IsOpenedOn (form : Form) (seat : Seat) (rs : List Record) (s : StoreNow) : Type 0 where
  pub form_is : form_under s ≡ form
  pub room_is : room_in (form_under s) (seat_under s) ≡ room_in form seat
  pub stands : StandsFor s rs
