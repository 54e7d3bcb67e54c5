-- The room of a device of a form, at a seat.
use Rattle.std.specs.Prelude.{◌&&◌, false, Option, Some, None}
use Rattle.iss_halves.specs.Forms.{Form, Seat}
use Rattle.iss_model.specs.run.Rooms.{Room}
use Rattle.iss_standing.specs.Standing.{image_after}

-- the room on a device of this form, at this seat; one journal has no second half
abbrev pub room_in : Form → Seat → Room
room_in form seat =
    record { halved = form.halved; size = form.size; second = form.halved && seat.second; point = seat.point; image = image_after }

-- the seat of a room
abbrev pub seat_in : Room → Seat
seat_in room = record { second = room.second; point = room.point }

-- the seat that a run's room has; without a device it is the first one
abbrev pub seat_of : Option Room → Seat
seat_of (Some room) = seat_in room
seat_of None = record { second = false; point = 0 }
