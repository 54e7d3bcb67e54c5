-- What a run writes to its device, as a function of the records that it makes: for each of them, in order, the puts of its own.
use Rattle.std.specs.Prelude.{◌≡◌, ℕ, ◌+◌, not, List, [], ◌∷◌, ◌++◌, length, filter, take, drop, if◌then◌else◌}
use Rattle.iss_edge.specs.declared.outside.Action.{Action}
use Rattle.iss_edge.specs.Puts.{Put, actions_of_puts, Ran}
use Rattle.iss_edge.specs.Stretches.{is_still}
use Rattle.iss_journal.specs.Region.{append_bytes}
use Rattle.iss_journal.specs.Append.{append_puts}
use Rattle.iss_halves.specs.Forms.{Form, Seat, Layout, seat_at}
use Rattle.iss_halves.specs.Standing.{first_gate}
use Rattle.iss_halves.specs.Turning.{half_bytes}
use Rattle.iss_halves.specs.Turned.{turned_puts}
use Rattle.iss_model.specs.declared.input.Record.{Record}
use Rattle.iss_model.specs.run.Rooms.{needs_of, needs_turn}
use Rattle.iss_model.specs.texts.Spelling.{spelling}
use Rattle.iss_standing.specs.Standing.{image_after}
use Rattle.iss_standing.specs.Rooms.{room_in}

-- the work on the device, among what was done
abbrev pub device_actions : List Action → List Action
device_actions actions = filter (λ action. not (is_still action)) actions

-- how a device of this form is laid out at this seat
abbrev pub layout_at : Form → Seat → Layout
layout_at form seat = record { halved = form.halved; instance = form.instance; size = form.size; second = seat.second }

-- the place of the end gate of these records
abbrev pub gate_at : Form → Seat → List Record → ℕ
gate_at form seat rs = first_gate form seat (image_after (take seat.point rs)) + needs_of (drop seat.point rs)

-- The puts of one record after those: its frame after the end gate, and then the open gate. If it needs a turn, the other half with the image of
-- all of those and the byte that names it come first.
abbrev pub record_puts : Form → Seat → List Record → Record → List Put
record_puts form seat rs r =
    if needs_turn (room_in form seat) rs r then turned_puts (layout_at form seat) (half_bytes (image_after rs)) (append_bytes (spelling r))
    else append_puts (gate_at form seat rs) (append_bytes (spelling r))

-- the seat at which one record stands after those
abbrev pub seat_then : Form → Seat → List Record → Record → Seat
seat_then form seat rs r = if needs_turn (room_in form seat) rs r then seat_at (not seat.second) (length rs) else seat

-- the puts of these later records after those, one record after the other
abbrev pub records_puts : Form → Seat → List Record → List Record → List Put
records_puts form seat rs [] = []
records_puts form seat rs (r ∷ later) = record_puts form seat rs r ++ records_puts form (seat_then form seat rs r) (rs ++ r ∷ []) later

-- the seat at which these later records stand after those
abbrev pub seat_past : Form → Seat → List Record → List Record → Seat
seat_past form seat rs [] = seat
seat_past form seat rs (r ∷ later) = seat_past form (seat_then form seat rs r) (rs ++ r ∷ []) later

-- the work on the device, among what was done, was just the puts of these later records
abbrev pub WritesRecords : Form → Seat → List Record → List Record → List Action → Type 0
WritesRecords form seat rs later actions = device_actions actions ≡ actions_of_puts (records_puts form seat rs later)

-- it was a first part of these puts, of which the last action may have failed
abbrev pub WritesRecordsPart : Form → Seat → List Record → List Record → List Action → Type 0
WritesRecordsPart form seat rs later actions = Ran (records_puts form seat rs later) (device_actions actions)
