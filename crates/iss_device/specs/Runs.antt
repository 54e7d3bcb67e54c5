-- What stands in a run on a device.
use Rattle.std.specs.Prelude.{List, Some}
use Rattle.iss_halves.specs.Forms.{Form, Seat}
use Rattle.iss_model.specs.declared.input.Record.{Record}
use Rattle.iss_model.specs.rules.Histories.{history_of}
use Rattle.iss_model.specs.run.Runs.{Run}
use Rattle.iss_standing.specs.Rooms.{room_in}
use Rattle.iss_opening.specs.Values.{StoreNow, room_of}

-- what stands in a run whose store stands for these records
abbrev pub run_at : StoreNow → List Record → Run
run_at s rs = record { instance = s.core.instance; room = room_of s; history = history_of rs }

-- a run on a device of this form that stands for these records at this seat
abbrev pub run_on : Form → Seat → List Record → Run
run_on form seat rs = record { instance = form.instance; room = Some (room_in form seat); history = history_of rs }
