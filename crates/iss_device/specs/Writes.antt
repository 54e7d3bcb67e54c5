-- What a run writes to its device after it was opened.
use Rattle.std.specs.Prelude.{◌≡◌, ℕ, List}
use Rattle.iss_edge.specs.declared.outside.Action.{Action}
use Rattle.iss_edge.specs.declared.status.TheConstants.{DISK_FAULT}
use Rattle.iss_halves.specs.Forms.{Form, Seat}
use Rattle.iss_model.specs.declared.input.Record.{Record}
use Rattle.iss_standing.specs.Writes.{WritesRecords, WritesRecordsPart}

-- What a run with this status did on its device after the opening, if it made these records after those that stood: the puts of each of
-- them, one record after the other, and no more. If a call on the device failed, it is a first part of that.
pub record WroteAt (status : ℕ) (form : Form) (seat : Seat) (rs made : List Record) (later : List Action) : Type 0 where
  pub whole : (status ≡ DISK_FAULT → ⊥) → WritesRecords form seat rs made later
  pub part : WritesRecordsPart form seat rs made later
