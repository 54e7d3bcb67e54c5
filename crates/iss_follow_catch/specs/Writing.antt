-- What catching up writes on the second device, as a function of the records that it commits.
use Rattle.std.specs.Prelude.{◌≡◌, List, ◌++◌}
use Rattle.iss_edge.specs.declared.outside.Action.{Action}
use Rattle.iss_edge.specs.World.{World}
use Rattle.iss_edge.specs.Puts.{actions_of_puts, Ran}
use Rattle.iss_halves.specs.Forms.{Form, Seat}
use Rattle.iss_model.specs.declared.input.Record.{Record}
use Rattle.iss_standing.specs.Writes.{records_puts}
use Rattle.iss_opening.specs.Opening.{SyncsFirst, WritesEndGate}

-- All that was done was to open a device that stands for these records at this seat, and then just the puts of these later ones, one record
-- after the other. The opening is at most a sync, and then one put of a byte of 0 at the end gate.
pub record Wrote (form : Form) (seat : Seat) (rs later : List Record) (a b : World) : Type 0 where
  pub opening : List Action
  pub opening_is : SyncsFirst opening
  pub opening_gate : WritesEndGate form rs a.device opening
  pub grew : b.trace ≡ a.trace ++ (opening ++ actions_of_puts (records_puts form seat rs later))

-- the same, but of those puts only a first part was made, or nothing
pub record WrotePart (form : Form) (seat : Seat) (rs later : List Record) (a b : World) : Type 0 where
  pub opening : List Action
  pub opening_is : SyncsFirst opening
  pub opening_gate : WritesEndGate form rs a.device opening
  pub made : List Action
  pub ran : Ran (records_puts form seat rs later) made
  pub grew : b.trace ≡ a.trace ++ (opening ++ made)
