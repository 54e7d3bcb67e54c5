-- What goes out of a run that writes one line.
use Rattle.std.specs.Prelude.{◌≡◌, ◌⊎◌, ℕ, List, ◌++◌}
use Rattle.iss_edge.specs.declared.outside.Action.{Action}
use Rattle.iss_edge.specs.World.{World}
use Rattle.iss_edge.specs.Calls.{SendsPrefix}
use Rattle.iss_opening.specs.Opening.{AreOnDevice, SyncsFirst}

-- After an opening, which is at most a sync and then one put of a byte of 0, nothing went out, or a first part of the line did on channel 0, by one
-- emit that failed. No more was done.
pub record SendsPart (line : List ℕ) (a b : World) : Type 0 where
  pub opening : List Action
  pub on_device : AreOnDevice opening
  pub opening_is : SyncsFirst opening
  pub how : (b.trace ≡ a.trace ++ opening) ⊎ SendsPrefix (record { 0 = 0 }) line (a.trace ++ opening) b.trace
