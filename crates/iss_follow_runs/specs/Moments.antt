-- What a stop leaves of one device at each moment of a run, and where the run ends.
use Rattle.std.specs.Prelude.{◌≡◌, ◌⊎◌, ℕ, true, List, [], ◌∷◌, ◌++◌, length}
use Rattle.iss_edge.specs.declared.outside.Action.{Action}
use Rattle.iss_edge.specs.World.{World}
use Rattle.iss_edge.specs.Stretches.{Step, actions_of, is_still}
use Rattle.iss_halves.specs.Forms.{Form, Seat}
use Rattle.iss_model.specs.declared.input.Record.{Record}
use Rattle.iss_standing.specs.Standing.{AreHistory, DeviceStandsFor}
use Rattle.iss_standing.specs.Goings.{AreFirstOf}
use Rattle.iss_opening.specs.Opening.{AreOnDevice, SyncsFirst, WritesEndGate, ReadsAlone}
use Rattle.iss_device.specs.Moments.{EachMoment, EachMomentUnsynced, EachStopStands, EndsAtRest}

-- Every moment of a run that opens a device which stands for these records, if the first of those that were made stand in the end. The
-- opening writes to the device and syncs it, and no more. The records that were made begin with those that stood, and are a history.
pub record MomentsOf (form : Form) (rs made : List Record) (a b : World) : Type 0 where
  pub opening : List Step
  pub later : List Step
  pub opening_alone : AreOnDevice (actions_of opening)
  pub opening_is : SyncsFirst (actions_of opening)
  pub opening_gate : WritesEndGate form rs a.device (actions_of opening)
  pub grew : b.trace ≡ a.trace ++ actions_of (opening ++ later)
  pub more : AreFirstOf rs made
  pub history : AreHistory made
  -- the run began on a device at rest that stands firmly, or on one with unsynced writes
  pub each : EachMoment form rs made opening later a.device
  pub unsynced : EachMomentUnsynced form rs made opening later a.device
  -- the next run may begin with what a stop leaves
  pub stops : EachStopStands form rs made opening later a.device

-- whichever records the device stands for: at each moment a stop leaves just these, or also the one that was left behind at the start; and
-- nothing is done but the opening
abbrev pub KeepsMoments : World → World → Type 0
KeepsMoments a b =
    (form : Form) (seat : Seat) (rs : List Record) → DeviceStandsFor form seat rs a.device
    → (moments : MomentsOf form rs rs a b) × (moments.later ≡ [])

-- nothing, or one text at this level
abbrev pub IsLineAt : ℕ → List Step → Type 0
IsLineAt n [] = Unit {0}
IsLineAt n (step ∷ []) = (is_still step.action ≡ true) × (step.level ≡ n)
IsLineAt n (step ∷ next ∷ steps) = ⊥

-- the same, and after the opening nothing is done but that a text may go out, at the level of all records
abbrev pub TellsMoments : World → World → Type 0
TellsMoments a b =
    (form : Form) (seat : Seat) (rs : List Record) → DeviceStandsFor form seat rs a.device
    → (moments : MomentsOf form rs rs a b) × IsLineAt (length rs) moments.later

-- The run ended where the next one begins: the device stands for these records. If it began at rest, it is at rest again, with an end gate
-- of 0.
pub record EndsWith (form : Form) (rs made : List Record) (a b : World) : Type 0 where
  pub seat : Seat
  pub stands : DeviceStandsFor form seat made b.device
  pub actions : List Action
  pub grew : b.trace ≡ a.trace ++ actions
  pub ends : EndsAtRest form rs made actions a b

-- whichever records the device stands for, it stands for them in the end
abbrev pub KeepsRecords : World → World → Type 0
KeepsRecords a b = (form : Form) (seat : Seat) (rs : List Record) → DeviceStandsFor form seat rs a.device → EndsWith form rs rs a b

-- whichever records the device stands for: nothing was done but maybe a sync, or the run ended where the next one begins, with them
abbrev pub EndsKept : World → World → Type 0
EndsKept a b = (form : Form) (seat : Seat) (rs : List Record) → DeviceStandsFor form seat rs a.device → ReadsAlone a b ⊎ EndsWith form rs rs a b
