-- What comparing two devices did, whatever it ended with. They go by the counts of faults and by what is told, before and after.
use Rattle.std.specs.Prelude.{◌≡◌, ◌↔◌, ℕ, Bool, true, List, [], ◌∷◌, ◌++◌, length, Option, Result, Ok, Err}
use Rattle.iss_edge.specs.declared.outside.Action.{Action}
use Rattle.iss_edge.specs.declared.outside.Action.TheVariants.{Emit}
use Rattle.iss_edge.specs.declared.status.TheConstants.{DONE, OUTPUT_FAULT, DISK_FAULT}
use Rattle.iss_edge.specs.World.{World, Told, Faults}
use Rattle.iss_halves.specs.Forms.{Form, Seat}
use Rattle.iss_model.specs.declared.input.Record.{Record}
use Rattle.iss_core.specs.Values.{CoreNow}
use Rattle.iss_standing.specs.Standing.{image_after, DeviceStandsFor}
use Rattle.iss_opening.specs.Values.{StoreNow}
use Rattle.iss_opening.specs.Opening.{AreOnDevice, SyncsFirst, OpensStore}
use Rattle.iss_device.specs.Refusals.{OnDeviceAlone}
use Rattle.iss_follow_runs.specs.declared.stop.Stop.{Stop}
use Rattle.iss_follow_runs.specs.declared.stop.Stop.TheVariants.{Device, Output, Disk, Memory, NoRoom, NotBehind}
use Rattle.iss_follow_runs.specs.Statuses.{exit_status}
use Rattle.iss_follow_runs.specs.Moments.{KeepsMoments, TellsMoments, KeepsRecords, EndsKept}
use Rattle.iss_follow_runs.specs.Sendings.{SendsPart}
use Rattle.iss_follow_runs.specs.Causes.{IsCaused, BothTold}
use Rattle.iss_follow_runs.specs.Refusals.{RefusesEither}
use Rattle.iss_follow_runs.specs.Holdings.{image_of}
use Rattle.iss_follow_same.specs.Lines.{same_line}

-- two cores have the same instance, and the same image of what they keep
abbrev pub AreSame : CoreNow → CoreNow → Type 0
AreSame c d = (c.instance ≡ d.instance) × (image_of c ≡ image_of d)

-- After an opening, which is at most a sync and then one put of a byte of 0, the line went out on channel 0 by one emit, and no more was done.
pub record SendsLine (records : ℕ) (same : Bool) (a b : World) : Type 0 where
  pub opening : List Action
  pub on_device : AreOnDevice opening
  pub opening_is : SyncsFirst opening
  pub grew : b.trace ≡ a.trace ++ (opening ++ Emit (record { 0 = 0 }) (same_line records same) true ∷ [])

-- the line tells how many records the first device has, and whether what stands on both is the same
pub record TellsSame (a b c d : World) : Type 0 where
  pub first : StoreNow
  pub second : StoreNow
  pub opens_first : OpensStore first a.device
  pub opens_second : OpensStore second c.device
  pub same : Bool
  pub exactly : (same ≡ true) ↔ AreSame first.core second.core
  pub out : SendsLine first.core.state.count same a b

-- the same line, of which a first part went out, or nothing
pub record TellsPart (a b c d : World) : Type 0 where
  pub first : StoreNow
  pub second : StoreNow
  pub opens_first : OpensStore first a.device
  pub opens_second : OpensStore second c.device
  pub same : Bool
  pub exactly : (same ≡ true) ↔ AreSame first.core second.core
  pub out : SendsPart (same_line first.core.state.count same) a b

-- the same by the records for which the devices stand, each of its form
pub record TellsSameFor (form other : Form) (rs others : List Record) (a b : World) : Type 0 where
  pub same : Bool
  pub exactly : (same ≡ true) ↔ ((form.instance ≡ other.instance) × (image_after rs ≡ image_after others))
  pub out : SendsLine (length rs) same a b

-- what a run with this status told
pub record Compared (status : ℕ) (a b c d : World) : Type 0 where
  pub told : status ≡ DONE → TellsSame a b c d
  pub part : status ≡ OUTPUT_FAULT → TellsPart a b c d
  pub told_for : (form : Form) (seat : Seat) (rs : List Record) → DeviceStandsFor form seat rs a.device
      → (other : Form) (other_seat : Seat) (others : List Record) → DeviceStandsFor other other_seat others c.device
      → status ≡ DONE → TellsSameFor form other rs others a b

-- comparing doesn't end so
abbrev pub EndsAsSame : {A : Type 0} → Result A Stop → Type 0
EndsAsSame (Ok done) = Unit {0}
EndsAsSame (Err Device) = Unit {0}
EndsAsSame (Err Output) = Unit {0}
EndsAsSame (Err Disk) = Unit {0}
EndsAsSame (Err Memory) = Unit {0}
EndsAsSame (Err NoRoom) = ⊥
EndsAsSame (Err NotBehind) = ⊥

-- What comparing did that ended with this: the first outside told x and then y, and the second z and then w.
pub record SameDone {A : Type 0} (before now other_before other_now : Faults) (x y z w : Option World) (result : Result A Stop) : Type 0 where
  -- it is one of the ends of comparing, and if it blames an outside, that is at fault
  pub kind : EndsAsSame result
  pub caused : IsCaused before now other_before other_now result
  -- the status is 4 only if no store can be opened on one of the devices
  pub refused : BothTold (RefusesEither (exit_status result)) x y z w
  -- at 0 the line went out, and at 5 a first part of it, or nothing
  pub compared : BothTold (Compared (exit_status result)) x y z w
  -- at another status, and on the second device, nothing goes out
  pub quiet : (exit_status result ≡ DONE → ⊥) → (exit_status result ≡ OUTPUT_FAULT → ⊥) → Told OnDeviceAlone x y
  pub other_quiet : Told OnDeviceAlone z w
  -- at each moment a stop leaves what stood on each device, and at 0 it stands there
  pub moments : Told TellsMoments x y
  pub other_moments : Told KeepsMoments z w
  pub records : exit_status result ≡ DONE → Told KeepsRecords x y
  pub other_records : exit_status result ≡ DONE → Told KeepsRecords z w
  -- unless a call on a device failed, both runs ended where the next ones begin, or did nothing but maybe a sync
  pub ended : (exit_status result ≡ DISK_FAULT → ⊥) → Told EndsKept x y
  pub other_ended : (exit_status result ≡ DISK_FAULT → ⊥) → Told EndsKept z w

-- the same by what two outsides count and tell
abbrev pub SameDoneOn : {A F T : Type 0} → (F → Faults) → (T → Faults) → (F → Option World) → (T → Option World) → F → F → T → T → Result A Stop → Type 0
SameDoneOn faults other_faults told other_told from from' to to' result =
    SameDone (faults from) (faults from') (other_faults to) (other_faults to') (told from) (told from') (other_told to) (other_told to') result
