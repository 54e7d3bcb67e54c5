-- What copying a device to another did, whatever it ended with. They go by the counts of faults and by what is told, before and after.
use Rattle.std.specs.Prelude.{◌≡◌, ℕ, ◌+◌, ◌<◌, ◌≤◌, List, length, Option, Result, Ok, Err}
use Rattle.iss_edge.specs.declared.status.TheConstants.{DONE, BAD_DEVICE, DISK_FAULT}
use Rattle.iss_edge.specs.World.{World, Told, Faults}
use Rattle.iss_halves.specs.declared.layout.TheConstants.{BESIDE_IMAGE}
use Rattle.iss_halves.specs.Forms.{Form, Seat}
use Rattle.iss_halves.specs.Halves.{half_size}
use Rattle.iss_model.specs.declared.input.Record.{Record}
use Rattle.iss_standing.specs.Standing.{image_after, DeviceStandsFor}
use Rattle.iss_device.specs.Refusals.{OnDeviceAlone, RefusesExactly}
use Rattle.iss_follow_runs.specs.declared.status.TheConstants.{NO_ROOM}
use Rattle.iss_follow_runs.specs.declared.stop.Stop.{Stop}
use Rattle.iss_follow_runs.specs.declared.stop.Stop.TheVariants.{Device, Output, Disk, Memory, NoRoom, NotBehind}
use Rattle.iss_follow_runs.specs.Statuses.{exit_status}
use Rattle.iss_follow_runs.specs.Moments.{KeepsMoments, KeepsRecords, EndsKept}
use Rattle.iss_follow_runs.specs.Causes.{IsCaused, BothTold}
use Rattle.iss_follow_copy.specs.Copies.{CopiesGood, CopyMade, MakesPart, MakesAll, HasNoRoom, HasRoom}

-- Whether the image had room: exactly as the status says, and the same by the records for which the first device stands.
pub record RoomExactly (size status : ℕ) (a b : World) : Type 0 where
  pub none : status ≡ NO_ROOM → HasNoRoom size a.device
  pub some : status ≡ DONE → HasRoom size a.device
  pub none_for : (form : Form) (seat : Seat) (rs : List Record) → DeviceStandsFor form seat rs a.device
      → status ≡ NO_ROOM → half_size size < BESIDE_IMAGE + length (image_after rs)
  pub some_for : (form : Form) (seat : Seat) (rs : List Record) → DeviceStandsFor form seat rs a.device
      → status ≡ DONE → BESIDE_IMAGE + length (image_after rs) ≤ half_size size

-- What was done on the second device if the first, of this form, stood for these records. At 0 it is a copy.
pub record CopyOn (status : ℕ) (form : Form) (rs : List Record) (c d : World) : Type 0 where
  pub moments : CopiesGood form.instance rs c d
  pub made : status ≡ DONE → CopyMade form.instance rs c d

-- whichever records the first device stood for, if any
abbrev pub CopyRun : ℕ → World → World → World → World → Type 0
CopyRun status a b c d = (form : Form) (seat : Seat) (rs : List Record) → DeviceStandsFor form seat rs a.device → CopyOn status form rs c d

-- what was done on the second device, even if the first stood for no records
abbrev pub MakesSecond : World → World → World → World → Type 0
MakesSecond a b c d = MakesPart c d

-- copying doesn't end so
abbrev pub EndsAsCopy : {A : Type 0} → Result A Stop → Type 0
EndsAsCopy (Ok done) = Unit {0}
EndsAsCopy (Err Device) = Unit {0}
EndsAsCopy (Err Disk) = Unit {0}
EndsAsCopy (Err Memory) = Unit {0}
EndsAsCopy (Err NoRoom) = Unit {0}
EndsAsCopy (Err Output) = ⊥
EndsAsCopy (Err NotBehind) = ⊥

-- What copying to a device of this size did that ended with this: the first outside told x and then y, and the second, whose device has
-- this length, z and then w.
pub record CopyDone {A : Type 0} (size extent : ℕ) (before now other_before other_now : Faults) (x y z w : Option World) (result : Result A Stop) : Type 0 where
  -- it is one of the ends of copying, and if it blames an outside, that is at fault
  pub kind : EndsAsCopy result
  pub caused : IsCaused before now other_before other_now result
  -- the status is 4 if the second device has another size
  pub other_size : (extent ≡ size → ⊥) → exit_status result ≡ BAD_DEVICE
  -- else it is 4 only if no store can be opened on the first device
  pub refused : extent ≡ size → Told (RefusesExactly (exit_status result)) x y
  -- the status is 9 exactly if the image has no room
  pub room : Told (RoomExactly size (exit_status result)) x y
  -- at each moment a stop leaves what stood on the first device, and at 0 it stands there
  pub moments : Told KeepsMoments x y
  pub records : exit_status result ≡ DONE → Told KeepsRecords x y
  -- Nothing goes out of the first one. Unless a call on a device failed, its run ended where the next one begins, or did nothing but maybe a sync.
  pub quiet : Told OnDeviceAlone x y
  pub ended : (exit_status result ≡ DISK_FAULT → ⊥) → Told EndsKept x y
  -- at each moment a stop leaves the second device as it was but for its first byte, or without a header, or a copy
  pub copied : BothTold (CopyRun (exit_status result)) x y z w
  -- nothing goes out of the second device, nor is anything done on it but to make it a copy
  pub other_part : BothTold MakesSecond x y z w
  -- at 0 all of that was done
  pub other_whole : exit_status result ≡ DONE → BothTold MakesAll x y z w

-- the same by what two outsides count and tell
abbrev pub CopyDoneOn : {A F T : Type 0} → ℕ → (T → ℕ) → (F → Faults) → (T → Faults) → (F → Option World) → (T → Option World) → F → F → T → T → Result A Stop → Type 0
CopyDoneOn size extent faults other_faults told other_told from from' to to' result =
    CopyDone size (extent to) (faults from) (faults from') (other_faults to) (other_faults to') (told from) (told from') (other_told to) (other_told to') result

-- if it ended so that nothing is written on the second device
abbrev pub WhereUnwritten : {A : Type 0} → Result A Stop → Type 0 → Type 0
WhereUnwritten (Ok done) P = Unit {0}
WhereUnwritten (Err Disk) P = Unit {0}
WhereUnwritten (Err Device) P = P
WhereUnwritten (Err Memory) P = P
WhereUnwritten (Err NoRoom) P = P
WhereUnwritten (Err Output) P = P
WhereUnwritten (Err NotBehind) P = P
