-- What bringing an archive up to date with a device did, whatever it ended with. It goes by the counts of failures and by what is told,
-- before and after.
use Rattle.std.specs.Prelude.{◌≡◌, ◌⊎◌, ℕ, ◌≤◌, true, List, [], ◌∷◌, ◌++◌, take, length, Option, Result, Ok, Err, IsErrOf, IfSome, IsSome}
use Rattle.iss_edge.specs.declared.outside.Action.{Action}
use Rattle.iss_edge.specs.declared.outside.Action.TheVariants.{Emit}
use Rattle.iss_edge.specs.declared.status.TheConstants.{DONE, OUTPUT_FAULT, DISK_FAULT}
use Rattle.iss_edge.specs.World.{World, Told, Faults, Later, Rose}
use Rattle.iss_halves.specs.Forms.{Form, Seat}
use Rattle.iss_model.specs.declared.input.Record.{Record}
use Rattle.iss_archive.specs.declared.post.Head.{Head}
use Rattle.iss_archive.specs.declared.source.Stepped.{Stepped}
use Rattle.iss_archive.specs.declared.archiving.ArchiveFault.{ArchiveFault}
use Rattle.iss_archive.specs.declared.archiving.ArchiveFault.TheVariants as archive_fault
use Rattle.iss_archive.specs.Archived as archived
use Rattle.iss_archive.specs.Archived.{Archived, posts_in}
use Rattle.iss_archive.specs.Postings.{IsArchiveOf, postings_of}
use Rattle.iss_archive.specs.Runs.{KeepsUp, IsUpToDate, LeavesFirst}
use Rattle.iss_archive.specs.Steps.{IsCalledFor}
use Rattle.iss_standing.specs.Standing.{DeviceStandsFor}
use Rattle.iss_opening.specs.Values.{StoreNow}
use Rattle.iss_opening.specs.Opening.{AreOnDevice, SyncsFirst, OpensStore}
use Rattle.iss_device.specs.Refusals.{OnDeviceAlone, RefusesExactly}
use Rattle.iss_follow_runs.specs.Moments.{TellsMoments, KeepsRecords, EndsKept}
use Rattle.iss_follow_runs.specs.Sendings.{SendsPart}
use Rattle.iss_archive_run.specs.declared.stop.Stop.{Stop}
use Rattle.iss_archive_run.specs.declared.stop.Stop.TheVariants.{Device, Output, Disk, Memory, Gap, Strange, Keeper}
use Rattle.iss_archive_run.specs.Statuses.{exit_status}
use Rattle.iss_archive_run.specs.Lines.{archived_line}
use Rattle.iss_archive_run.specs.Made.{StepsOn}

-- No count has fallen. A fault of the disk, of output or of the keeper has its own count risen.
pub record IsCaused {A : Type 0} (before now : Faults) (kept_before kept_now : ℕ) (result : Result A Stop) : Type 0 where
  pub later : Later before now
  pub kept_later : kept_before ≤ kept_now
  pub disk : IsErrOf result Disk → Rose before.disk now.disk
  pub output : IsErrOf result Output → Rose before.output now.output
  pub keeper : IsErrOf result Keeper → archived.Rose kept_before kept_now

-- A store was opened on the device, and why the archive was or wasn't brought up to date with the records after its image there, by what was
-- held at the start and at the end.
pub record IsCalledForOn (device : List ℕ) (kept : Result (Option Head) ArchiveFault) (a b : Archived) : Type 0 where
  pub store : StoreNow
  pub steps : List Stepped
  pub there : StepsOn store steps device
  pub why : IsCalledFor store.core.instance store.point store.core.state.count steps kept a b

-- why a run ended so
abbrev pub IsDue : {A : Type 0} → Result A Stop → List ℕ → Archived → Archived → Type 0
IsDue (Ok done) device a b = (head : Option Head) × IsCalledForOn device (Ok head) a b
IsDue (Err Output) device a b = (head : Option Head) × IsCalledForOn device (Ok head) a b
IsDue (Err Gap) device a b = IsCalledForOn device (Err archive_fault.Gap) a b
IsDue (Err Strange) device a b = IsCalledForOn device (Err archive_fault.Strange) a b
IsDue (Err Device) device a b = Unit {0}
IsDue (Err Disk) device a b = Unit {0}
IsDue (Err Memory) device a b = Unit {0}
IsDue (Err Keeper) device a b = Unit {0}

-- the same by what is told of the device and of the archive
abbrev pub DueOn : {A : Type 0} → Result A Stop → Option Archived → Option Archived → World → World → Type 0
DueOn result v w a b = archived.Told (IsDue result a.device) v w

-- After an opening, which is at most a sync and then one put of a byte of 0, the line went out on channel 0 by one emit, and no more was done.
pub record SendsLine (posts records : ℕ) (a b : World) : Type 0 where
  pub opening : List Action
  pub on_device : AreOnDevice opening
  pub opening_is : SyncsFirst opening
  pub grew : b.trace ≡ a.trace ++ (opening ++ Emit (record { 0 = 0 }) (archived_line posts records) true ∷ [])

-- the line tells how many postings are held, and how many records the device has
pub record TellsArchived (w : Option Archived) (a b : World) : Type 0 where
  pub store : StoreNow
  pub opens : OpensStore store a.device
  pub posts : ℕ
  pub held : IfSome w (λ held. posts_in held.head ≡ posts)
  pub out : SendsLine posts store.core.state.count a b

-- the same line, of which a first part went out, or nothing
pub record TellsPart (w : Option Archived) (a b : World) : Type 0 where
  pub store : StoreNow
  pub opens : OpensStore store a.device
  pub posts : ℕ
  pub held : IfSome w (λ held. posts_in held.head ≡ posts)
  pub out : SendsPart (archived_line posts store.core.state.count) a b

-- the run came to its line
abbrev pub CameToLine : ℕ → Type 0
CameToLine status = (status ≡ DONE) ⊎ (status ≡ OUTPUT_FAULT)

-- What became of an archive, if the device is of this instance and stands for these records. That of the first ones stays one, of as many or
-- more, and a stop leaves such a one. It is that of all if the run came to its line, and at 0 so the line tells.
pub record ArchiveOn (status instance : ℕ) (rs : List Record) (v w : Option Archived) (left_was left_now : Archived → Type 0) (a b : World) : Type 0 where
  pub kept : KeepsUp instance rs v w
  pub stop : LeavesFirst instance rs v left_was left_now
  pub whole : CameToLine status → IsUpToDate instance rs v w
  pub line : status ≡ DONE → (k : ℕ) → k ≤ length rs → IfSome v (λ held. IsArchiveOf instance (take k rs) held) → IsSome w
      → SendsLine (length (postings_of rs)) (length rs) a b

-- whichever records the device stands for, if any
abbrev pub KeepsArchive : ℕ → Option Archived → Option Archived → (Archived → Type 0) → (Archived → Type 0) → World → World → Type 0
KeepsArchive status v w left_was left_now a b =
    (form : Form) (seat : Seat) (rs : List Record) → DeviceStandsFor form seat rs a.device → ArchiveOn status form.instance rs v w left_was left_now a b

-- What bringing an archive up to date did that ended with this: the outside told x and then y, and the keeper v and then w.
pub record KeepDone {A : Type 0} (before now : Faults) (x y : Option World) (kept_before kept_now : ℕ) (v w : Option Archived) (left_was left_now : Archived → Type 0) (result : Result A Stop) : Type 0 where
  -- if it blames the outside or the keeper, that is at fault
  pub caused : IsCaused before now kept_before kept_now result
  -- the status is 4 only if no store can be opened on the device
  pub refused : Told (RefusesExactly (exit_status result)) x y
  -- the status is 0, 5, 11 or 12 by what is on the device and what was archived
  pub due : Told (DueOn result v w) x y
  -- the archive of the first records stays one, and is that of all if the run came to its line
  pub archive : Told (KeepsArchive (exit_status result) v w left_was left_now) x y
  -- at 0 the line went out
  pub out : exit_status result ≡ DONE → Told (TellsArchived w) x y
  -- at 5 a first part of it did, or nothing, and at another status nothing
  pub part : exit_status result ≡ OUTPUT_FAULT → Told (TellsPart w) x y
  pub quiet : (CameToLine (exit_status result) → ⊥) → Told OnDeviceAlone x y
  -- at each moment a stop leaves what stood on the device, and at 0 it stands there
  pub moments : Told TellsMoments x y
  pub records : exit_status result ≡ DONE → Told KeepsRecords x y
  -- unless a call on the device failed, the run ended where the next one begins, or did nothing but maybe a sync
  pub ended : (exit_status result ≡ DISK_FAULT → ⊥) → Told EndsKept x y

-- if it ended so that nothing was done on the keeper
abbrev pub IsUntouched : {A : Type 0} → Result A Stop → Type 0 → Type 0
IsUntouched (Err Device) P = P
IsUntouched (Err Disk) P = P
IsUntouched (Ok done) P = Unit {0}
IsUntouched (Err Output) P = Unit {0}
IsUntouched (Err Memory) P = Unit {0}
IsUntouched (Err Gap) P = Unit {0}
IsUntouched (Err Strange) P = Unit {0}
IsUntouched (Err Keeper) P = Unit {0}
