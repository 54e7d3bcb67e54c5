-- What catching up with a device did, whatever it ended with. They go by the counts of faults and by what is told, before and after.
use Rattle.std.specs.Prelude.{◌≡◌, ◌⊎◌, ◌≤◌, ℕ, List, [], ◌++◌, length, take, drop, Option, Result, Ok, Err}
use Rattle.iss_edge.specs.declared.status.TheConstants.{DONE, DISK_FAULT}
use Rattle.iss_edge.specs.World.{World, Told, Faults}
use Rattle.iss_halves.specs.Forms.{Form, Seat}
use Rattle.iss_model.specs.declared.input.Record.{Record}
use Rattle.iss_standing.specs.Standing.{image_after, DeviceStandsFor}
use Rattle.iss_standing.specs.Goings.{channel_steps, AreFirstOf}
use Rattle.iss_standing.specs.Rooms.{room_in}
use Rattle.iss_opening.specs.Opening.{ReadsAlone}
use Rattle.iss_device.specs.Refusals.{OnDeviceAlone}
use Rattle.iss_follow_runs.specs.declared.status.TheConstants.{NO_ROOM, NOT_BEHIND}
use Rattle.iss_follow_runs.specs.declared.stop.Stop.{Stop}
use Rattle.iss_follow_runs.specs.declared.stop.Stop.TheVariants.{Device, Output, Disk, Memory, NoRoom, NotBehind}
use Rattle.iss_follow_runs.specs.Statuses.{exit_status}
use Rattle.iss_follow_runs.specs.Moments.{MomentsOf, KeepsMoments, KeepsRecords, EndsWith, EndsKept}
use Rattle.iss_follow_runs.specs.Causes.{IsCaused, BothTold}
use Rattle.iss_follow_runs.specs.Refusals.{RefusesEither}
use Rattle.iss_follow_catch.specs.Rooms.{FitsAll, FitsUpTo}
use Rattle.iss_follow_catch.specs.Writing.{Wrote, WrotePart}

-- The second device, of this form and with these other records, is behind the first. Both have the same instance. The second has no more records
-- than the first, and no fewer than are in the image of the first one's current half alone. And what stands on it has the image of the first one's
-- first records, as many.
pub record IsBehind (form : Form) (seat : Seat) (rs : List Record) (other : Form) (others : List Record) : Type 0 where
  pub instance : form.instance ≡ other.instance
  pub low : seat.point ≤ length others
  pub high : length others ≤ length rs
  pub image : image_after others ≡ image_after (take (length others) rs)

-- the records of the first device that the second has none of yet
abbrev pub missing : List Record → List Record → List Record
missing rs others = drop (length others) rs

-- what the second device has once it has caught up: if its records are the first ones of those, just those
abbrev pub caught_up : List Record → List Record → List Record
caught_up rs others = others ++ missing rs others

-- it does, if its records are the first ones
abbrev pub CaughtUpIsAll : Type 0
CaughtUpIsAll = (rs others : List Record) → AreFirstOf others rs → caught_up rs others ≡ rs

-- each moment of the second device, if some first ones of what is to stand in the end stand there, at least those that stood
pub record MomentsUpTo (other : Form) (others all : List Record) (c d : World) : Type 0 where
  pub made : List Record
  pub first : AreFirstOf made all
  pub moments : MomentsOf other others made c d

-- all records that were missing fit, and the device ended with all: what was written is just the puts of those
pub record CaughtUp (other : Form) (seat : Seat) (others records : List Record) (c d : World) : Type 0 where
  pub fit : FitsAll (room_in other seat) others records
  pub ends : EndsWith other others (others ++ records) c d
  pub wrote : Wrote other seat others records c d

-- the first of the records that were missing fit, and the device ended with those, by just their puts; the next one doesn't fit
pub record CaughtUpTo (other : Form) (seat : Seat) (others records : List Record) (c d : World) : Type 0 where
  pub up_to : FitsUpTo (room_in other seat) others records
  pub ends : EndsWith other others (others ++ up_to.first) c d
  pub wrote : Wrote other seat others up_to.first c d

-- What catching up with this status did on the second device, by the records for which both stand.
pub record CatchOn (status : ℕ) (form : Form) (seat : Seat) (rs : List Record) (other : Form) (other_seat : Seat) (others : List Record) (c d : World) : Type 0 where
  -- the status is 10 exactly if the second isn't behind the first; then nothing is committed, nor written after the opening
  pub behind : (status ≡ DONE) ⊎ (status ≡ NO_ROOM) → IsBehind form seat rs other others
  pub not_behind : status ≡ NOT_BEHIND
      → (IsBehind form seat rs other others → ⊥) × (EndsWith other others others c d × Wrote other other_seat others [] c d)
  -- at 0 all records fitted, and the device stands for them too
  pub whole : status ≡ DONE → CaughtUp other other_seat others (missing rs others) c d
  -- the status is 9 exactly if one doesn't fit; then those before it are committed
  pub full : status ≡ NO_ROOM → CaughtUpTo other other_seat others (missing rs others) c d
  -- at each moment a stop leaves its records and some first ones of those that were missing
  pub moments : MomentsUpTo other others (caught_up rs others) c d
  -- at any status what is written after the opening is the puts of the records that were missing, in order, or a first part of them
  pub wrote : WrotePart other other_seat others (missing rs others) c d

-- whichever records both stand for, if any
abbrev pub CatchRun : ℕ → World → World → World → World → Type 0
CatchRun status a b c d =
    (form : Form) (seat : Seat) (rs : List Record) → DeviceStandsFor form seat rs a.device
    → (other : Form) (other_seat : Seat) (others : List Record) → DeviceStandsFor other other_seat others c.device
    → CatchOn status form seat rs other other_seat others c d

-- Whatever the first device stands for: at each moment a stop leaves the second one's records, and maybe more. Nothing goes out of it, and what
-- is written after the opening is the puts of those more, or a first part of them.
abbrev pub KeepsFirst : World → World → Type 0
KeepsFirst c d =
    (form : Form) (seat : Seat) (rs : List Record) → DeviceStandsFor form seat rs c.device
    → (made : List Record) × ((moments : MomentsOf form rs made c d) × ((channel_steps moments.later ≡ []) × WrotePart form seat rs moments.more.later c d))

-- the run ended where the next one begins, with the second one's records and these later ones, by just the puts of those
pub record EndsLater (form : Form) (seat : Seat) (rs : List Record) (c d : World) : Type 0 where
  pub later : List Record
  pub ends : EndsWith form rs (rs ++ later) c d
  pub wrote : Wrote form seat rs later c d

-- nothing was done on it but maybe a sync, or the run ended where the next one begins, with the second one's records, and maybe more
abbrev pub EndsFirst : World → World → Type 0
EndsFirst c d =
    (form : Form) (seat : Seat) (rs : List Record) → DeviceStandsFor form seat rs c.device → ReadsAlone c d ⊎ EndsLater form seat rs c d

-- catching up doesn't end so
abbrev pub EndsAsCatch : {A : Type 0} → Result A Stop → Type 0
EndsAsCatch (Ok done) = Unit {0}
EndsAsCatch (Err Device) = Unit {0}
EndsAsCatch (Err Disk) = Unit {0}
EndsAsCatch (Err Memory) = Unit {0}
EndsAsCatch (Err NoRoom) = Unit {0}
EndsAsCatch (Err NotBehind) = Unit {0}
EndsAsCatch (Err Output) = ⊥

-- What catching up did that ended with this: the first outside told x and then y, and the second z and then w.
pub record CatchDone {A : Type 0} (before now other_before other_now : Faults) (x y z w : Option World) (result : Result A Stop) : Type 0 where
  -- it is one of the ends of catching up, and if it blames an outside, that is at fault
  pub kind : EndsAsCatch result
  pub caused : IsCaused before now other_before other_now result
  -- the status is 4 only if no store can be opened on one of the devices
  pub refused : BothTold (RefusesEither (exit_status result)) x y z w
  -- at each moment a stop leaves what stood on the first device, and at 0 it stands there
  pub moments : Told KeepsMoments x y
  pub records : exit_status result ≡ DONE → Told KeepsRecords x y
  -- at each moment a stop leaves what stood on the second device, and maybe more, by puts of just that
  pub kept : Told KeepsFirst z w
  -- Nothing goes out of the first one. Unless a call on a device failed, the runs on both ended where the next ones begin, or did nothing but
  -- maybe a sync.
  pub quiet : Told OnDeviceAlone x y
  pub ended : (exit_status result ≡ DISK_FAULT → ⊥) → Told EndsKept x y
  pub other_ended : (exit_status result ≡ DISK_FAULT → ⊥) → Told EndsFirst z w
  -- what was committed, by what stands on both
  pub caught : BothTold (CatchRun (exit_status result)) x y z w

-- the same by what two outsides count and tell
abbrev pub CatchDoneOn : {A F T : Type 0} → (F → Faults) → (T → Faults) → (F → Option World) → (T → Option World) → F → F → T → T → Result A Stop → Type 0
CatchDoneOn faults other_faults told other_told from from' to to' result =
    CatchDone (faults from) (faults from') (other_faults to) (other_faults to') (told from) (told from') (other_told to) (other_told to') result
