-- What formatting does, whatever status it ends with.
use Rattle.std.specs.Prelude.{◌≡◌, ◌⊎◌, ℕ, zero, suc, false, List, [], ◌++◌, length, drop, Option}
use Rattle.iss_edge.specs.declared.outside.Action.{Action}
use Rattle.iss_edge.specs.declared.status.TheConstants.{DONE, BAD_DEVICE}
use Rattle.iss_edge.specs.World.{World, Told, Faults, Later, Rose}
use Rattle.iss_edge.specs.Calls.{Same}
use Rattle.iss_edge.specs.Disk.{Disk, after_actions, IsAtRest, IsImage}
use Rattle.iss_edge.specs.Puts.{PutsPart, syncs_after}
use Rattle.iss_halves.specs.Forms.{Seat, in_halves, seat_at}
use Rattle.iss_halves.specs.Halves.{HalfRests}
use Rattle.iss_halves.specs.Making.{halves_puts, HasNoHeader, Makes}
use Rattle.iss_standing.specs.Standing.{DeviceStandsFor}

-- the first half, with no record in its image
abbrev pub first_seat : Seat
first_seat = seat_at false 0

-- the device is in halves, has this instance, and stands for no records in its first half, with an end gate of 0
pub record StandsForNone (instance size : ℕ) (device : List ℕ) : Type 0 where
  pub stands : DeviceStandsFor (in_halves instance size) first_seat [] device
  pub rests : HalfRests instance size false [] [] device

-- The device was formatted: its header was written and made to last, and it stands for no records. Once at rest a stop leaves just that.
pub record FormatsDevice (instance : ℕ) (a b : World) : Type 0 where
  pub makes : Makes instance [] a b
  pub stands : StandsForNone instance (length a.device) b.device

-- Until a sync has succeeded the device differs from the start at place 0 alone. From then on it has no header, or the instance, and stands
-- for no records.
abbrev pub FormatLeaves : ℕ → List ℕ → ℕ → List ℕ → Type 0
FormatLeaves instance start zero device = drop 1 device ≡ drop 1 start
FormatLeaves instance start (suc syncs) device = HasNoHeader device ⊎ StandsForNone instance (length start) device

-- these puts were made, or a prefix of their actions, and what each image of each of their moments is, begun at rest
pub record FormatsGood (instance : ℕ) (a b : World) : Type 0 where
  pub part : PutsPart (halves_puts instance []) a b
  pub each : (d : Disk) → IsAtRest d → d.bytes ≡ a.device → (before rest : List Action) → part.actions ≡ before ++ rest
      → (device : List ℕ) → IsImage (after_actions d before) device → FormatLeaves instance a.device (syncs_after 0 before) device

-- What `format` of a device with this status did, by the counts of faults and what is told before and after it.
pub record FormatRun (size instance extent status : ℕ) (before now : Faults) (x y : Option World) : Type 0 where
  -- at 4 nothing was done
  pub untouched : status ≡ BAD_DEVICE → Told Same x y
  -- at 0 the device is in halves, has the instance and stands for no records
  pub formatted : status ≡ DONE → Told (FormatsDevice instance) x y
  -- at every status, what each image of each moment is
  pub moments : Told (FormatsGood instance) x y
  -- no count has fallen, and if the size is right and the disk isn't at fault, the device is formatted
  pub later : Later before now
  pub complete : extent ≡ size → (Rose before.disk now.disk → ⊥) → status ≡ DONE

-- what a run of formatting does, by what an edge tells before it and after it
abbrev pub FormatRunOn : {E : Type 0} → (E → ℕ) → (E → Faults) → (E → Option World) → E → E → ℕ → ℕ → ℕ → Type 0
FormatRunOn extent faults told a b size instance status =
    FormatRun size instance (extent a) status (faults a) (faults b) (told a) (told b)
