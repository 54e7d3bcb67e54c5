-- Which devices are refused, and what was done then.
use Rattle.std.specs.Prelude.{◌≡◌, ◌⊎◌, ℕ, List, ◌++◌}
use Rattle.iss_edge.specs.declared.outside.Action.{Action}
use Rattle.iss_edge.specs.declared.status.TheConstants.{BAD_DEVICE, DISK_FAULT, OUT_OF_MEMORY}
use Rattle.iss_edge.specs.World.{World}
use Rattle.iss_halves.specs.Making.{HasNoHeader}
use Rattle.iss_opening.specs.declared.fault.OpenFault.{OpenFault}
use Rattle.iss_opening.specs.declared.fault.OpenFault.TheVariants.{Disk, NotFormatted, BadImage, BadRecord, BadSpelling, BadHistory, OutOfMemory}
use Rattle.iss_opening.specs.Values.{StoreNow}
use Rattle.iss_opening.specs.Reading.{BadImageIs, BadRecordAt, BadSpellingAt, BadHistoryAt}
use Rattle.iss_opening.specs.Opening.{OpensStore, AreOnDevice, SyncsFirst, ReadsAlone}

-- what is wrong with a device on which no store can be opened
abbrev pub IsNoStore : List ℕ → Type 0
IsNoStore device =
    HasNoHeader device
    ⊎ ((place : ℕ) × (BadImageIs place device ⊎ (BadRecordAt place device ⊎ (BadSpellingAt place device ⊎ BadHistoryAt place device))))

-- no byte was taken, and nothing was done but an opening of the device, or a part of one
pub record OnDeviceAlone (a b : World) : Type 0 where
  pub left : b.left ≡ a.left
  pub actions : List Action
  pub grew : b.trace ≡ a.trace ++ actions
  pub on_device : AreOnDevice actions
  pub opening : SyncsFirst actions

-- the device has an image of a sound state, or is one journal, and the records after it follow one after the other
pub record IsStoreThere (device : List ℕ) : Type 0 where
  pub store : StoreNow
  pub opens : OpensStore store device

-- The status is that of a bad device only if the device has one of these faults. Then nothing was done but maybe a sync, and the device
-- reads as before. On such a device another status comes only by a fault of the disk or of memory, and at one of memory it reads as before
-- too. At any status no byte was taken, and nothing was sent. So every other status means that a store stands there.
pub record RefusesExactly (status : ℕ) (a b : World) : Type 0 where
  pub only : status ≡ BAD_DEVICE → IsNoStore a.device × ReadsAlone a b
  pub there : IsNoStore a.device → (status ≡ BAD_DEVICE) ⊎ ((status ≡ DISK_FAULT) ⊎ (status ≡ OUT_OF_MEMORY))
  pub untouched : IsNoStore a.device → OnDeviceAlone a b
  pub as_before : IsNoStore a.device → (status ≡ DISK_FAULT → ⊥) → ReadsAlone a b
  pub others : (status ≡ BAD_DEVICE → ⊥) → (status ≡ DISK_FAULT → ⊥) → (status ≡ OUT_OF_MEMORY → ⊥) → IsStoreThere a.device

-- the exit status of a run whose device doesn't open so
abbrev pub opening_status : OpenFault → ℕ
opening_status NotFormatted = BAD_DEVICE
opening_status (BadImage place) = BAD_DEVICE
opening_status (BadRecord gate) = BAD_DEVICE
opening_status (BadSpelling gate) = BAD_DEVICE
opening_status (BadHistory gate) = BAD_DEVICE
opening_status Disk = DISK_FAULT
opening_status OutOfMemory = OUT_OF_MEMORY
