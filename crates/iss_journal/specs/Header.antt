-- The header of a device, and what reading it finds.
use Rattle.std.specs.Prelude.{◌≡◌, ℕ, ◌<◌, ◌≤◌, List, [], ◌∷◌, ◌++◌, length, take, drop, Result, Ok, Err}
use Rattle.std.specs.Int.{w64, to_be_bytes}
use Rattle.iss_edge.specs.World.{World}
use Rattle.iss_journal.specs.declared.layout.TheConstants.{HEADER, HEADER_INSTANCES, LEAST_SIZE, GREATEST_SIZE}
use Rattle.iss_journal.specs.declared.fault.JournalFault.{JournalFault}
use Rattle.iss_journal.specs.declared.fault.JournalFault.TheVariants.{Disk, NotFormatted, BadRecord, Full, OutOfMemory}

-- `ISS1`, version 1 and four zeros
abbrev pub signature : List ℕ
signature = 73 ∷ 83 ∷ 83 ∷ 49 ∷ 1 ∷ 0 ∷ 0 ∷ 0 ∷ 0 ∷ []

-- the instance in six bytes, the highest first
abbrev pub instance_bytes : ℕ → List ℕ
instance_bytes instance = drop 2 (to_be_bytes w64 instance)

-- the 16 bytes before the journal: 1 if the device is formatted, the signature and the instance
unfoldable pub header : ℕ → List ℕ
header instance = 1 ∷ (signature ++ instance_bytes instance)

-- a device has 17 to 2^32 bytes
pub record IsSize (size : ℕ) : Type 0 where
  pub least : LEAST_SIZE ≤ size
  pub most : size ≤ GREATEST_SIZE

-- the image is a device whose header has this instance
pub record HasInstance (image : List ℕ) (instance : ℕ) : Type 0 where
  pub size : IsSize (length image)
  pub small : instance < HEADER_INSTANCES
  pub is : take HEADER image ≡ header instance

-- its header has no instance
abbrev pub IsUnformatted : List ℕ → Type 0
IsUnformatted image = (instance : ℕ) → HasInstance image instance → ⊥

-- the instance of the header, or that there is none: exactly if the size or the header is another
abbrev pub ReadsInstance : Result ℕ JournalFault → World → World → Type 0
ReadsInstance (Ok instance) a b = HasInstance a.device instance
ReadsInstance (Err NotFormatted) a b = IsUnformatted a.device
ReadsInstance (Err Disk) a b = Unit {0}
ReadsInstance (Err (BadRecord place)) a b = ⊥
ReadsInstance (Err (Full free need)) a b = ⊥
ReadsInstance (Err OutOfMemory) a b = ⊥

-- a fault of the disk, or that the device is not formatted
abbrev pub DiskOrUnformatted : {T : Type 0} → Result T JournalFault → Type 0
DiskOrUnformatted (Ok value) = Unit {0}
DiskOrUnformatted (Err Disk) = Unit {0}
DiskOrUnformatted (Err NotFormatted) = Unit {0}
DiskOrUnformatted (Err (BadRecord place)) = ⊥
DiskOrUnformatted (Err (Full free need)) = ⊥
DiskOrUnformatted (Err OutOfMemory) = ⊥
