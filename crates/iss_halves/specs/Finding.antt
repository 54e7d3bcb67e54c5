-- What opening a device finds of its layout, and of its current image.
use Rattle.std.specs.Prelude.{◌≡◌, ℕ, ◌+◌, ◌^◌, ◌<◌, ◌≤◌, Bool, true, false, List, [], length, take, drop, slice_index, Result, Ok, Err}
use Rattle.std.specs.Int.{w32, to_be_bytes}
use Rattle.iss_edge.specs.World.{World}
use Rattle.iss_edge.specs.Calls.{Same}
use Rattle.iss_journal.specs.declared.fault.JournalFault.{JournalFault}
use Rattle.iss_journal.specs.declared.fault.JournalFault.TheVariants.{Disk, NotFormatted, BadRecord, Full, OutOfMemory}
use Rattle.iss_journal.specs.Header.{HasInstance}
use Rattle.iss_journal.specs.declared.layout.TheConstants.{LENGTH}
use Rattle.iss_journal.specs.Region.{Region}
use Rattle.iss_journal.specs.Formatting.{whole_device}
use Rattle.iss_halves.specs.declared.layout.TheConstants.{SELECTOR, BESIDE_IMAGE}
use Rattle.iss_halves.specs.Forms.{Layout}
use Rattle.iss_halves.specs.Halves.{HasHalves, half_size, half_start, names_second, image_with_length, half_region}
use Rattle.iss_halves.specs.Making.{HasNoHeader}

-- the device has this kind of header, with this instance, and in halves this half is current
abbrev pub HasKind : Bool → ℕ → Bool → List ℕ → Type 0
HasKind true instance second device =
    HasHalves device instance × (names_second (slice_index device SELECTOR) ≡ second)
HasKind false instance second device = HasInstance device instance

-- the device has this layout
pub record HasLayout (layout : Layout) (device : List ℕ) : Type 0 where
  pub kind : HasKind layout.halved layout.instance layout.second device

-- the layout, or that there is no header of either kind: exactly if each kind has another size or another header
abbrev pub FindsLayout : Result Layout JournalFault → World → World → Type 0
FindsLayout (Ok layout) a b = HasLayout layout a.device
FindsLayout (Err NotFormatted) a b = HasNoHeader a.device
FindsLayout (Err Disk) a b = Unit {0}
FindsLayout (Err (BadRecord place)) a b = ⊥
FindsLayout (Err (Full free need)) a b = ⊥
FindsLayout (Err OutOfMemory) a b = ⊥

-- the same of a device in halves alone
abbrev pub FindsHalves : Result Layout JournalFault → World → World → Type 0
FindsHalves (Ok layout) a b = HasLayout layout a.device
FindsHalves (Err NotFormatted) a b = (instance : ℕ) → HasHalves a.device instance → ⊥
FindsHalves (Err Disk) a b = Unit {0}
FindsHalves (Err (BadRecord place)) a b = ⊥
FindsHalves (Err (Full free need)) a b = ⊥
FindsHalves (Err OutOfMemory) a b = ⊥

-- the current half begins with this image after its length, and leaves room for a gate
pub record HoldsImage (size : ℕ) (second : Bool) (image device : List ℕ) : Type 0 where
  pub room : BESIDE_IMAGE + length image ≤ half_size size
  pub there : take (LENGTH + length image) (drop (half_start size second) device) ≡ image_with_length image

-- the length with which the half begins leaves no room for a gate
pub record TooLong (size : ℕ) (second : Bool) (device : List ℕ) : Type 0 where
  pub n : ℕ
  pub small : n < 2 ^ 32
  pub there : take LENGTH (drop (half_start size second) device) ≡ to_be_bytes w32 n
  pub long : half_size size < BESIDE_IMAGE + n

-- this length stands at this place in four bytes, and nothing of what is told has changed
pub record ReadsLength (at n : ℕ) (a b : World) : Type 0 where
  pub there : take LENGTH (drop at a.device) ≡ to_be_bytes w32 n
  pub small : n < 2 ^ 32
  pub same : Same a b

-- the image of a device of this layout: one journal alone has none
abbrev pub ImageOf : Bool → ℕ → Bool → List ℕ → List ℕ → Type 0
ImageOf true size second image device = HoldsImage size second image device
ImageOf false size second image device = image ≡ []

-- the image of a device that is laid out so
abbrev pub HasImage : Layout → List ℕ → List ℕ → Type 0
HasImage layout image device = ImageOf layout.halved layout.size layout.second image device

-- a device in halves whose current half has a length that is too long, and the half's first place
pub record BadImageAt (layout : Layout) (place : ℕ) (device : List ℕ) : Type 0 where
  pub halved : layout.halved ≡ true
  pub here : place ≡ half_start layout.size layout.second
  pub long : TooLong layout.size layout.second device

-- The current half's image. A bad record is named by the half's first place, exactly if the length there leaves no room for a gate.
abbrev pub FindsImage : Layout → Result (List ℕ) JournalFault → World → World → Type 0
FindsImage layout (Ok image) a b = HasImage layout image a.device
FindsImage layout (Err (BadRecord place)) a b = BadImageAt layout place a.device
FindsImage layout (Err Disk) a b = Unit {0}
FindsImage layout (Err OutOfMemory) a b = Unit {0}
FindsImage layout (Err NotFormatted) a b = ⊥
FindsImage layout (Err (Full free need)) a b = ⊥

-- a fault of the disk, a failed allocation, or a bad record
abbrev pub FailsAsImage : {T : Type 0} → Result T JournalFault → Type 0
FailsAsImage (Ok value) = Unit {0}
FailsAsImage (Err Disk) = Unit {0}
FailsAsImage (Err OutOfMemory) = Unit {0}
FailsAsImage (Err (BadRecord place)) = Unit {0}
FailsAsImage (Err NotFormatted) = ⊥
FailsAsImage (Err (Full free need)) = ⊥

-- the region of the journal after an image that was found
abbrev pub region_found : Bool → ℕ → ℕ → Bool → List ℕ → List ℕ → Region
region_found true instance size second image device =
    half_region size second (take (half_start size second + (LENGTH + length image)) device)
region_found false instance size second image device = whole_device instance size

-- the region of the journal on a device that is laid out so
abbrev pub found_region : Layout → List ℕ → List ℕ → Region
found_region layout image device =
    region_found layout.halved layout.instance layout.size layout.second image device
