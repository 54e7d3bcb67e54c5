-- A device in two halves: a header, a selector, and two halves, of which the one that the selector names is current.
use Rattle.std.specs.Prelude.{◌≡◌, ℕ, ◌+◌, ◌-◌, ◌/◌, ◌<◌, ◌≤◌, Bool, true, false, List, [], ◌∷◌, ◌++◌, length, take, drop, slice_index, nat_eq, if◌then◌else◌}
use Rattle.iss_journal.specs.declared.layout.TheConstants.{HEADER, HEADER_INSTANCES, GREATEST_SIZE}
use Rattle.iss_journal.specs.Header.{instance_bytes}
use Rattle.iss_journal.specs.Region.{Region, body_with_length, ShowsClosed}
use Rattle.iss_halves.specs.declared.layout.TheConstants.{SELECTOR, SECOND, HALVES_START, LEAST_HALVES_SIZE}

-- `ISS1`, version 2 and four zeros
abbrev pub halves_signature : List ℕ
halves_signature = 73 ∷ 83 ∷ 83 ∷ 49 ∷ 2 ∷ 0 ∷ 0 ∷ 0 ∷ 0 ∷ []

-- the 16 bytes before the selector: 1 if the device is formatted, the signature and the instance
unfoldable pub halves_header : ℕ → List ℕ
halves_header instance = 1 ∷ (halves_signature ++ instance_bytes instance)

-- a device in halves has 27 to 2^32 bytes
pub record IsHalvesSize (size : ℕ) : Type 0 where
  pub least : LEAST_HALVES_SIZE ≤ size
  pub most : size ≤ GREATEST_SIZE

-- the image is a device in halves whose header has this instance
pub record HasHalves (image : List ℕ) (instance : ℕ) : Type 0 where
  pub size : IsHalvesSize (length image)
  pub small : instance < HEADER_INSTANCES
  pub is : take HEADER image ≡ halves_header instance

-- how many bytes each half has: half of those after the selector, of which the last is left over if they are odd
abbrev pub half_size : ℕ → ℕ
half_size size = (size - HALVES_START) / 2

-- the second half is current exactly if the selector is 1
abbrev pub names_second : ℕ → Bool
names_second selector = nat_eq selector SECOND

-- the selector that names the second half, or the first
abbrev pub selector_of : Bool → ℕ
selector_of second = if second then SECOND else 0

-- where a half begins: the second after the first
abbrev pub half_start : ℕ → Bool → ℕ
half_start size true = HALVES_START + half_size size
half_start size false = HALVES_START

-- an image after its length, in four bytes as before a record's body
abbrev pub image_with_length : List ℕ → List ℕ
image_with_length image = body_with_length image

-- what stands below a half's journal: the header, maybe another half, and the image after its length
pub record IsBelow (instance size : ℕ) (second : Bool) (image below : List ℕ) : Type 0 where
  pub header : take HEADER below ≡ halves_header instance
  pub image_there : drop (half_start size second) below ≡ image_with_length image

-- the journal of a half, above these bytes
abbrev pub half_region : ℕ → Bool → List ℕ → Region
half_region size second below =
    record { below = below; to = half_start size second + half_size size; size = size }

-- The current half of this device, the second or the first, holds this image, and of its journal this holds.
pub record HoldsHalf (instance size : ℕ) (second : Bool) (image : List ℕ) (P : Region → Type 0) : Type 0 where
  pub below : List ℕ
  pub is_below : IsBelow instance size second image below
  pub current : names_second (slice_index below SELECTOR) ≡ second
  pub journal : P (half_region size second below)

-- the device's current half holds this image, and after it these records, with an end gate of 0
abbrev pub HalfRests : ℕ → ℕ → Bool → List ℕ → List (List ℕ) → List ℕ → Type 0
HalfRests instance size second image bodies device =
    HoldsHalf instance size second image (λ region. ShowsClosed region bodies device)
