-- What making a device in halves leaves at each of its moments.
use Rattle.std.specs.Prelude.{◌≡◌, ◌⊎◌, ℕ, zero, suc, ◌+◌, ◌<◌, ◌≤◌, false, List, [], ◌∷◌, ◌++◌, length, drop}
use Rattle.iss_edge.specs.declared.outside.Action.{Action}
use Rattle.iss_edge.specs.World.{World}
use Rattle.iss_edge.specs.Disk.{Disk, after_actions, IsAtRest, IsImage}
use Rattle.iss_edge.specs.Puts.{Put, one_put, actions_of_puts, Puts, PutsPart, syncs_after}
use Rattle.iss_journal.specs.declared.layout.TheConstants.{HEADER_INSTANCES, GREATEST_SIZE}
use Rattle.iss_journal.specs.Header.{instance_bytes, IsUnformatted}
use Rattle.iss_halves.specs.declared.layout.TheConstants.{BESIDE_IMAGE}
use Rattle.iss_halves.specs.Halves.{halves_signature, half_size, HasHalves, HalfRests}
use Rattle.iss_halves.specs.Turning.{half_bytes}

-- from place 1 on: the header without its first byte, the selector of the first half, and a half with this image and no records
unfoldable pub halves_tail : ℕ → List ℕ → List ℕ
halves_tail instance image = halves_signature ++ instance_bytes instance ++ 0 ∷ [] ++ half_bytes image

-- making a device closes place 0, writes what comes after it, and opens place 0
unfoldable pub halves_puts : ℕ → List ℕ → List Put
halves_puts instance image =
    one_put 0 (0 ∷ []) ++ one_put 1 (halves_tail instance image) ++ one_put 0 (1 ∷ [])

-- neither kind of header stands there
abbrev pub HasNoHeader : List ℕ → Type 0
HasNoHeader device = IsUnformatted device × ((instance : ℕ) → HasHalves device instance → ⊥)

-- Until a sync has succeeded the image differs from the start at place 0 alone. From then on it has no header, or has the instance, and
-- in its first half this image and no records.
abbrev pub MakingLeaves : ℕ → List ℕ → List ℕ → ℕ → List ℕ → Type 0
MakingLeaves instance image start zero device = drop 1 device ≡ drop 1 start
MakingLeaves instance image start (suc syncs) device =
    HasNoHeader device ⊎ HalfRests instance (length start) false image [] device

-- these puts were made, or a prefix of their actions, and what each image of each of their moments is, begun at rest
pub record MakesGood (instance : ℕ) (image : List ℕ) (a b : World) : Type 0 where
  pub part : PutsPart (halves_puts instance image) a b
  pub each : (d : Disk) → IsAtRest d → d.bytes ≡ a.device → (before rest : List Action) → part.actions ≡ before ++ rest
      → (device : List ℕ) → IsImage (after_actions d before) device → MakingLeaves instance image a.device (syncs_after 0 before) device

-- the device has the instance and in its first half this image and no records, and once at rest a stop leaves just that
pub record Makes (instance : ℕ) (image : List ℕ) (a b : World) : Type 0 where
  pub made : Puts (halves_puts instance image) a b
  pub instance_is : HasHalves b.device instance
  pub shows : HalfRests instance (length a.device) false image [] b.device
  pub lasts : (d : Disk) → IsAtRest d → d.bytes ≡ a.device → (device : List ℕ)
      → IsImage (after_actions d (actions_of_puts (halves_puts instance image))) device → device ≡ b.device

-- these bytes are the tail of this instance and image, and the device has room for it in a half
pub record IsTailFor (instance : ℕ) (image tail device : List ℕ) : Type 0 where
  pub is : tail ≡ halves_tail instance image
  pub fits : BESIDE_IMAGE + length image ≤ half_size (length device)
  pub most : length device ≤ GREATEST_SIZE
  pub small : instance < HEADER_INSTANCES

-- of whichever instance and image this is the tail, what each image of each moment is
abbrev pub TailMakesGood : List ℕ → World → World → Type 0
TailMakesGood tail a b =
    (instance : ℕ) (image : List ℕ) → IsTailFor instance image tail a.device → MakesGood instance image a b

-- of whichever instance and image this is the tail, the device has them, and a stop leaves just that
abbrev pub TailMakes : List ℕ → World → World → Type 0
TailMakes tail a b =
    (instance : ℕ) (image : List ℕ) → IsTailFor instance image tail a.device → Makes instance image a b
