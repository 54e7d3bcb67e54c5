-- What formatting leaves at each of its moments.
use Rattle.std.specs.Prelude.{◌≡◌, ◌⊎◌, ℕ, zero, suc, List, [], ◌∷◌, ◌++◌, length, drop}
use Rattle.iss_edge.specs.declared.outside.Action.{Action}
use Rattle.iss_edge.specs.World.{World}
use Rattle.iss_edge.specs.Disk.{Disk, after_actions, IsAtRest, IsImage}
use Rattle.iss_edge.specs.Puts.{Put, one_put, actions_of_puts, Puts, PutsPart, syncs_after}
use Rattle.iss_journal.specs.Header.{signature, instance_bytes, header, HasInstance, IsUnformatted}
use Rattle.iss_journal.specs.Region.{Region, ShowsClosed}

-- the whole device after the header of this instance
abbrev pub whole_device : ℕ → ℕ → Region
whole_device instance size = record { below = header instance; to = size; size = size }

-- places 1 to 16 of a device with no records: the header without its first byte, and a closed end gate
unfoldable pub tail_of : ℕ → List ℕ
tail_of instance = signature ++ instance_bytes instance ++ 0 ∷ []

-- Formatting makes place 0 closed, writes the rest of the header with an end gate of 0, and opens place 0.
unfoldable pub format_puts : ℕ → List Put
format_puts instance =
    one_put 0 (0 ∷ []) ++ one_put 1 (tail_of instance) ++ one_put 0 (1 ∷ [])

-- Until a sync has succeeded the image differs from the start at place 0 alone. From then on it is not formatted, or has the
-- instance and stands for no records, with an end gate of 0.
abbrev pub FormatLeaves : ℕ → List ℕ → ℕ → List ℕ → Type 0
FormatLeaves instance start zero image = drop 1 image ≡ drop 1 start
FormatLeaves instance start (suc syncs) image =
    IsUnformatted image ⊎ ShowsClosed (whole_device instance (length start)) [] image

-- these puts were made, or a prefix of their actions, and what each image of each of their moments is, begun at rest
pub record FormatsGood (instance : ℕ) (a b : World) : Type 0 where
  pub part : PutsPart (format_puts instance) a b
  pub each : (d : Disk) → IsAtRest d → d.bytes ≡ a.device → (before rest : List Action) → part.actions ≡ before ++ rest
      → (image : List ℕ) → IsImage (after_actions d before) image → FormatLeaves instance a.device (syncs_after 0 before) image

-- the device has the instance and stands for no records, and once at rest a stop leaves just that
pub record Formats (instance : ℕ) (a b : World) : Type 0 where
  pub made : Puts (format_puts instance) a b
  pub instance_is : HasInstance b.device instance
  pub shows : ShowsClosed (whole_device instance (length a.device)) [] b.device
  pub lasts : (d : Disk) → IsAtRest d → d.bytes ≡ a.device → (image : List ℕ)
      → IsImage (after_actions d (actions_of_puts (format_puts instance))) image → image ≡ b.device
