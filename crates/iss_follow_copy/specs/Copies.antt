-- What a copy is, and what a stop leaves of the device that is made one.
use Rattle.std.specs.Prelude.{◌≡◌, ◌⊎◌, ℕ, zero, suc, ◌+◌, ◌<◌, ◌≤◌, false, List, ◌++◌, length, drop}
use Rattle.iss_edge.specs.declared.outside.Action.{Action}
use Rattle.iss_edge.specs.World.{World}
use Rattle.iss_edge.specs.Disk.{Disk, after_actions, IsAtRest, IsImage}
use Rattle.iss_edge.specs.Puts.{actions_of_puts, Puts, PutsPart, syncs_after}
use Rattle.iss_halves.specs.declared.layout.TheConstants.{BESIDE_IMAGE}
use Rattle.iss_halves.specs.Forms.{in_halves, seat_at}
use Rattle.iss_halves.specs.Halves.{half_size}
use Rattle.iss_halves.specs.Making.{halves_puts, HasNoHeader}
use Rattle.iss_model.specs.declared.input.Record.{Record}
use Rattle.iss_standing.specs.Standing.{image_after}
use Rattle.iss_opening.specs.Values.{StoreNow}
use Rattle.iss_opening.specs.Opening.{OpensStore}
use Rattle.iss_device.specs.Moments.{StandsFirmlyAt}
use Rattle.iss_follow_runs.specs.Holdings.{image_of}

-- A device of this size, in halves and of this instance, stands firmly for these records. All of them are in the image of its first half, and none is
-- after it.
abbrev pub IsCopy : ℕ → ℕ → List Record → List ℕ → Type 0
IsCopy instance size rs device = StandsFirmlyAt (in_halves instance size) (seat_at false (length rs)) rs device

-- Until a sync has succeeded the device differs from its start at place 0 alone. From then on it has no header, or is a copy.
abbrev pub CopyLeaves : ℕ → List Record → List ℕ → ℕ → List ℕ → Type 0
CopyLeaves instance rs start zero device = drop 1 device ≡ drop 1 start
CopyLeaves instance rs start (suc syncs) device = HasNoHeader device ⊎ IsCopy instance (length start) rs device

-- These puts were made, or a prefix of their actions, and what each image of each of their moments is, begun at rest. They close place 0, write
-- what comes after it, and open place 0.
pub record CopiesGood (instance : ℕ) (rs : List Record) (a b : World) : Type 0 where
  pub part : PutsPart (halves_puts instance (image_after rs)) a b
  pub each : (d : Disk) → IsAtRest d → d.bytes ≡ a.device → (before rest : List Action) → part.actions ≡ before ++ rest
      → (device : List ℕ) → IsImage (after_actions d before) device → CopyLeaves instance rs a.device (syncs_after 0 before) device

-- All of these puts were made: the device is a copy, and once it began at rest a stop leaves just that.
pub record CopyMade (instance : ℕ) (rs : List Record) (a b : World) : Type 0 where
  pub made : Puts (halves_puts instance (image_after rs)) a b
  pub is_copy : IsCopy instance (length a.device) rs b.device
  pub lasts : (d : Disk) → IsAtRest d → d.bytes ≡ a.device → (device : List ℕ)
      → IsImage (after_actions d (actions_of_puts (halves_puts instance (image_after rs)))) device → device ≡ b.device

-- The puts that make a device in halves were made, or a prefix of their actions, whichever image it was for. Nothing else was done.
pub record MakesPart (a b : World) : Type 0 where
  pub instance : ℕ
  pub image : List ℕ
  pub part : PutsPart (halves_puts instance image) a b

-- All of the puts that make a device in halves were made, for the image of what was opened on the first device, whether or not that has records.
pub record MakesAll (a b c d : World) : Type 0 where
  pub store : StoreNow
  pub opens : OpensStore store a.device
  pub made : Puts (halves_puts store.core.instance (image_of store.core)) c d

-- What stands on a device has an image that a half of a device of this size has no room for, beside its length and a gate.
pub record HasNoRoom (size : ℕ) (device : List ℕ) : Type 0 where
  pub store : StoreNow
  pub opens : OpensStore store device
  pub long : half_size size < BESIDE_IMAGE + length (image_of store.core)

-- it has an image that a half has room for
pub record HasRoom (size : ℕ) (device : List ℕ) : Type 0 where
  pub store : StoreNow
  pub opens : OpensStore store device
  pub fits : BESIDE_IMAGE + length (image_of store.core) ≤ half_size size
