-- Which of two devices is refused, and what was done then.
use Rattle.std.specs.Prelude.{◌≡◌, ◌⊎◌, ℕ}
use Rattle.iss_edge.specs.declared.status.TheConstants.{BAD_DEVICE, DISK_FAULT, OUT_OF_MEMORY}
use Rattle.iss_edge.specs.World.{World}
use Rattle.iss_device.specs.Refusals.{IsNoStore, OnDeviceAlone}

-- The status is that of a bad device only if no store can be opened on one of these two. Then nothing was done but on the devices. If no store can
-- be opened on one of them, another status comes only by a fault of a disk or of memory.
pub record RefusesEither (status : ℕ) (a b c d : World) : Type 0 where
  pub only : status ≡ BAD_DEVICE → IsNoStore a.device ⊎ IsNoStore c.device
  pub there : IsNoStore a.device ⊎ IsNoStore c.device → (status ≡ BAD_DEVICE) ⊎ ((status ≡ DISK_FAULT) ⊎ (status ≡ OUT_OF_MEMORY))
  pub untouched : status ≡ BAD_DEVICE → OnDeviceAlone a b × OnDeviceAlone c d
