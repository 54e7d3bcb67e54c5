-- When a run ends with the statuses 11 and 12, by the records for which the device stands and how many of them were archived.
use Rattle.std.specs.Prelude.{◌≡◌, ◌⊎◌, ◌≤◌, ◌<◌, ◌^◌, ℕ, List, take, length, Option, Result}
use Rattle.iss_edge.specs.declared.status.TheConstants.{DISK_FAULT, OUT_OF_MEMORY}
use Rattle.iss_edge.specs.World.{World, Told, Faults}
use Rattle.iss_halves.specs.Forms.{Form, Seat}
use Rattle.iss_model.specs.declared.input.Record.{Record}
use Rattle.iss_archive.specs.Archived as archived
use Rattle.iss_archive.specs.Archived.{Archived}
use Rattle.iss_archive.specs.Postings.{IsArchiveOf, postings_of}
use Rattle.iss_standing.specs.Standing.{DeviceStandsFor}
use Rattle.iss_archive_run.specs.declared.status.TheConstants.{GAP, STRANGE, KEEPER_FAULT}
use Rattle.iss_archive_run.specs.declared.stop.Stop.{Stop}
use Rattle.iss_archive_run.specs.Statuses.{exit_status}
use Rattle.iss_archive_run.specs.Keeping.{KeepDone}

-- The archive is of the first k records. The next one can be had, and the postings of all are more than can be counted.
pub record IsTooMany (point : ℕ) (rs : List Record) (k : ℕ) : Type 0 where
  pub near : point ≤ k
  pub left : k < length rs
  pub many : 2 ^ 63 ≤ length (postings_of rs)

-- a call on the device or on the keeper failed, or an allocation
abbrev pub IsFailure : ℕ → Type 0
IsFailure status = (status ≡ DISK_FAULT) ⊎ ((status ≡ OUT_OF_MEMORY) ⊎ (status ≡ KEEPER_FAULT))

-- The status is 11 exactly if fewer records are archived than are in the image alone, and 12 exactly if there are too many postings, unless a call
-- or an allocation failed.
pub record IsExact (status point : ℕ) (rs : List Record) (k : ℕ) : Type 0 where
  pub gap : status ≡ GAP → k < point
  pub gap_there : k < point → (status ≡ GAP) ⊎ IsFailure status
  pub many : status ≡ STRANGE → IsTooMany point rs k
  pub many_there : IsTooMany point rs k → (status ≡ STRANGE) ⊎ IsFailure status

-- whichever records the device stands for, if the archive was that of the first ones
abbrev pub ExactOn : ℕ → List ℕ → Archived → Archived → Type 0
ExactOn status device v w =
    (form : Form) (seat : Seat) (rs : List Record) → DeviceStandsFor form seat rs device
    → (k : ℕ) → k ≤ length rs → IsArchiveOf form.instance (take k rs) v → IsExact status seat.point rs k

-- the same by what is told of the device and of the archive
abbrev pub ExactFor : ℕ → Option Archived → Option Archived → World → World → Type 0
ExactFor status v w a b = archived.Told (ExactOn status a.device) v w

-- what bringing an archive up to date did, and that the statuses 11 and 12 come exactly so
pub record KeptExactly {A : Type 0} (before now : Faults) (x y : Option World) (kept_before kept_now : ℕ) (v w : Option Archived) (left_was left_now : Archived → Type 0) (result : Result A Stop) : Type 0 where
  pub done : KeepDone before now x y kept_before kept_now v w left_was left_now result
  pub exact : Told (ExactFor (exit_status result) v w) x y

-- the same by what an outside and a keeper count and tell
abbrev pub KeepDoneOn : {A E K : Type 0} → (E → Faults) → (E → Option World) → (K → ℕ) → (K → Option Archived) → (K → Archived → Type 0) → E → E → K → K → Result A Stop → Type 0
KeepDoneOn faults told kept_faults kept_told left edge edge' keeper keeper' result =
    KeptExactly (faults edge) (faults edge') (told edge) (told edge') (kept_faults keeper) (kept_faults keeper') (kept_told keeper) (kept_told keeper') (left keeper) (left keeper') result
