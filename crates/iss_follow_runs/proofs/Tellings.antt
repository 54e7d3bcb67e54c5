-- What an edge tells of a run on a device, at the ends of its opening.
use Rattle.std.proofs.Common.{◌≡◌, ℕ, inl, inr, Option, Err, refl, sym, subst, ◌∙◌}
use Rattle.std.specs.Prelude.{◌⊎◌}
use Rattle.iss_edge.specs.World.{World, Told, Faults, Later}
use Rattle.iss_edge.proofs.Tolds.{told_map, later_self}
use Rattle.iss_opening.specs.declared.fault.OpenFault.{OpenFault}
use Rattle.iss_opening.specs.declared.fault.OpenFault.TheVariants.{Disk, NotFormatted, BadImage, BadRecord, BadSpelling, BadHistory, OutOfMemory}
use Rattle.iss_opening.specs.Values.{StoreNow}
use Rattle.iss_opening.specs.Opening.{Opens, OpensGood, OpenedAs, ReadsAlone, OnRefused, OpenCause}
use Rattle.iss_device.specs.Refusals.{OnDeviceAlone, RefusesExactly, opening_status}
use Rattle.iss_device.proofs.Refusals.{opens_alone, told_refuses, opened_refuses}
use Rattle.iss_follow_runs.specs.Statuses.{exit_status, stop_of_opening}
use Rattle.iss_follow_runs.specs.Causes.{IsCaused}
use Rattle.iss_follow_runs.specs.Moments.{KeepsMoments, KeepsRecords, EndsKept}
use Rattle.iss_follow_runs.proofs.Openings.{moments_unopened, moments_opened, ends_opened, ends_alone, ends_kept}

-- the status of a fault of an opening
abbrev pub status_of : OpenFault → ℕ
status_of fault = exit_status {A = Unit {0}} (Err (stop_of_opening fault))

status_is : (fault : OpenFault) → opening_status fault ≡ status_of fault
status_is Disk = refl
status_is OutOfMemory = refl
status_is NotFormatted = refl
status_is (BadImage place) = refl
status_is (BadRecord gate) = refl
status_is (BadSpelling gate) = refl
status_is (BadHistory gate) = refl

-- the status of such a fault is 4, 6 or 7
pub one_of_three : (fault : OpenFault) → (status_of fault ≡ 4) ⊎ ((status_of fault ≡ 6) ⊎ (status_of fault ≡ 7))
one_of_three Disk = inr (inl refl)
one_of_three OutOfMemory = inr (inr refl)
one_of_three NotFormatted = inl refl
one_of_three (BadImage place) = inl refl
one_of_three (BadRecord place) = inl refl
one_of_three (BadSpelling gate) = inl refl
one_of_three (BadHistory gate) = inl refl

pub not_status : (fault : OpenFault) (n : ℕ) → (n ≡ 4 → ⊥) → (n ≡ 6 → ⊥) → (n ≡ 7 → ⊥) → status_of fault ≡ n → ⊥
not_status fault n four six seven e =
    elim (one_of_three fault) [
      | inl x ↦ four (sym e ∙ x)
      | inr more ↦ elim more [ inl x ↦ six (sym e ∙ x) | inr x ↦ seven (sym e ∙ x) ]
    ]

-- ---- what the fault of one of two openings has for its cause

pub caused_first : {T : Type 0} (fault : OpenFault) (before now g : Faults) → OpenCause {T = T} before now (Err fault) → IsCaused {A = Unit {0}} before now g g (Err (stop_of_opening fault))
caused_first Disk before now g cause = record { later = cause.later; other_later = later_self g; disk = λ e. inl (cause.disk refl); output = λ e. absurd cc }
caused_first OutOfMemory before now g cause = record { later = cause.later; other_later = later_self g; disk = λ e. absurd cc; output = λ e. absurd cc }
caused_first NotFormatted before now g cause = record { later = cause.later; other_later = later_self g; disk = λ e. absurd cc; output = λ e. absurd cc }
caused_first (BadImage place) before now g cause = record { later = cause.later; other_later = later_self g; disk = λ e. absurd cc; output = λ e. absurd cc }
caused_first (BadRecord gate) before now g cause = record { later = cause.later; other_later = later_self g; disk = λ e. absurd cc; output = λ e. absurd cc }
caused_first (BadSpelling gate) before now g cause = record { later = cause.later; other_later = later_self g; disk = λ e. absurd cc; output = λ e. absurd cc }
caused_first (BadHistory gate) before now g cause = record { later = cause.later; other_later = later_self g; disk = λ e. absurd cc; output = λ e. absurd cc }

pub caused_second : {T : Type 0} (fault : OpenFault) (before now other_before other_now : Faults) → Later before now → OpenCause {T = T} other_before other_now (Err fault)
    → IsCaused {A = Unit {0}} before now other_before other_now (Err (stop_of_opening fault))
caused_second Disk before now other_before other_now later cause = record { later = later; other_later = cause.later; disk = λ e. inr (cause.disk refl); output = λ e. absurd cc }
caused_second OutOfMemory before now other_before other_now later cause = record { later = later; other_later = cause.later; disk = λ e. absurd cc; output = λ e. absurd cc }
caused_second NotFormatted before now other_before other_now later cause = record { later = later; other_later = cause.later; disk = λ e. absurd cc; output = λ e. absurd cc }
caused_second (BadImage place) before now other_before other_now later cause = record { later = later; other_later = cause.later; disk = λ e. absurd cc; output = λ e. absurd cc }
caused_second (BadRecord gate) before now other_before other_now later cause = record { later = later; other_later = cause.later; disk = λ e. absurd cc; output = λ e. absurd cc }
caused_second (BadSpelling gate) before now other_before other_now later cause = record { later = later; other_later = cause.later; disk = λ e. absurd cc; output = λ e. absurd cc }
caused_second (BadHistory gate) before now other_before other_now later cause = record { later = later; other_later = cause.later; disk = λ e. absurd cc; output = λ e. absurd cc }

module _ (x y : Option World) where
  pub told_unopened_moments : Told OpensGood x y → Told KeepsMoments x y
  told_unopened_moments good = told_map OpensGood KeepsMoments x y moments_unopened good

  pub told_unopened_alone : Told OpensGood x y → Told OnDeviceAlone x y
  told_unopened_alone good = told_map OpensGood OnDeviceAlone x y opens_alone good

  -- unless a call on the device failed
  pub told_unopened_ends : (T : Type 0) (fault : OpenFault) → (status_of fault ≡ 6 → ⊥) → OnRefused {T = T} (Err fault) (Told ReadsAlone x y) → Told EndsKept x y
  told_unopened_ends T Disk other reads = absurd (other refl)
  told_unopened_ends T OutOfMemory other reads = told_map ReadsAlone EndsKept x y ends_alone reads
  told_unopened_ends T NotFormatted other reads = told_map ReadsAlone EndsKept x y ends_alone reads
  told_unopened_ends T (BadImage place) other reads = told_map ReadsAlone EndsKept x y ends_alone reads
  told_unopened_ends T (BadRecord gate) other reads = told_map ReadsAlone EndsKept x y ends_alone reads
  told_unopened_ends T (BadSpelling gate) other reads = told_map ReadsAlone EndsKept x y ends_alone reads
  told_unopened_ends T (BadHistory gate) other reads = told_map ReadsAlone EndsKept x y ends_alone reads

  pub told_unopened_refuses : (fault : OpenFault) → Told (Opens (Err fault)) x y → Told OpensGood x y → OnRefused {T = StoreNow} (Err fault) (Told ReadsAlone x y) → Told (RefusesExactly (status_of fault)) x y
  told_unopened_refuses fault opens good reads =
      subst (λ (status : ℕ). Told (RefusesExactly status) x y) (status_is fault) (told_refuses fault x y opens good reads)

  module _ (s : StoreNow) (opened : Told (OpenedAs s) x y) where
    pub told_opened_moments : Told KeepsMoments x y
    told_opened_moments = told_map (OpenedAs s) KeepsMoments x y (moments_opened s) opened

    pub told_opened_records : Told KeepsRecords x y
    told_opened_records = told_map (OpenedAs s) KeepsRecords x y (ends_opened s) opened

    pub told_opened_ends : Told EndsKept x y
    told_opened_ends = told_map (OpenedAs s) EndsKept x y (λ a b o. ends_kept a b (ends_opened s a b o)) opened

    pub told_opened_alone : Told OnDeviceAlone x y
    told_opened_alone = told_map (OpenedAs s) OnDeviceAlone x y (λ a b o. opens_alone a b o.good) opened

    pub told_opened_refuses : (status : ℕ) → (status ≡ 4 → ⊥) → Told (RefusesExactly status) x y
    told_opened_refuses status other =
        told_map (OpenedAs s) (RefusesExactly status) x y (λ a b opening. opened_refuses status s a b other opening.opens) opened
