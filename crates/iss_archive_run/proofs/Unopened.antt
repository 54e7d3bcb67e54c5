-- What bringing an archive up to date comes to if the device isn't opened.
use Rattle.std.proofs.Common.{◌≡◌, ℕ, inl, inr, List, Option, Err, refl, arith}
use Rattle.iss_edge.specs.World.{World, Told, Faults}
use Rattle.iss_edge.proofs.Tolds.{told_map}
use Rattle.iss_archive.specs.Archived.{Archived}
use Rattle.iss_opening.specs.declared.fault.OpenFault.{OpenFault}
use Rattle.iss_opening.specs.declared.fault.OpenFault.TheVariants as open_fault
use Rattle.iss_opening.specs.Opening.{OnRefused, ReadsAlone, OpenCause}
use Rattle.iss_device.specs.Refusals.{opening_status}
use Rattle.iss_follow_runs.specs.Moments.{KeepsMoments, TellsMoments, EndsKept}
use Rattle.iss_follow_runs.proofs.Openings.{ends_alone, keeps_tells}
use Rattle.iss_archive_run.specs.declared.stop.Stop.{Stop}
use Rattle.iss_archive_run.specs.Statuses.{exit_status, stop_of_opening}
use Rattle.iss_archive_run.specs.Keeping.{CameToLine, IsCaused, IsDue}

abbrev pub status_of : Stop → ℕ
status_of ended = exit_status {A = Unit {0}} (Err ended)

abbrev pub opening_of : OpenFault → ℕ
opening_of fault = status_of (stop_of_opening fault)

pub status_is : (fault : OpenFault) → opening_status fault ≡ opening_of fault
status_is open_fault.Disk = refl
status_is open_fault.OutOfMemory = refl
status_is open_fault.NotFormatted = refl
status_is (open_fault.BadImage place) = refl
status_is (open_fault.BadRecord gate) = refl
status_is (open_fault.BadSpelling gate) = refl
status_is (open_fault.BadHistory gate) = refl

-- it didn't come to its line
pub no_line : (n : ℕ) → (n ≡ 0 → ⊥) → (n ≡ 5 → ⊥) → CameToLine n → ⊥
no_line n zero five e = elim e [ inl x ↦ zero x | inr x ↦ five x ]

pub unopened_no_line : (fault : OpenFault) → CameToLine (opening_of fault) → ⊥
unopened_no_line open_fault.Disk = no_line 6 (λ e. absurd cc) (λ e. absurd cc)
unopened_no_line open_fault.OutOfMemory = no_line 7 (λ e. absurd cc) (λ e. absurd cc)
unopened_no_line open_fault.NotFormatted = no_line 4 (λ e. absurd cc) (λ e. absurd cc)
unopened_no_line (open_fault.BadImage place) = no_line 4 (λ e. absurd cc) (λ e. absurd cc)
unopened_no_line (open_fault.BadRecord gate) = no_line 4 (λ e. absurd cc) (λ e. absurd cc)
unopened_no_line (open_fault.BadSpelling gate) = no_line 4 (λ e. absurd cc) (λ e. absurd cc)
unopened_no_line (open_fault.BadHistory gate) = no_line 4 (λ e. absurd cc) (λ e. absurd cc)

pub unopened_not_five : (fault : OpenFault) → opening_of fault ≡ 5 → ⊥
unopened_not_five fault e = unopened_no_line fault (inr e)

-- unless a call on the device failed
pub unopened_ends : (T : Type 0) (fault : OpenFault) (x y : Option World) → (opening_of fault ≡ 6 → ⊥) → OnRefused {T = T} (Err fault) (Told ReadsAlone x y) → Told EndsKept x y
unopened_ends T open_fault.Disk x y other reads = absurd (other refl)
unopened_ends T open_fault.OutOfMemory x y other reads = told_map ReadsAlone EndsKept x y ends_alone reads
unopened_ends T open_fault.NotFormatted x y other reads = told_map ReadsAlone EndsKept x y ends_alone reads
unopened_ends T (open_fault.BadImage place) x y other reads = told_map ReadsAlone EndsKept x y ends_alone reads
unopened_ends T (open_fault.BadRecord gate) x y other reads = told_map ReadsAlone EndsKept x y ends_alone reads
unopened_ends T (open_fault.BadSpelling gate) x y other reads = told_map ReadsAlone EndsKept x y ends_alone reads
unopened_ends T (open_fault.BadHistory gate) x y other reads = told_map ReadsAlone EndsKept x y ends_alone reads

pub tells_still : (x y : Option World) → Told KeepsMoments x y → Told TellsMoments x y
tells_still x y keeps = told_map KeepsMoments TellsMoments x y keeps_tells keeps

pub refused_so : (T U : Type 0) (fault : OpenFault) (P : Type 0) → OnRefused {T = T} (Err fault) P → OnRefused {T = U} (Err fault) P
refused_so T U open_fault.Disk P p = tt
refused_so T U open_fault.OutOfMemory P p = p
refused_so T U open_fault.NotFormatted P p = p
refused_so T U (open_fault.BadImage place) P p = p
refused_so T U (open_fault.BadRecord gate) P p = p
refused_so T U (open_fault.BadSpelling gate) P p = p
refused_so T U (open_fault.BadHistory gate) P p = p

pub due_unopened : (fault : OpenFault) (device : List ℕ) (a b : Archived) → IsDue {A = Unit {0}} (Err (stop_of_opening fault)) device a b
due_unopened open_fault.Disk device a b = tt
due_unopened open_fault.OutOfMemory device a b = tt
due_unopened open_fault.NotFormatted device a b = tt
due_unopened (open_fault.BadImage place) device a b = tt
due_unopened (open_fault.BadRecord gate) device a b = tt
due_unopened (open_fault.BadSpelling gate) device a b = tt
due_unopened (open_fault.BadHistory gate) device a b = tt

pub caused_unopened : {T : Type 0} (fault : OpenFault) (before now : Faults) (g : ℕ) → OpenCause {T = T} before now (Err fault) → IsCaused {A = Unit {0}} before now g g (Err (stop_of_opening fault))
caused_unopened open_fault.Disk before now g cause =
    record { later = cause.later; kept_later = omega arith; disk = λ e. cause.disk refl; output = λ e. absurd cc; keeper = λ e. absurd cc }
caused_unopened open_fault.OutOfMemory before now g cause =
    record { later = cause.later; kept_later = omega arith; disk = λ e. absurd cc; output = λ e. absurd cc; keeper = λ e. absurd cc }
caused_unopened open_fault.NotFormatted before now g cause =
    record { later = cause.later; kept_later = omega arith; disk = λ e. absurd cc; output = λ e. absurd cc; keeper = λ e. absurd cc }
caused_unopened (open_fault.BadImage place) before now g cause =
    record { later = cause.later; kept_later = omega arith; disk = λ e. absurd cc; output = λ e. absurd cc; keeper = λ e. absurd cc }
caused_unopened (open_fault.BadRecord gate) before now g cause =
    record { later = cause.later; kept_later = omega arith; disk = λ e. absurd cc; output = λ e. absurd cc; keeper = λ e. absurd cc }
caused_unopened (open_fault.BadSpelling gate) before now g cause =
    record { later = cause.later; kept_later = omega arith; disk = λ e. absurd cc; output = λ e. absurd cc; keeper = λ e. absurd cc }
caused_unopened (open_fault.BadHistory gate) before now g cause =
    record { later = cause.later; kept_later = omega arith; disk = λ e. absurd cc; output = λ e. absurd cc; keeper = λ e. absurd cc }
