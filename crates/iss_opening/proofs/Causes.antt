-- What each fault of an opening has for its cause.
use Rattle.std.proofs.Common.{ℕ, List, refl, arith}
use Rattle.std.specs.Prelude.{Result, Ok, Err}
use Rattle.iss_edge.specs.World.{Faults, Later}
use Rattle.iss_edge.proofs.Tolds.{later_then, rose_later}
use Rattle.iss_journal.specs.declared.fault.JournalFault.{JournalFault}
use Rattle.iss_journal.specs.declared.fault.JournalFault.TheVariants.{Disk, NotFormatted, BadRecord, Full, OutOfMemory}
use Rattle.iss_journal.specs.Place.{Place}
use Rattle.iss_journal.specs.Answers.{DiskCause, DiskAlone}
use Rattle.iss_journal.specs.Header.{DiskOrUnformatted}
use Rattle.iss_journal.specs.Opening.{MovesOn}
use Rattle.iss_halves.specs.Finding.{FailsAsImage}
use Rattle.iss_core.specs.Values.{CoreNow}
use Rattle.iss_opening.specs.declared.fault.OpenFault.{OpenFault}
use Rattle.iss_opening.specs.declared.fault.OpenFault.TheVariants as open_fault
use Rattle.iss_opening.specs.Faults.{fault_of_reading}
use Rattle.iss_opening.specs.Opening.{OpenCause, FailsByDisk}
use Rattle.iss_opening.specs.Taking.{TakesIn}

-- nothing failed
pub caused_well : {T : Type 0} (before now : Faults) (value : T) → Later before now → OpenCause before now (Ok value)
caused_well before now value later = record { later = later; disk = λ e. absurd cc }

-- no memory was left
pub caused_by_memory : {T : Type 0} (before now : Faults) → Later before now → OpenCause {T = T} before now (Err open_fault.OutOfMemory)
caused_by_memory before now later = record { later = later; disk = λ e. absurd cc }

-- an image of no sound state
pub caused_by_image : {T : Type 0} (before now : Faults) (place : ℕ) → Later before now → OpenCause {T = T} before now (Err (open_fault.BadImage place))
caused_by_image before now place later = record { later = later; disk = λ e. absurd cc }

-- a fault of the read of an image
pub caused_by_read : {S T : Type 0} (before now : Faults) (fault : JournalFault) → FailsAsImage {T = S} (Err fault) → DiskCause {T = S} before now (Err fault) → OpenCause {T = T} before now (Err (fault_of_reading fault))
caused_by_read before now Disk only cause = record { later = cause.later; disk = λ e. cause.disk refl }
caused_by_read before now (BadRecord gate) only cause = record { later = cause.later; disk = λ e. absurd cc }
caused_by_read before now OutOfMemory only cause = record { later = cause.later; disk = λ e. absurd cc }
caused_by_read before now NotFormatted only cause = absurd only
caused_by_read before now (Full free need) only cause = absurd only

-- a fault of the journal's read of a record
pub caused_by_next : {S T : Type 0} (place moved : Place) (before now : Faults) (fault : JournalFault) → MovesOn place moved (Err fault) → DiskCause {T = S} before now (Err fault) → OpenCause {T = T} before now (Err (fault_of_reading fault))
caused_by_next place moved before now Disk finds cause = record { later = cause.later; disk = λ e. cause.disk refl }
caused_by_next place moved before now (BadRecord gate) finds cause = record { later = cause.later; disk = λ e. absurd cc }
caused_by_next place moved before now OutOfMemory finds cause = record { later = cause.later; disk = λ e. absurd cc }
caused_by_next place moved before now NotFormatted finds cause = absurd finds
caused_by_next place moved before now (Full free need) finds cause = absurd finds

-- a fault of the journal's read of the header
pub caused_by_header : {S T : Type 0} (before now : Faults) (fault : JournalFault) → DiskOrUnformatted {T = S} (Err fault) → DiskCause {T = S} before now (Err fault) → OpenCause {T = T} before now (Err (fault_of_reading fault))
caused_by_header before now Disk only cause = record { later = cause.later; disk = λ e. cause.disk refl }
caused_by_header before now NotFormatted only cause = record { later = cause.later; disk = λ e. absurd cc }
caused_by_header before now (BadRecord gate) only cause = absurd only
caused_by_header before now (Full free need) only cause = absurd only
caused_by_header before now OutOfMemory only cause = absurd only

-- a fault of a call of the journal that fails by the disk alone
pub caused_by_disk : {S T : Type 0} (before now : Faults) (fault : JournalFault) → DiskAlone {T = S} (Err fault) → DiskCause {T = S} before now (Err fault) → OpenCause {T = T} before now (Err (fault_of_reading fault))
caused_by_disk before now Disk only cause = record { later = cause.later; disk = λ e. cause.disk refl }
caused_by_disk before now NotFormatted only cause = absurd only
caused_by_disk before now (BadRecord gate) only cause = absurd only
caused_by_disk before now (Full free need) only cause = absurd only
caused_by_disk before now OutOfMemory only cause = absurd only

-- a call of the journal that fails by the disk alone makes an opening do so
pub disk_alone : (S T : Type 0) (fault : JournalFault) → DiskAlone {T = S} (Err fault) → FailsByDisk {T = T} (Err (fault_of_reading fault))
disk_alone S T Disk only = tt
disk_alone S T NotFormatted only = absurd only
disk_alone S T (BadRecord gate) only = absurd only
disk_alone S T (Full free need) only = absurd only
disk_alone S T OutOfMemory only = absurd only

-- a record that isn't taken up
pub caused_by_record : {T : Type 0} (c : CoreNow) (gate : ℕ) (body : List ℕ) (before now : Faults) (fault : OpenFault) → TakesIn c gate body (Err fault) → Later before now → OpenCause {T = T} before now (Err fault)
caused_by_record c gate body before now open_fault.Disk takes later = absurd takes
caused_by_record c gate body before now fault takes later = record { later = later; disk = λ e. absurd cc }

-- the cause of an opening's fault stays one if calls came before that counted no fault down
pub caused_after : {T : Type 0} (before between now : Faults) (result : Result T OpenFault) → Later before between → OpenCause between now result → OpenCause before now result
caused_after before between now result first cause =
    record {
      later = later_then before between now first cause.later;
      disk = λ e. rose_later before.disk between.disk now.disk now.disk first.disk cause.later.disk (omega arith) (cause.disk e);
    }

-- the cause of a fault is that of the same fault of another call
pub caused_so : {S T : Type 0} (before now : Faults) (fault : OpenFault) → OpenCause {T = S} before now (Err fault) → OpenCause {T = T} before now (Err fault)
caused_so before now open_fault.Disk cause = record { later = cause.later; disk = λ e. cause.disk refl }
caused_so before now fault cause = record { later = cause.later; disk = λ e. absurd cc }
