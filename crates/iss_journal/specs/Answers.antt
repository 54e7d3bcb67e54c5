-- Which faults a call of the journal may answer, and what each has for its cause.
use Rattle.std.specs.Prelude.{◌≡◌, ℕ, ◌<◌, ◌≤◌, List, length, Result, Ok, Err, IsErrOf}
use Rattle.iss_edge.specs.World.{Faults, Later, Rose}
use Rattle.iss_journal.specs.declared.fault.JournalFault.{JournalFault}
use Rattle.iss_journal.specs.declared.fault.JournalFault.TheVariants.{Disk, NotFormatted, BadRecord, Full, OutOfMemory}
use Rattle.iss_journal.specs.Place.{Place, free_at}

-- no count of faults has fallen, and if the answer is a fault of the disk, the disk's count rose
pub record DiskCause {T : Type 0} (before now : Faults) (result : Result T JournalFault) : Type 0 where
  pub later : Later before now
  pub disk : IsErrOf result Disk → Rose before.disk now.disk

-- a fault of the disk alone
abbrev pub DiskAlone : {T : Type 0} → Result T JournalFault → Type 0
DiskAlone (Ok value) = Unit {0}
DiskAlone (Err Disk) = Unit {0}
DiskAlone (Err NotFormatted) = ⊥
DiskAlone (Err (BadRecord place)) = ⊥
DiskAlone (Err (Full free need)) = ⊥
DiskAlone (Err OutOfMemory) = ⊥

-- Full exactly if what is to be written needs more than is free, with both numbers, else a fault of the disk alone
abbrev pub FullByNeed : {T : Type 0} → Place → List ℕ → Result T JournalFault → Type 0
FullByNeed place frame (Ok value) = length frame ≤ free_at place
FullByNeed place frame (Err Disk) = length frame ≤ free_at place
FullByNeed place frame (Err (Full free need)) =
    (free ≡ free_at place) × (need ≡ length frame) × (free < need)
FullByNeed place frame (Err NotFormatted) = ⊥
FullByNeed place frame (Err (BadRecord at)) = ⊥
FullByNeed place frame (Err OutOfMemory) = ⊥

-- if the answer is Full, this holds
abbrev pub OnFull : {T : Type 0} → Result T JournalFault → Type 0 → Type 0
OnFull (Err (Full free need)) P = P
OnFull (Err Disk) P = Unit {0}
OnFull (Err NotFormatted) P = Unit {0}
OnFull (Err (BadRecord place)) P = Unit {0}
OnFull (Err OutOfMemory) P = Unit {0}
OnFull (Ok value) P = Unit {0}

-- a fault of the disk, or a failed allocation
abbrev pub DiskOrMemory : {T : Type 0} → Result T JournalFault → Type 0
DiskOrMemory (Ok value) = Unit {0}
DiskOrMemory (Err Disk) = Unit {0}
DiskOrMemory (Err OutOfMemory) = Unit {0}
DiskOrMemory (Err NotFormatted) = ⊥
DiskOrMemory (Err (BadRecord place)) = ⊥
DiskOrMemory (Err (Full free need)) = ⊥
