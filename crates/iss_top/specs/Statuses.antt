-- The exit status of a run.
use Rattle.std.specs.Prelude.{ℕ, List, [], ◌∷◌, Result, Ok, Err}
use Rattle.iss_edge.specs.declared.status.TheConstants.{DONE, INPUT_FAULT, BAD_DEVICE, OUTPUT_FAULT, DISK_FAULT, OUT_OF_MEMORY, INPUT_TOO_LONG}
use Rattle.iss_opening.specs.declared.fault.OpenFault.{OpenFault}
use Rattle.iss_opening.specs.declared.fault.OpenFault.TheVariants as open_fault
use Rattle.iss_store.specs.declared.fault.StoreFault.{StoreFault}
use Rattle.iss_store.specs.declared.fault.StoreFault.TheVariants as store_fault
use Rattle.iss_top.specs.declared.stop.Stop.{Stop}
use Rattle.iss_top.specs.declared.stop.Stop.TheVariants.{Input, Device, Output, Disk, Memory, InputLong}

-- the exit status of a run that ended so
abbrev pub stop_status : {A : Type 0} → Result A Stop → ℕ
stop_status (Ok done) = DONE
stop_status (Err Input) = INPUT_FAULT
stop_status (Err Device) = BAD_DEVICE
stop_status (Err Output) = OUTPUT_FAULT
stop_status (Err Disk) = DISK_FAULT
stop_status (Err Memory) = OUT_OF_MEMORY
stop_status (Err InputLong) = INPUT_TOO_LONG

-- the statuses of a dry run
abbrev pub dry_statuses : List ℕ
dry_statuses = DONE ∷ INPUT_FAULT ∷ OUTPUT_FAULT ∷ OUT_OF_MEMORY ∷ INPUT_TOO_LONG ∷ []

-- the statuses of formatting
abbrev pub format_statuses : List ℕ
format_statuses = DONE ∷ BAD_DEVICE ∷ DISK_FAULT ∷ []

-- the statuses of a run on a device that takes lines
abbrev pub replay_statuses : List ℕ
replay_statuses = DONE ∷ INPUT_FAULT ∷ BAD_DEVICE ∷ OUTPUT_FAULT ∷ DISK_FAULT ∷ OUT_OF_MEMORY ∷ INPUT_TOO_LONG ∷ []

-- the statuses of a report
abbrev pub report_statuses : List ℕ
report_statuses = DONE ∷ BAD_DEVICE ∷ OUTPUT_FAULT ∷ DISK_FAULT ∷ OUT_OF_MEMORY ∷ []

-- the statuses of a run that serves
abbrev pub serve_statuses : List ℕ
serve_statuses = DONE ∷ INPUT_FAULT ∷ BAD_DEVICE ∷ DISK_FAULT ∷ OUT_OF_MEMORY ∷ []

-- the statuses of a drill
abbrev pub drill_statuses : List ℕ
drill_statuses = DONE ∷ OUTPUT_FAULT ∷ OUT_OF_MEMORY ∷ []

-- what ends a run whose device doesn't open so
abbrev pub stop_of_opening : OpenFault → Stop
stop_of_opening open_fault.Disk = Disk
stop_of_opening open_fault.NotFormatted = Device
stop_of_opening (open_fault.BadRecord gate) = Device
stop_of_opening (open_fault.BadSpelling gate) = Device
stop_of_opening (open_fault.BadHistory gate) = Device
stop_of_opening (open_fault.BadImage place) = Device
stop_of_opening open_fault.OutOfMemory = Memory

-- what ends a run whose store fails so
abbrev pub stop_of_store : StoreFault → Stop
stop_of_store store_fault.Disk = Disk
stop_of_store store_fault.Output = Output
stop_of_store store_fault.OutOfMemory = Memory
