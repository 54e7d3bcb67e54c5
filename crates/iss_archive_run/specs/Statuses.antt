-- The exit status of a run, and what it stands for.
use Rattle.std.specs.Prelude.{ℕ, Result, Ok, Err}
use Rattle.iss_edge.specs.declared.status.TheConstants.{DONE, BAD_DEVICE, OUTPUT_FAULT, DISK_FAULT, OUT_OF_MEMORY}
use Rattle.iss_archive.specs.declared.archiving.ArchiveFault.{ArchiveFault}
use Rattle.iss_archive.specs.declared.archiving.ArchiveFault.TheVariants as archive_fault
use Rattle.iss_opening.specs.declared.fault.OpenFault.{OpenFault}
use Rattle.iss_opening.specs.declared.fault.OpenFault.TheVariants as open_fault
use Rattle.iss_statement_run.specs.declared.fault.StatementFault.{StatementFault}
use Rattle.iss_statement_run.specs.declared.fault.StatementFault.TheVariants as statement_fault
use Rattle.iss_archive_run.specs.declared.status.TheConstants.{GAP, STRANGE, KEEPER_FAULT}
use Rattle.iss_archive_run.specs.declared.stop.Stop.{Stop}
use Rattle.iss_archive_run.specs.declared.stop.Stop.TheVariants.{Device, Output, Disk, Memory, Gap, Strange, Keeper}

-- the exit status of a run that ended so
abbrev pub exit_status : {A : Type 0} → Result A Stop → ℕ
exit_status (Ok done) = DONE
exit_status (Err Device) = BAD_DEVICE
exit_status (Err Output) = OUTPUT_FAULT
exit_status (Err Disk) = DISK_FAULT
exit_status (Err Memory) = OUT_OF_MEMORY
exit_status (Err Gap) = GAP
exit_status (Err Strange) = STRANGE
exit_status (Err Keeper) = KEEPER_FAULT

-- the exit status of a statement that ended so
abbrev pub statement_status : {A : Type 0} → Result A StatementFault → ℕ
statement_status (Ok done) = DONE
statement_status (Err statement_fault.Output) = OUTPUT_FAULT
statement_status (Err statement_fault.OutOfMemory) = OUT_OF_MEMORY
statement_status (Err statement_fault.Keeper) = KEEPER_FAULT

-- what ends a run if a device doesn't open so
abbrev pub stop_of_opening : OpenFault → Stop
stop_of_opening open_fault.Disk = Disk
stop_of_opening open_fault.NotFormatted = Device
stop_of_opening (open_fault.BadRecord gate) = Device
stop_of_opening (open_fault.BadSpelling gate) = Device
stop_of_opening (open_fault.BadHistory gate) = Device
stop_of_opening (open_fault.BadImage place) = Device
stop_of_opening open_fault.OutOfMemory = Memory

-- what ends a run if an archive isn't brought up to date so
abbrev pub stop_of_keeping : ArchiveFault → Stop
stop_of_keeping archive_fault.Gap = Gap
stop_of_keeping archive_fault.Strange = Strange
stop_of_keeping archive_fault.Keeper = Keeper
stop_of_keeping archive_fault.OutOfMemory = Memory
