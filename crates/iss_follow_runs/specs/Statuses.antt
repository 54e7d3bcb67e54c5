-- The exit status of a run, and what it stands for.
use Rattle.std.specs.Prelude.{ℕ, Result, Ok, Err}
use Rattle.iss_edge.specs.declared.status.TheConstants.{DONE, BAD_DEVICE, OUTPUT_FAULT, DISK_FAULT, OUT_OF_MEMORY}
use Rattle.iss_opening.specs.declared.fault.OpenFault.{OpenFault}
use Rattle.iss_opening.specs.declared.fault.OpenFault.TheVariants as open_fault
use Rattle.iss_follow_runs.specs.declared.status.TheConstants.{NO_ROOM, NOT_BEHIND}
use Rattle.iss_follow_runs.specs.declared.stop.Stop.{Stop}
use Rattle.iss_follow_runs.specs.declared.stop.Stop.TheVariants.{Device, Output, Disk, Memory, NoRoom, NotBehind}

-- the exit status of a run that ended so
abbrev pub exit_status : {A : Type 0} → Result A Stop → ℕ
exit_status (Ok done) = DONE
exit_status (Err Device) = BAD_DEVICE
exit_status (Err Output) = OUTPUT_FAULT
exit_status (Err Disk) = DISK_FAULT
exit_status (Err Memory) = OUT_OF_MEMORY
exit_status (Err NoRoom) = NO_ROOM
exit_status (Err NotBehind) = NOT_BEHIND

-- what ends a run if a device doesn't open so
abbrev pub stop_of_opening : OpenFault → Stop
stop_of_opening open_fault.Disk = Disk
stop_of_opening open_fault.NotFormatted = Device
stop_of_opening (open_fault.BadRecord gate) = Device
stop_of_opening (open_fault.BadSpelling gate) = Device
stop_of_opening (open_fault.BadHistory gate) = Device
stop_of_opening (open_fault.BadImage place) = Device
stop_of_opening open_fault.OutOfMemory = Memory
