use Rattle.std.specs.Prelude.{ℕ}
use Rattle.iss_edge.specs.declared.status.TheConstants.{USAGE, INPUT_FAULT, BAD_DEVICE, OUTPUT_FAULT, DISK_FAULT, OUT_OF_MEMORY, INPUT_TOO_LONG}
use Rattle.iss_cli.specs.declared.failure.Failure.{Failure}
use Rattle.iss_cli.specs.declared.failure.Failure.TheVariants.{Usage, Input, Device, Output, Disk, Memory, InputTooLong}

-- the status that the program ends with for this failure
abbrev pub failure_status : Failure → ℕ
failure_status Usage = USAGE
failure_status Input = INPUT_FAULT
failure_status Device = BAD_DEVICE
failure_status Output = OUTPUT_FAULT
failure_status Disk = DISK_FAULT
failure_status Memory = OUT_OF_MEMORY
failure_status InputTooLong = INPUT_TOO_LONG
