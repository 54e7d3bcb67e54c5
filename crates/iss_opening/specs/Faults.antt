use Rattle.iss_journal.specs.declared.fault.JournalFault.{JournalFault}
use Rattle.iss_journal.specs.declared.fault.JournalFault.TheVariants as journal
use Rattle.iss_opening.specs.declared.fault.OpenFault.{OpenFault}
use Rattle.iss_opening.specs.declared.fault.OpenFault.TheVariants as open_fault

-- a fault of the journal as one of an opening, which never finds a device full
abbrev pub fault_of_reading : JournalFault → OpenFault
fault_of_reading journal.Disk = open_fault.Disk
fault_of_reading journal.NotFormatted = open_fault.NotFormatted
fault_of_reading (journal.BadRecord gate) = open_fault.BadRecord gate
fault_of_reading (journal.Full free need) = open_fault.Disk
fault_of_reading journal.OutOfMemory = open_fault.OutOfMemory
