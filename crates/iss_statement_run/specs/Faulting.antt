-- What a fault of a keeper is to a statement.
use Rattle.iss_archive.specs.declared.post.KeepFault.{KeepFault}
use Rattle.iss_archive.specs.declared.post.KeepFault.TheVariants.{Failed, OutOfMemory}
use Rattle.iss_statement_run.specs.declared.fault.StatementFault.{StatementFault}
use Rattle.iss_statement_run.specs.declared.fault.StatementFault.TheVariants as statement_fault

-- a keeper that failed is a fault of the keeper, and want of memory stays one
abbrev pub fault_of_keeping : KeepFault → StatementFault
fault_of_keeping Failed = statement_fault.Keeper
fault_of_keeping OutOfMemory = statement_fault.OutOfMemory
