-- If no count rose, the status is 0 or 7, or one of those that have their conditions.
use Rattle.std.proofs.Common.{◌≡◌, ◌⊎◌, ℕ, inl, inr, Result, Ok, Err, refl}
use Rattle.iss_edge.specs.declared.status.TheConstants.{DONE, OUT_OF_MEMORY}
use Rattle.iss_edge.specs.World.{Faults, Rose}
use Rattle.iss_archive.specs.Archived as archived
use Rattle.iss_statement_run.specs.declared.fault.StatementFault.{StatementFault}
use Rattle.iss_statement_run.specs.declared.fault.StatementFault.TheVariants as statement_fault
use Rattle.iss_statement_run.specs.Writing as writing
use Rattle.iss_archive_run.specs.declared.stop.Stop.{Stop}
use Rattle.iss_archive_run.specs.declared.stop.Stop.TheVariants as stop
use Rattle.iss_archive_run.specs.Statuses.{exit_status, statement_status}
use Rattle.iss_archive_run.specs.Keeping.{IsCaused}
use Rattle.iss_archive_run.specs.Runs.{IsOwn}

pub own_status : (before now : Faults) (g h : ℕ) (ended : Result (Unit {0}) Stop) → IsCaused before now g h ended
    → (Rose before.disk now.disk → ⊥) → (Rose before.output now.output → ⊥) → (archived.Rose g h → ⊥) → IsOwn (exit_status ended)
own_status before now g h (Ok unit) caused disk output keeper = inl refl
own_status before now g h (Err stop.Memory) caused disk output keeper = inr (inl refl)
own_status before now g h (Err stop.Device) caused disk output keeper = inr (inr (inl refl))
own_status before now g h (Err stop.Gap) caused disk output keeper = inr (inr (inr (inl refl)))
own_status before now g h (Err stop.Strange) caused disk output keeper = inr (inr (inr (inr refl)))
own_status before now g h (Err stop.Disk) caused disk output keeper = absurd (disk (caused.disk refl))
own_status before now g h (Err stop.Output) caused disk output keeper = absurd (output (caused.output refl))
own_status before now g h (Err stop.Keeper) caused disk output keeper = absurd (keeper (caused.keeper refl))

-- the same of a statement
pub own_statement : (before now : Faults) (g h : ℕ) (ended : Result (Unit {0}) StatementFault) → writing.IsCaused before now g h ended
    → (Rose before.output now.output → ⊥) → (archived.Rose g h → ⊥) → (statement_status ended ≡ DONE) ⊎ (statement_status ended ≡ OUT_OF_MEMORY)
own_statement before now g h (Ok unit) caused output keeper = inl refl
own_statement before now g h (Err statement_fault.OutOfMemory) caused output keeper = inr refl
own_statement before now g h (Err statement_fault.Output) caused output keeper = absurd (output (caused.output refl))
own_statement before now g h (Err statement_fault.Keeper) caused output keeper = absurd (keeper (caused.keeper refl))
