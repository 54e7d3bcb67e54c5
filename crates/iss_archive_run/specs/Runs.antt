-- What the top call did, by what its words ask for.
use Rattle.std.specs.Prelude.{◌≡◌, ◌⊎◌, ℕ, Option, Some, None, Result}
use Rattle.iss_edge.specs.declared.status.TheConstants.{DONE, USAGE, BAD_DEVICE, OUT_OF_MEMORY}
use Rattle.iss_edge.specs.World.{World, Faults, Rose}
use Rattle.iss_archive.specs.Archived as archived
use Rattle.iss_archive.specs.Archived.{Archived}
use Rattle.iss_statement.specs.declared.words.StatementWords.{StatementWords}
use Rattle.iss_statement_run.specs.declared.fault.StatementFault.{StatementFault}
use Rattle.iss_statement_run.specs.Writing.{StatementDoneOn}
use Rattle.iss_archive_run.specs.declared.status.TheConstants.{GAP, STRANGE}
use Rattle.iss_archive_run.specs.declared.stop.Stop.{Stop}
use Rattle.iss_archive_run.specs.declared.words.Command.{Command}
use Rattle.iss_archive_run.specs.declared.words.Command.TheVariants.{Archive, Statement}
use Rattle.iss_archive_run.specs.Statuses.{exit_status, statement_status}
use Rattle.iss_archive_run.specs.Keeping.{IsUntouched}
use Rattle.iss_archive_run.specs.Exactly.{KeepDoneOn}

-- words that are no command end with 2, and nothing is done
pub record IsUsage {E K : Type 0} (edge edge' : E) (keeper keeper' : K) (status : ℕ) : Type 0 where
  pub usage : status ≡ USAGE
  pub same : edge' ≡ edge
  pub keeper_same : keeper' ≡ keeper

-- the status is 0 or 7, or 4, 11 or 12, which have their conditions
abbrev pub IsOwn : ℕ → Type 0
IsOwn status = (status ≡ DONE) ⊎ ((status ≡ OUT_OF_MEMORY) ⊎ ((status ≡ BAD_DEVICE) ⊎ ((status ≡ GAP) ⊎ (status ≡ STRANGE))))

-- an archive was brought up to date, or that ended early
pub record IsArchived {E K : Type 0} (faults : E → Faults) (told : E → Option World) (kept_faults : K → ℕ) (kept_told : K → Option Archived) (left : K → Archived → Type 0) (edge edge' : E) (keeper keeper' : K) (status : ℕ) : Type 0 where
  pub ended : Result (Unit {0}) Stop
  pub status_is : status ≡ exit_status ended
  pub done : KeepDoneOn faults told kept_faults kept_told left edge edge' keeper keeper' ended
  pub untouched : IsUntouched ended (keeper' ≡ keeper)
  pub own : (Rose (faults edge).disk (faults edge').disk → ⊥) → (Rose (faults edge).output (faults edge').output → ⊥) → (archived.Rose (kept_faults keeper) (kept_faults keeper') → ⊥) → IsOwn status

-- a statement was written, or that ended early: the status is 0 or 7 unless the output or the keeper failed
pub record IsStated {E K : Type 0} (asked : StatementWords) (faults : E → Faults) (told : E → Option World) (kept_faults : K → ℕ) (kept_told : K → Option Archived) (left : K → Archived → Type 0) (edge edge' : E) (keeper keeper' : K) (status : ℕ) : Type 0 where
  pub ended : Result (Unit {0}) StatementFault
  pub status_is : status ≡ statement_status ended
  pub done : StatementDoneOn asked faults told kept_faults kept_told left edge edge' keeper keeper' ended
  pub own : (Rose (faults edge).output (faults edge').output → ⊥) → (archived.Rose (kept_faults keeper) (kept_faults keeper') → ⊥) → (status ≡ DONE) ⊎ (status ≡ OUT_OF_MEMORY)

-- what the top call did by these words
abbrev pub RunDone : Option Command → {E K : Type 0} → (E → Faults) → (E → Option World) → (K → ℕ) → (K → Option Archived) → (K → Archived → Type 0) → E → E → K → K → ℕ → Type 0
RunDone (Some Archive) faults told kept_faults kept_told left edge edge' keeper keeper' status =
    IsArchived faults told kept_faults kept_told left edge edge' keeper keeper' status
RunDone (Some (Statement asked)) faults told kept_faults kept_told left edge edge' keeper keeper' status =
    IsStated asked faults told kept_faults kept_told left edge edge' keeper keeper' status
RunDone None faults told kept_faults kept_told left edge edge' keeper keeper' status = IsUsage edge edge' keeper keeper' status
