-- How the program ended, and what it did, by what its words ask for. They go by the counts of faults and by what is told, before and after.
use Rattle.std.specs.Prelude.{◌≡◌, ◌⊎◌, ◌↔◌, ◌==◌, ℕ, List, [], ◌∷◌, String, Option, Some, None, Result, IsTrue}
use Rattle.std.specs.List.{list_any}
use Rattle.iss_edge.specs.declared.status.TheConstants.{DONE, USAGE, BAD_DEVICE, OUTPUT_FAULT, DISK_FAULT, OUT_OF_MEMORY}
use Rattle.iss_edge.specs.World.{World, Faults, Rose}
use Rattle.iss_follow_runs.specs.declared.status.TheConstants.{NO_ROOM, NOT_BEHIND}
use Rattle.iss_follow_runs.specs.declared.stop.Stop.{Stop}
use Rattle.iss_follow_runs.specs.Statuses.{exit_status}
use Rattle.iss_follow_copy.specs.Copying.{CopyDoneOn}
use Rattle.iss_follow_catch.specs.Catching.{CatchDoneOn}
use Rattle.iss_follow_same.specs.Comparing.{SameDoneOn}
use Rattle.iss_follow.specs.declared.words.Command.{Command}
use Rattle.iss_follow.specs.declared.words.Command.TheVariants.{Copy, Catch, Same}
use Rattle.iss_follow.specs.Words.{command_in}

-- the statuses that a run by these words may end with
abbrev pub statuses : Option Command → List ℕ
statuses (Some (Copy size)) = DONE ∷ BAD_DEVICE ∷ DISK_FAULT ∷ OUT_OF_MEMORY ∷ NO_ROOM ∷ []
statuses (Some Catch) = DONE ∷ BAD_DEVICE ∷ DISK_FAULT ∷ OUT_OF_MEMORY ∷ NO_ROOM ∷ NOT_BEHIND ∷ []
statuses (Some Same) = DONE ∷ BAD_DEVICE ∷ OUTPUT_FAULT ∷ DISK_FAULT ∷ OUT_OF_MEMORY ∷ []
statuses None = USAGE ∷ []

-- How a run ended on two outsides, by what its words ask for.
pub record StatusOf {F T : Type 0} (asked : Option Command) (a b : F) (c d : T) (before now other_before other_now : Faults) (status : ℕ) : Type 0 where
  -- the status is one of the command's
  pub known : IsTrue (list_any (λ one. status == one) (statuses asked))
  -- it is 2 exactly if the words are no command, and then both outsides are as they were
  pub usage : (status ≡ USAGE) ↔ (asked ≡ None)
  pub untouched : status ≡ USAGE → (b ≡ a) × (d ≡ c)
  -- if it blames the output or a disk, that is at fault
  pub output_fault : status ≡ OUTPUT_FAULT → Rose before.output now.output
  pub disk_fault : status ≡ DISK_FAULT → Rose before.disk now.disk ⊎ Rose other_before.disk other_now.disk

-- how a run ended, by what two outsides count
abbrev pub StatusOn : {F T : Type 0} → (F → Faults) → (T → Faults) → F → F → T → T → Option Command → ℕ → Type 0
StatusOn faults other_faults a b c d asked status = StatusOf asked a b c d (faults a) (faults b) (other_faults c) (other_faults d) status

-- the run ended with a result of which this is the status, and of it this holds
pub record Ended (status : ℕ) (P : Result (Unit {0}) Stop → Type 0) : Type 0 where
  pub result : Result (Unit {0}) Stop
  pub status_is : status ≡ exit_status result
  pub holds : P result

-- if the words ask for a copy, this holds of the size
abbrev pub OnCopy : Option Command → (ℕ → Type 0) → Type 0
OnCopy (Some (Copy size)) P = P size
OnCopy (Some Catch) P = Unit {0}
OnCopy (Some Same) P = Unit {0}
OnCopy None P = Unit {0}

-- if the words ask for catching up, this holds
abbrev pub OnCatch : Option Command → Type 0 → Type 0
OnCatch (Some Catch) P = P
OnCatch (Some (Copy size)) P = Unit {0}
OnCatch (Some Same) P = Unit {0}
OnCatch None P = Unit {0}

-- if the words ask for comparing, this holds
abbrev pub OnSame : Option Command → Type 0 → Type 0
OnSame (Some Same) P = P
OnSame (Some (Copy size)) P = Unit {0}
OnSame (Some Catch) P = Unit {0}
OnSame None P = Unit {0}

-- if these words ask for a copy, this is what two outsides count and tell of it
abbrev pub Copied : {F T Z : Type 0} → List (String Z) → (T → ℕ) → (F → Faults) → (T → Faults) → (F → Option World) → (T → Option World) → F → F → T → T → ℕ → Type 0
Copied words extent faults other_faults told other_told from from' to to' status =
    OnCopy (command_in words) (λ size. Ended status (CopyDoneOn size extent faults other_faults told other_told from from' to to'))

-- if they ask for catching up
abbrev pub Caught : {F T Z : Type 0} → List (String Z) → (F → Faults) → (T → Faults) → (F → Option World) → (T → Option World) → F → F → T → T → ℕ → Type 0
Caught words faults other_faults told other_told from from' to to' status =
    OnCatch (command_in words) (Ended status (CatchDoneOn faults other_faults told other_told from from' to to'))

-- if they ask for comparing
abbrev pub Compared : {F T Z : Type 0} → List (String Z) → (F → Faults) → (T → Faults) → (F → Option World) → (T → Option World) → F → F → T → T → ℕ → Type 0
Compared words faults other_faults told other_told from from' to to' status =
    OnSame (command_in words) (Ended status (SameDoneOn faults other_faults told other_told from from' to to'))

-- If a second device has another size, nothing was done at all. At 4, 7 and 9 nothing was written on it.
pub record LeavesOther {F T : Type 0} (size extent : ℕ) (a b : F) (c d : T) (status : ℕ) : Type 0 where
  pub unopened : (extent ≡ size → ⊥) → (b ≡ a) × (d ≡ c)
  pub unwritten : (status ≡ BAD_DEVICE) ⊎ ((status ≡ NO_ROOM) ⊎ (status ≡ OUT_OF_MEMORY)) → d ≡ c
