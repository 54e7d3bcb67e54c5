-- The programs' clauses as what is said of runs of a device's life, and where runs end that ended by themselves.
use Rattle.std.specs.Prelude.{◌≡◌, ◌⊎◌, ℕ, [], List, ◌++◌, length, Option, Some, Result}
use Rattle.iss_edge.specs.declared.outside.Action.{Action}
use Rattle.iss_edge.specs.declared.outside.Answered.{Answered}
use Rattle.iss_edge.specs.declared.status.TheConstants.{DONE, OUTPUT_FAULT, DISK_FAULT, OUT_OF_MEMORY}
use Rattle.iss_edge.specs.World.{World, Faults}
use Rattle.iss_edge.specs.Disk.{Disk, after_actions}
use Rattle.iss_halves.specs.Forms.{Form, in_halves}
use Rattle.iss_model.specs.declared.input.Record.{Record}
use Rattle.iss_device.specs.Lives.{NoneFailed, Keeps, BeginsOn, LeavesCalm}
use Rattle.iss_top.specs.Commands.{ReplayDone, ReportDone, ServeDone}
use Rattle.iss_top.specs.FormatRuns.{FormatsDevice}
use Rattle.iss_follow_runs.specs.declared.stop.Stop.{Stop}
use Rattle.iss_follow_runs.specs.Statuses.{exit_status}
use Rattle.iss_follow_runs.specs.Moments.{EndsKept}
use Rattle.iss_follow_copy.specs.Copies.{CopyMade}
use Rattle.iss_follow_copy.specs.Copying.{CopyDone}
use Rattle.iss_follow_same.specs.Comparing.{SameDone}
use Rattle.iss_follow_catch.specs.Catching.{CatchDone}
use Rattle.iss_lives.specs.Says.{IsRun}

-- What the clauses of `run` and `follow` say is what is said of a run. That of `archive` is so as it stands (`TellsMoments`).
pub record ClausesAreRuns : Type 0 where
  pub replay : (before now : Faults) (a b : World) (h k : Option (List Answered)) (status : ℕ) → ReplayDone before now (Some a) (Some b) h k status → IsRun a b
  pub balances : (before now : Faults) (a b : World) (status : ℕ) → ReportDone before now (Some a) (Some b) status → IsRun a b
  pub serve : (turns : ℕ) (before now : Faults) (a b : World) (h k : List Answered) (status : ℕ) → ServeDone turns before now (Some a) (Some b) (Some h) (Some k) status → IsRun a b
  pub copy_from : (size extent : ℕ) (before now other_before other_now : Faults) (a b : World) (z w : Option World) (result : Result (Unit {0}) Stop)
      → CopyDone size extent before now other_before other_now (Some a) (Some b) z w result → IsRun a b
  pub catch_from : (before now other_before other_now : Faults) (a b : World) (z w : Option World) (result : Result (Unit {0}) Stop)
      → CatchDone before now other_before other_now (Some a) (Some b) z w result → IsRun a b
  pub catch_to : (before now other_before other_now : Faults) (c d : World) (x y : Option World) (result : Result (Unit {0}) Stop)
      → CatchDone before now other_before other_now x y (Some c) (Some d) result → IsRun c d
  pub same_from : (before now other_before other_now : Faults) (a b : World) (z w : Option World) (result : Result (Unit {0}) Stop)
      → SameDone before now other_before other_now (Some a) (Some b) z w result → IsRun a b
  pub same_to : (before now other_before other_now : Faults) (c d : World) (x y : Option World) (result : Result (Unit {0}) Stop)
      → SameDone before now other_before other_now x y (Some c) (Some d) result → IsRun c d

-- on a device that keeps what was told of, such a run left no write failed, and the device reads as it was left
abbrev pub EndsCalm : World → World → Type 0
EndsCalm a b =
    (form : Form) (told rs : List Record) (d : Disk) → NoneFailed d → BeginsOn form told rs d a.device → (actions : List Action) → b.trace ≡ a.trace ++ actions → LeavesCalm actions d b

-- It did so if it ended by itself with another status than 6.
pub record RunsEndCalm : Type 0 where
  pub replay : (before now : Faults) (a b : World) (h k : Option (List Answered)) (status : ℕ) → ReplayDone before now (Some a) (Some b) h k status → (status ≡ DISK_FAULT → ⊥) → EndsCalm a b
  pub balances : (before now : Faults) (a b : World) (status : ℕ) → ReportDone before now (Some a) (Some b) status → (status ≡ DONE) ⊎ ((status ≡ OUTPUT_FAULT) ⊎ (status ≡ OUT_OF_MEMORY)) → EndsCalm a b
  pub serve : (turns : ℕ) (before now : Faults) (a b : World) (h k : List Answered) (status : ℕ) → ServeDone turns before now (Some a) (Some b) (Some h) (Some k) status → (status ≡ DISK_FAULT → ⊥) → EndsCalm a b
  pub copy_from : (size extent : ℕ) (before now other_before other_now : Faults) (a b : World) (z w : Option World) (result : Result (Unit {0}) Stop)
      → CopyDone size extent before now other_before other_now (Some a) (Some b) z w result → (exit_status result ≡ DISK_FAULT → ⊥) → EndsCalm a b
  pub catch_from : (before now other_before other_now : Faults) (a b : World) (z w : Option World) (result : Result (Unit {0}) Stop)
      → CatchDone before now other_before other_now (Some a) (Some b) z w result → (exit_status result ≡ DISK_FAULT → ⊥) → EndsCalm a b
  pub catch_to : (before now other_before other_now : Faults) (c d : World) (x y : Option World) (result : Result (Unit {0}) Stop)
      → CatchDone before now other_before other_now x y (Some c) (Some d) result → (exit_status result ≡ DISK_FAULT → ⊥) → EndsCalm c d
  pub same_from : (before now other_before other_now : Faults) (a b : World) (z w : Option World) (result : Result (Unit {0}) Stop)
      → SameDone before now other_before other_now (Some a) (Some b) z w result → (exit_status result ≡ DISK_FAULT → ⊥) → EndsCalm a b
  pub same_to : (before now other_before other_now : Faults) (c d : World) (x y : Option World) (result : Result (Unit {0}) Stop)
      → SameDone before now other_before other_now x y (Some c) (Some d) result → (exit_status result ≡ DISK_FAULT → ⊥) → EndsCalm c d
  -- that of `archive` says so as it stands
  pub archive : (a b : World) → EndsKept a b → EndsCalm a b

-- A device that was formatted, or made a copy, keeps no records, or those of the other: if no write on it was left failed before.
pub record MadeDevicesKeepRecords : Type 0 where
  pub formatted : (instance : ℕ) (a b : World) (d : Disk) (actions : List Action) → FormatsDevice instance a b → NoneFailed d → d.bytes ≡ a.device → b.trace ≡ a.trace ++ actions
      → Keeps (in_halves instance (length a.device)) [] (after_actions d actions)
  pub copied : (instance : ℕ) (rs : List Record) (a b : World) (d : Disk) (actions : List Action) → CopyMade instance rs a b → NoneFailed d → d.bytes ≡ a.device → b.trace ≡ a.trace ++ actions
      → Keeps (in_halves instance (length a.device)) rs (after_actions d actions)
