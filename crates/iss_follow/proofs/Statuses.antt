-- The status of a run, by what ended it.
use Rattle.std.proofs.Common.{◌≡◌, ℕ, inl, inr, Ok, Err, Some, None, refl}
use Rattle.std.specs.Prelude.{◌⊎◌, ◌==◌, Result, IsTrue}
use Rattle.std.specs.List.{list_any}
use Rattle.iss_edge.specs.World.{Faults, Rose}
use Rattle.iss_follow_runs.specs.declared.stop.Stop.{Stop}
use Rattle.iss_follow_runs.specs.declared.stop.Stop.TheVariants.{Device, Output, Disk, Memory, NoRoom, NotBehind}
use Rattle.iss_follow_runs.specs.Statuses.{exit_status}
use Rattle.iss_follow_runs.specs.Causes.{IsCaused}
use Rattle.iss_follow_copy.specs.Copying.{EndsAsCopy, WhereUnwritten}
use Rattle.iss_follow_same.specs.Comparing.{EndsAsSame}
use Rattle.iss_follow_catch.specs.Catching.{EndsAsCatch}
use Rattle.iss_follow.specs.declared.words.Command.{Command}
use Rattle.iss_follow.specs.declared.words.Command.TheVariants.{Copy, Catch, Same}
use Rattle.iss_follow.specs.Following.{statuses, StatusOf, Ended, LeavesOther}

pub ended : (P : Result (Unit {0}) Stop → Type 0) (result : Result (Unit {0}) Stop) → P result → Ended (exit_status result) P
ended P result holds = record { result = result; status_is = refl; holds = holds }

module _ {F T : Type 0} (a b : F) (c d : T) (before now other_before other_now : Faults) where
  -- what an end has for its cause
  output_rose : (result : Result (Unit {0}) Stop) → IsCaused before now other_before other_now result → exit_status result ≡ 5 → Rose before.output now.output
  output_rose (Ok tt) caused e = absurd cc
  output_rose (Err Device) caused e = absurd cc
  output_rose (Err Output) caused e = caused.output refl
  output_rose (Err Disk) caused e = absurd cc
  output_rose (Err Memory) caused e = absurd cc
  output_rose (Err NoRoom) caused e = absurd cc
  output_rose (Err NotBehind) caused e = absurd cc

  disk_rose : (result : Result (Unit {0}) Stop) → IsCaused before now other_before other_now result → exit_status result ≡ 6 → Rose before.disk now.disk ⊎ Rose other_before.disk other_now.disk
  disk_rose (Ok tt) caused e = absurd cc
  disk_rose (Err Device) caused e = absurd cc
  disk_rose (Err Output) caused e = absurd cc
  disk_rose (Err Disk) caused e = caused.disk refl
  disk_rose (Err Memory) caused e = absurd cc
  disk_rose (Err NoRoom) caused e = absurd cc
  disk_rose (Err NotBehind) caused e = absurd cc

  not_usage : (result : Result (Unit {0}) Stop) → exit_status result ≡ 2 → ⊥
  not_usage (Ok tt) e = absurd cc
  not_usage (Err Device) e = absurd cc
  not_usage (Err Output) e = absurd cc
  not_usage (Err Disk) e = absurd cc
  not_usage (Err Memory) e = absurd cc
  not_usage (Err NoRoom) e = absurd cc
  not_usage (Err NotBehind) e = absurd cc

  -- a status that is among those of the command
  status_so : (asked : Command) (result : Result (Unit {0}) Stop) → IsTrue (list_any (λ one. exit_status result == one) (statuses (Some asked))) → IsCaused before now other_before other_now result
      → StatusOf (Some asked) a b c d before now other_before other_now (exit_status result)
  status_so asked result known caused =
      record {
        known = known;
        usage = ((λ e. absurd (not_usage result e)), λ e. absurd cc);
        untouched = λ e. absurd (not_usage result e);
        output_fault = output_rose result caused;
        disk_fault = disk_rose result caused;
      }

  copy_known : (size : ℕ) (result : Result (Unit {0}) Stop) → EndsAsCopy result → IsTrue (list_any (λ one. exit_status result == one) (statuses (Some (Copy size))))
  copy_known size (Ok tt) kind = refl
  copy_known size (Err Device) kind = refl
  copy_known size (Err Disk) kind = refl
  copy_known size (Err Memory) kind = refl
  copy_known size (Err NoRoom) kind = refl
  copy_known size (Err Output) kind = absurd kind
  copy_known size (Err NotBehind) kind = absurd kind

  pub copy_status : (size : ℕ) (result : Result (Unit {0}) Stop) → EndsAsCopy result → IsCaused before now other_before other_now result → StatusOf (Some (Copy size)) a b c d before now other_before other_now (exit_status result)
  copy_status size result kind caused = status_so (Copy size) result (copy_known size result kind) caused

  catch_known : (result : Result (Unit {0}) Stop) → EndsAsCatch result → IsTrue (list_any (λ one. exit_status result == one) (statuses (Some Catch)))
  catch_known (Ok tt) kind = refl
  catch_known (Err Device) kind = refl
  catch_known (Err Disk) kind = refl
  catch_known (Err Memory) kind = refl
  catch_known (Err NoRoom) kind = refl
  catch_known (Err NotBehind) kind = refl
  catch_known (Err Output) kind = absurd kind

  pub catch_status : (result : Result (Unit {0}) Stop) → EndsAsCatch result → IsCaused before now other_before other_now result → StatusOf (Some Catch) a b c d before now other_before other_now (exit_status result)
  catch_status result kind caused = status_so Catch result (catch_known result kind) caused

  same_known : (result : Result (Unit {0}) Stop) → EndsAsSame result → IsTrue (list_any (λ one. exit_status result == one) (statuses (Some Same)))
  same_known (Ok tt) kind = refl
  same_known (Err Device) kind = refl
  same_known (Err Output) kind = refl
  same_known (Err Disk) kind = refl
  same_known (Err Memory) kind = refl
  same_known (Err NoRoom) kind = absurd kind
  same_known (Err NotBehind) kind = absurd kind

  pub same_status : (result : Result (Unit {0}) Stop) → EndsAsSame result → IsCaused before now other_before other_now result → StatusOf (Some Same) a b c d before now other_before other_now (exit_status result)
  same_status result kind caused = status_so Same result (same_known result kind) caused

  -- the words are no command
  pub no_command : StatusOf {F = F} {T = T} None a a c c before before other_before other_before 2
  no_command =
      record {
        known = refl;
        usage = ((λ e. refl), λ e. refl);
        untouched = λ e. (refl, refl);
        output_fault = λ e. absurd cc;
        disk_fault = λ e. absurd cc;
      }

  -- ---- what copying leaves of the second device

  pub copy_leaves : (size extent : ℕ) (result : Result (Unit {0}) Stop) → ((extent ≡ size → ⊥) → b ≡ a) → ((extent ≡ size → ⊥) → exit_status result ≡ 4) → WhereUnwritten result (d ≡ c) → LeavesOther size extent a b c d (exit_status result)
  copy_leaves size extent result unopened four unwritten =
      record {
        unopened = λ other. (unopened other, as_left result unwritten (inl (four other)));
        unwritten = as_left result unwritten;
      }
    where
      as_left : (result : Result (Unit {0}) Stop) → WhereUnwritten result (d ≡ c) → (exit_status result ≡ 4) ⊎ ((exit_status result ≡ 9) ⊎ (exit_status result ≡ 7)) → d ≡ c
      as_left (Ok tt) left e = absurd (elim e [ inl x ↦ cc | inr more ↦ elim more [ inl x ↦ cc | inr x ↦ cc ] ])
      as_left (Err Disk) left e = absurd (elim e [ inl x ↦ cc | inr more ↦ elim more [ inl x ↦ cc | inr x ↦ cc ] ])
      as_left (Err Device) left e = left
      as_left (Err Memory) left e = left
      as_left (Err NoRoom) left e = left
      as_left (Err Output) left e = left
      as_left (Err NotBehind) left e = left
