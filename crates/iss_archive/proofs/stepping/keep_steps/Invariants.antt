use Rattle.std.proofs.Common.{◌≡◌, ℕ, ◌+◌, ◌≤◌, true, List, drop, length, Option, IfSome}
use Rattle.iss_model.specs.declared.input.Record.{Record}
use Rattle.iss_archive.specs.declared.post.Head.{Head}
use Rattle.iss_archive.specs.declared.source.Stepped.{Stepped}
use Rattle.iss_archive.specs.Archived.{Archived, Told, records_in}
use Rattle.iss_archive.specs.Runs.{LeavesFirst}
use Rattle.iss_archive.specs.Steps.{are_next, AreStepsOf}
use Rattle.iss_archive.proofs.KeepingLaws.{HoldsUpTo}
use Rattle.iss_archive.proofs.StepLaws.{Begun}
use Rattle.iss_archive.proofs.stepping.keep_steps.Given as goal

-- some records were gone through, and as many or more are archived
pub record Keeping (instance point index count : ℕ) (all : List Stepped) (head : Option Head) (was now : Option Archived) (before faults : ℕ) (left_was left_now : Archived → Type 0) : Type 0 where
  pub next : are_next (point + index) (drop index all) ≡ true
  pub made : (rs : List Record) → AreStepsOf rs point all → AreStepsOf rs (point + index) (drop index all)
  pub many : count ≡ point + length all
  pub passed_by : point + index ≤ records_in head
  pub fits : records_in head ≤ count
  pub alone : IfSome head (λ held. held.instance ≡ instance)
  pub head_is : IfSome now (λ a. a.head ≡ head)
  pub holds : (rs : List Record) → AreStepsOf rs point all → HoldsUpTo instance rs (records_in head) was now
  pub begun : Told (Begun instance point count head) was now
  pub later : before ≤ faults
  pub leaves : (rs : List Record) → AreStepsOf rs point all → LeavesFirst instance rs was left_was left_now

abbrev pub invariant-steps : goal.invariant-steps
invariant-steps g l =
    Keeping l.instance l.point l.stepped-index l.count l.steps l.head
    (g.K.Keeper.told l.fn.keeper) (g.K.Keeper.told l.keeper) (g.K.Keeper.faults l.fn.keeper) (g.K.Keeper.faults l.keeper) (g.K.Keeper.left l.fn.keeper) (g.K.Keeper.left l.keeper)
