use Rattle.std.proofs.Common.{◌≡◌, ℕ, ◌≤◌, List, length, Option, IfSome}
use Rattle.iss_model.specs.declared.input.Record.{Record}
use Rattle.iss_archive.specs.declared.post.Head.{Head}
use Rattle.iss_archive.specs.Archived.{Archived, records_in}
use Rattle.iss_archive.specs.Runs.{LeavesFirst}
use Rattle.iss_archive.proofs.KeepingLaws.{HoldsUpTo}
use Rattle.iss_archive.proofs.archiving.keep_up.Given as goal

-- some records were passed, and as many or more are archived
pub record Keeping (instance : ℕ) (all rs : List Record) (device passed turn : ℕ) (head : Option Head) (was now : Option Archived) (before faults : ℕ) (left_was left_now : Archived → Type 0) : Type 0 where
  pub same : rs ≡ all
  pub device_same : device ≡ instance
  pub turns : turn ≤ passed
  pub passed_by : passed ≤ records_in head
  pub fits : records_in head ≤ length all
  pub alone : IfSome head (λ held. held.instance ≡ instance)
  pub head_is : IfSome now (λ a. a.head ≡ head)
  pub holds : HoldsUpTo instance all (records_in head) was now
  pub later : before ≤ faults
  pub leaves : LeavesFirst instance all was left_was left_now

abbrev pub invariant-records : goal.invariant-records
invariant-records g l =
    Keeping (g.S.Source.run l.fn.source).instance (g.S.Source.run l.fn.source).records (g.S.Source.run l.source).records (g.S.Source.run l.source).instance (g.S.Source.run l.source).passed l.counter l.head
    (g.K.Keeper.told l.fn.keeper) (g.K.Keeper.told l.keeper) (g.K.Keeper.faults l.fn.keeper) (g.K.Keeper.faults l.keeper) (g.K.Keeper.left l.fn.keeper) (g.K.Keeper.left l.keeper)
