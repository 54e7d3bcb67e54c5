-- Why a database isn't taken for an archive, while the disk is honest.
use Rattle.std.specs.Prelude.{◌≡◌, ◌≢◌, ◌⊎◌, ◌<◌, ◌^◌, ℕ, ℤ, pos, Bool, false, List, [], ◌∷◌, filter, Option, Some, None, Result, Ok, Err, IfOk, IfErr, IfSome, IsSomeAnd, OnOk, IsSome, IsTrue}
use Rattle.sqlite_disk.specs.Disk.{MoreFaults}
use Rattle.sqlite.specs.declared.error.Error.{Error}
use Rattle.sqlite.specs.declared.error.Error.TheVariants.{SqliteFailure}
use Rattle.sqlite.specs.declared.error.ErrorCode.TheVariants as code
use Rattle.sqlite.specs.declared.types.Value.TheVariants.{Int}
use Rattle.sqlite.specs.Order.{Row, column}
use Rattle.sqlite.specs.Tree.{Trees, has_rowid}
use Rattle.sqlite.specs.State.{State, HasCleanDisk}
use Rattle.iss_archive.specs.declared.post.Head.{Head}
use Rattle.iss_archive.specs.declared.post.KeepFault.{KeepFault}
use Rattle.iss_archive.specs.declared.post.KeepFault.TheVariants as fault
use Rattle.iss_tables.specs.declared.adding.HeadColumns.{HeadColumns}
use Rattle.iss_tables.specs.Tables.{head_schema}
use Rattle.iss_tables.specs.Calls.{HasNoneAbove, IsOurs}
use Rattle.iss_tables.specs.Causes.{CanBeOurs, IsDone}
use Rattle.iss_sql_keeper.specs.Given.{AreHeadColumnsOf}
use Rattle.iss_sql_keeper.specs.Shown.{IsArchive}

-- the row is a head: its count of records fits in 32 bits, and that of its postings in a column
pub record IsStoredHead (head : Head) (row : Row) : Type 0 where
  pub instance : column row 2 ≡ Int (pos head.instance)
  pub records : column row 3 ≡ Int (pos head.records)
  pub posts : column row 4 ≡ Int (pos head.posts)
  pub few : head.records < 2 ^ 32
  pub fits : head.posts < 2 ^ 63

-- the rows are a head, or none
abbrev pub AreStoredHead : List Row → Type 0
AreStoredHead [] = Unit {0}
AreStoredHead (row ∷ []) = (head : Head) × IsStoredHead head row
AreStoredHead (row ∷ more ∷ rows) = ⊥

-- the table of the head holds a head, or none
abbrev pub HoldsStoredHead : Trees → Type 0
HoldsStoredHead trees = AreStoredHead (filter (has_rowid (pos 1)) (trees 0))

-- the tables hold an archive: a head or none, and no posting has a number above its count
pub record HoldArchive (trees : Trees) : Type 0 where
  pub head : HoldsStoredHead trees
  pub posts : IsArchive trees

-- both tables hold an archive, or that of the head, if it stands alone, holds a head or none
pub record IsArchiveIn (s : State) : Type 0 where
  pub ours : IsOurs s → HoldArchive s.now.trees
  pub half : s.now.schema ≡ head_schema → HoldsStoredHead s.now.trees

-- the database couldn't be asked: a call on the disk failed and was counted, or the connection was shut, or it had a limit on
-- steps, or a transaction was under way
abbrev pub CantBeAsked : State → State → Type 0
CantBeAsked old new =
    MoreFaults old.faults new.faults ⊎ ((old.is_open ≡ false) ⊎ (IsSome old.step_limit ⊎ IsTrue old.in_transaction))

-- a database whose tables are the archive's or can become it, and hold one, is refused only if it couldn't be asked
abbrev pub WhyRefused : State → State → Type 0
WhyRefused old new = HasCleanDisk new → CanBeOurs old → IsArchiveIn old → CantBeAsked old new

-- a keeper has no database only if it was given none, or one that was refused, whose connection it keeps
abbrev pub IsRefusedFor : {S : Type 0} → (S → State) → Option S → Option S → Option S → Type 0
IsRefusedFor shown conn (Some d) refused = Unit {0}
IsRefusedFor shown conn None refused = IfSome conn (λ c. IsSomeAnd refused (λ r. WhyRefused (shown c) (shown r)))

-- a call told a failure only of an error that isn't want of memory
abbrev pub NamesFailure : {T U : Type 0} → Result T Error → Result U KeepFault → Type 0
NamesFailure (Ok x) r = Unit {0}
NamesFailure (Err e) r = r ≡ Err fault.Failed → e ≢ SqliteFailure code.OutOfMemory

-- the failure isn't want of memory
abbrev pub IsFailed : KeepFault → Type 0
IsFailed fault.Failed = Unit {0}
IsFailed fault.OutOfMemory = ⊥

-- a call failed only if the database couldn't be asked
abbrev pub FailsUnasked : {T : Type 0} → Result T KeepFault → State → State → Type 0
FailsUnasked result old new = IfErr result (λ e. IsFailed e → CantBeAsked old new)

-- a database wasn't taken only if it couldn't be asked
abbrev pub RefusesUnasked : Result Bool KeepFault → State → State → Type 0
RefusesUnasked result old new = IfOk result (λ taken. taken ≡ false → CantBeAsked old new)

-- a call that made tables failed only if the database couldn't be asked
abbrev pub MakesUnlessUnasked : {T : Type 0} → Result T KeepFault → State → State → Type 0
MakesUnlessUnasked result old new = HasCleanDisk new → CanBeOurs old → FailsUnasked result old new

-- a call that made tables was done
abbrev pub HasMade : {T : Type 0} → Result T KeepFault → State → State → Type 0
HasMade result old new = HasCleanDisk new → CanBeOurs old → OnOk result (IsDone old new)

-- a question to our tables failed only if the database couldn't be asked
abbrev pub AsksUnlessUnasked : {T : Type 0} → Result T KeepFault → State → State → Type 0
AsksUnlessUnasked result old new = HasCleanDisk new → IsOurs old → FailsUnasked result old new

-- the columns are those of no head
abbrev pub IsOddHead : HeadColumns → Type 0
IsOddHead columns = (head : Head) → AreHeadColumnsOf head columns → head.records < 2 ^ 32 → ⊥

-- if the tables are ours and no posting is above this number, they weren't taken only if the database couldn't be asked
abbrev pub NoneAboveUnlessUnasked : ℤ → Result Bool KeepFault → State → State → Type 0
NoneAboveUnlessUnasked most result old new = HasCleanDisk new → IsOurs old → HasNoneAbove most old.now.trees → RefusesUnasked result old new

-- if the tables are ours and no posting is above this many, which a column can hold, they weren't taken only if the database couldn't be asked
abbrev pub CountedUnlessUnasked : ℕ → Result Bool KeepFault → State → State → Type 0
CountedUnlessUnasked posts result old new =
    HasCleanDisk new → IsOurs old → posts < 2 ^ 63 → HasNoneAbove (pos posts) old.now.trees → RefusesUnasked result old new

-- if the tables are ours and hold an archive, they weren't taken only if the database couldn't be asked
abbrev pub TakenUnlessUnasked : Result Bool KeepFault → State → State → Type 0
TakenUnlessUnasked result old new =
    HoldsStoredHead old.now.trees → HasCleanDisk new → IsOurs old → IsArchive old.now.trees → RefusesUnasked result old new

-- if the table of the head holds a head or none, a question failed only if the database couldn't be asked
abbrev pub HeadUnlessUnasked : {T : Type 0} → Result T KeepFault → State → State → Type 0
HeadUnlessUnasked result old new = HoldsStoredHead old.now.trees → AsksUnlessUnasked result old new

-- if the tables are ours or can become it, and hold an archive, they weren't taken only if the database couldn't be asked
abbrev pub PreparedUnlessUnasked : Result Bool KeepFault → State → State → Type 0
PreparedUnlessUnasked result old new = HasCleanDisk new → CanBeOurs old → IsArchiveIn old → RefusesUnasked result old new

-- and a call failed only then
abbrev pub FailedUnlessUnasked : Result Bool KeepFault → State → State → Type 0
FailedUnlessUnasked result old new = HasCleanDisk new → CanBeOurs old → IsArchiveIn old → FailsUnasked result old new

-- an open database holds just what was committed
abbrev pub IsSettled : State → Type 0
IsSettled s = IsTrue s.is_open → s.now ≡ s.committed
