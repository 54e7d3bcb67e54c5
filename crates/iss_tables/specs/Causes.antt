-- Why a call failed, from the state before it to the state after.
-- It is said while the disk is honest, of a connection whose tables are the archive's or can become it.
use Rattle.std.specs.Prelude.{◌≡◌, ◌⊎◌, ◌≤◌, ℤ, pos, Bool, true, false, List, [], ◌∷◌, map, filter, Result, IfOk, IfErr, OnOk, IsSome, IsTrue}
use Rattle.std.specs.List.{list_all}
use Rattle.sqlite_disk.specs.Disk.{MoreFaults}
use Rattle.sqlite_trees.specs.View.{IsStorableRow, is_int}
use Rattle.sqlite_rules.specs.Lists.{Has}
use Rattle.sqlite_schema.specs.Rules.{table_reals}
use Rattle.sqlite_schema.specs.declared.schema.Constraint.TheVariants.{PrimaryKey}
use Rattle.sqlite.specs.declared.error.ErrorCode.TheVariants as code
use Rattle.sqlite.specs.declared.error.Error.{Error}
use Rattle.sqlite.specs.declared.error.Error.TheVariants.{SqliteFailure}
use Rattle.sqlite.specs.Order.{Row}
use Rattle.sqlite.specs.Tree.{Trees, rowid, has_rowid}
use Rattle.sqlite.specs.Edit.{are_fresh}
use Rattle.sqlite.specs.State.{State, HasCleanDisk, is_disk_error}
use Rattle.iss_tables.specs.declared.adding.PostColumns.{PostColumns}
use Rattle.iss_tables.specs.declared.adding.HeadColumns.{HeadColumns}
use Rattle.iss_tables.specs.Tables.{no_schema, head_schema, head_table, post_table}
use Rattle.iss_tables.specs.Rows.{Columns, columns_of, stored}
use Rattle.iss_tables.specs.Steps.{AreInHead, row_of_head}
use Rattle.iss_tables.specs.Calls.{IsOurs, HasNoneAbove}

-- a call on the disk failed, found damage or found no room, and was counted
pub record FailsByDisk (old new : State) (e : Error) : Type 0 where
  pub named : IsTrue (is_disk_error e)
  pub counted : MoreFaults old.faults new.faults

-- the store failed: memory ran out, or the disk failed, or an earlier failure had shut the connection
abbrev pub FailsByStore : State → State → Error → Type 0
FailsByStore old new e =
    (e ≡ SqliteFailure code.OutOfMemory)
    ⊎ (FailsByDisk old new e ⊎ ((e ≡ SqliteFailure code.Closed) × (old.is_open ≡ false)))

-- a limit on steps is set, and was met
abbrev pub MeetsLimit : State → Error → Type 0
MeetsLimit s e = (e ≡ SqliteFailure code.OperationInterrupted) × IsSome s.step_limit

-- a question has no answer: the store failed, or the limit was met
abbrev pub FailsToAsk : State → State → Error → Type 0
FailsToAsk old new e = FailsByStore old new e ⊎ MeetsLimit old e

-- why a question to our tables has no answer
abbrev pub AskCause : {T : Type 0} → Result T Error → State → State → Type 0
AskCause result old new = HasCleanDisk new → IsOurs old → IfErr result (FailsToAsk old new)

-- the rows are a head, or none
abbrev pub AreHead : List Row → Type 0
AreHead [] = Unit {0}
AreHead (row ∷ []) = (head : HeadColumns) × AreInHead head row
AreHead (row ∷ more ∷ rows) = ⊥

-- the rows with the key of the head are a head, or there is none
abbrev pub HoldsHead : Trees → Type 0
HoldsHead trees = AreHead (filter (has_rowid (pos 1)) (trees 0))

-- why the head isn't told: the question has no answer, or the table holds something else
abbrev pub HeadCause : {T : Type 0} → Result T Error → State → State → Type 0
HeadCause result old new =
    HasCleanDisk new → IsOurs old → IfErr result (λ e. FailsToAsk old new e ⊎ (¬ HoldsHead old.now.trees))

-- the tables are the archive's, or nothing was made yet, or the table of the head alone
abbrev pub CanBeOurs : State → Type 0
CanBeOurs s = IsOurs s ⊎ ((s.now.schema ≡ no_schema) ⊎ (s.now.schema ≡ head_schema))

-- why the tables weren't made: the store failed
abbrev pub MakeCause : {T : Type 0} → Result T Error → State → State → Type 0
MakeCause result old new = HasCleanDisk new → CanBeOurs old → IfErr result (FailsByStore old new)

-- the same of the table of the postings, which is made after that of the head
abbrev pub MakePostCause : {T : Type 0} → Result T Error → State → State → Type 0
MakePostCause result old new =
    HasCleanDisk new → IsOurs old ⊎ (old.now.schema ≡ head_schema) → IfErr result (FailsByStore old new)

-- a call that was done: the connection is open, no failure was forgotten, and its limit and its mode are as they were
pub record IsDone (old new : State) : Type 0 where
  pub is_open : IsTrue new.is_open
  pub counted : old.faults ≤ new.faults
  pub limit : new.step_limit ≡ old.step_limit
  pub mode : new.in_transaction ≡ old.in_transaction

-- so is the making of tables
abbrev pub DoneMaking : {T : Type 0} → Result T Error → State → State → Type 0
DoneMaking result old new = HasCleanDisk new → CanBeOurs old → OnOk result (IsDone old new)

-- the same of the table of the postings, which is made after that of the head
abbrev pub DoneMakingPost : {T : Type 0} → Result T Error → State → State → Type 0
DoneMakingPost result old new =
    HasCleanDisk new → IsOurs old ⊎ (old.now.schema ≡ head_schema) → OnOk result (IsDone old new)

-- a question that was answered changed nothing
pub record IsAnswered (old new : State) : Type 0 where
  pub done : IsDone old new
  pub now : new.now ≡ old.now

-- so is a question to our tables
abbrev pub DoneAsking : {T E : Type 0} → Result T E → State → State → Type 0
DoneAsking result old new = HasCleanDisk new → IsOurs old → OnOk result (IsAnswered old new)

-- if it wasn't found that no posting has a number above this, some posting has one
abbrev pub FindsSomeAbove : {E : Type 0} → ℤ → Result Bool E → State → State → Type 0
FindsSomeAbove most result old new =
    HasCleanDisk new → IfOk result (λ none. IsOurs old → none ≡ false → ¬ HasNoneAbove most old.now.trees)

-- a row of the postings is too long to be stored
abbrev pub IsTooLong : Row → Type 0
IsTooLong row = ¬ IsStorableRow (table_reals post_table) row

-- the number of a posting is taken
abbrev pub IsTaken : List Row → Trees → Error → Type 0
IsTaken rows trees e =
    (e ≡ SqliteFailure (code.ConstraintViolation PrimaryKey)) × (are_fresh (trees 1) rows ≡ false)

-- why a posting wasn't put: the store failed, or it is too long, or its number is taken, or the limit was met
abbrev pub FailsToPut : Columns → State → State → Error → Type 0
FailsToPut c old new e =
    FailsToAsk old new e
    ⊎ (((e ≡ SqliteFailure code.TooBig) × IsTooLong (stored c)) ⊎ IsTaken (stored c ∷ []) old.now.trees e)

-- the same, if the call failed in a transaction
abbrev pub PutCause : {T : Type 0} → PostColumns → Result T Error → State → State → Type 0
PutCause row result old new =
    HasCleanDisk new → IsOurs old → IsTrue old.in_transaction → IfErr result (FailsToPut (columns_of row) old new)

-- the rows that these postings are stored as
abbrev pub rows_of : List PostColumns → List Row
rows_of rows = map stored (map columns_of rows)

-- one of the rows is too long to be stored
abbrev pub HasTooLong : List Row → Type 0
HasTooLong rows = (row : Row) × Has rows row × IsTooLong row

-- why the postings weren't put: the store failed, or one is too long, or a number is taken or given twice, or the limit was met
abbrev pub FailsToPutAll : List PostColumns → State → State → Error → Type 0
FailsToPutAll rows old new e =
    FailsToAsk old new e
    ⊎ (((e ≡ SqliteFailure code.TooBig) × HasTooLong (rows_of rows)) ⊎ IsTaken (rows_of rows) old.now.trees e)

-- the same, if the call failed in a transaction
abbrev pub PutAllCause : {T : Type 0} → List PostColumns → Result T Error → State → State → Type 0
PutAllCause rows result old new =
    HasCleanDisk new → IsOurs old → IsTrue old.in_transaction → IfErr result (FailsToPutAll rows old new)

-- the row of the head is too long to be stored
abbrev pub IsLongHead : HeadColumns → Type 0
IsLongHead head = ¬ IsStorableRow (table_reals head_table) (row_of_head head)

-- some key of the table of the head is no number, so it isn't the archive's
abbrev pub HasOddKey : Trees → Type 0
HasOddKey trees = ¬ (list_all (λ r. is_int (rowid r)) (trees 0) ≡ true)

-- why the head wasn't set: the store failed, or it is too long, or its table isn't the archive's, or the limit was met
abbrev pub FailsToSet : HeadColumns → State → State → Error → Type 0
FailsToSet head old new e =
    FailsToAsk old new e
    ⊎ (((e ≡ SqliteFailure code.TooBig) × IsLongHead head)
    ⊎ ((e ≡ SqliteFailure (code.ConstraintViolation PrimaryKey)) × HasOddKey old.now.trees))

-- the same, if the call failed in a transaction
abbrev pub SetCause : {T : Type 0} → HeadColumns → Result T Error → State → State → Type 0
SetCause head result old new =
    HasCleanDisk new → IsOurs old → IsTrue old.in_transaction → IfErr result (FailsToSet head old new)

-- why a record wasn't added: its postings weren't put, or its head wasn't set
abbrev pub FailsToAdd : List PostColumns → HeadColumns → State → State → Error → Type 0
FailsToAdd rows head old new e = FailsToPutAll rows old new e ⊎ FailsToSet head old new e

-- the same of a call that failed
abbrev pub AddCause : {T : Type 0} → List PostColumns → HeadColumns → Result T Error → State → State → Type 0
AddCause rows head result old new = HasCleanDisk new → IsOurs old → IfErr result (FailsToAdd rows head old new)
