-- What each call does to the connection, from the state before it to the state after.
-- What is said of values is said while the disk is honest.
use Rattle.std.specs.Prelude.{◌≡◌, ℤ, Bool, true, false, List, map, Option, Result, IfOk, OnOk, OnErr, IsTrue, Vec}
use Rattle.std.specs.Global.{Global}
use Rattle.std.specs.List.{list_all}
use Rattle.sqlite.specs.declared.error.Error.{Error}
use Rattle.sqlite.specs.Order.{Row}
use Rattle.sqlite.specs.Tree.{Trees}
use Rattle.sqlite.specs.Effect.{Database}
use Rattle.sqlite.specs.State.{State, HasCleanDisk, KeepsCommit, Survives}
use Rattle.iss_tables.specs.declared.adding.HeadColumns.{HeadColumns}
use Rattle.iss_tables.specs.declared.adding.PostColumns.{PostColumns}
use Rattle.iss_tables.specs.declared.asking.UserColumns.{UserColumns}
use Rattle.iss_tables.specs.Tables.{no_schema, head_schema, archive_schema}
use Rattle.iss_tables.specs.Rows.{columns_of}
use Rattle.iss_tables.specs.Steps.{PutsPost, PutsPosts, PutsHead, AddsAll, AddsPosts, HasHeadAlone, IsMadeOf, IsHeadRow, row_of_head, head_row, is_at_most}
use Rattle.iss_tables.specs.Queries.{ShowsHeadOf, ShowsPostsOf, ShowsAboveOf}

-- both tables are there, and nothing else
abbrev pub IsOurs : State → Type 0
IsOurs s = s.now.schema ≡ archive_schema

-- nothing was committed
abbrev pub Keeps : State → State → Type 0
Keeps old new = HasCleanDisk new → KeepsCommit old new

-- nothing was committed, if the tables are ours
abbrev pub KeepsOurs : State → State → Type 0
KeepsOurs old new = HasCleanDisk new → IsOurs old → KeepsCommit old new

-- the connection wasn't opened
abbrev pub KeepsOpen : State → State → Type 0
KeepsOpen old new = HasCleanDisk new → IsTrue new.is_open → IsTrue old.is_open

-- a stop leaves what it left before, if the tables are ours
abbrev pub SurvivesOurs : State → State → Type 0
SurvivesOurs old new = IsOurs old → Survives old new (λ _. ⊥)

-- a posting was put
abbrev pub HasPutPost : {T E : Type 0} → PostColumns → Result T E → State → State → Type 0
HasPutPost row result old new = HasCleanDisk new → OnOk result (IsOurs old → PutsPost (columns_of row) old.now new.now)

-- postings were put
abbrev pub HasPutPosts : {T E : Type 0} → List PostColumns → Result T E → State → State → Type 0
HasPutPosts rows result old new = HasCleanDisk new → OnOk result (IsOurs old → PutsPosts (map columns_of rows) old.now new.now)

-- the head was set
abbrev pub HasSetHead : {T E : Type 0} → HeadColumns → Result T E → State → State → Type 0
HasSetHead head result old new = HasCleanDisk new → OnOk result (IsOurs old → PutsHead (row_of_head head) old.now new.now)

-- a transaction that was one still is
abbrev pub StaysInside : {T E : Type 0} → Result T E → State → State → Type 0
StaysInside result old new = HasCleanDisk new → IsTrue old.in_transaction → OnOk result (IsTrue new.in_transaction)

-- the connection isn't shut, if it wasn't before
abbrev pub StaysOpen : {T E : Type 0} → Result T E → State → State → Type 0
StaysOpen result old new = HasCleanDisk new → IsOurs old → OnOk result (new.is_open ≡ false → old.is_open ≡ false)

-- all postings were put, and the head was set
abbrev pub HasAdded : {T E : Type 0} → List PostColumns → HeadColumns → Result T E → State → State → Type 0
HasAdded rows head result old new =
    HasCleanDisk new → OnOk result (IsOurs old → AddsAll (map columns_of rows) head old.now new.now)

-- all that was written is committed, and the connection was open and is
pub record IsCommitted (old new : State) : Type 0 where
  pub was_open : IsTrue old.is_open
  pub is_open : IsTrue new.is_open
  pub committed : new.committed ≡ new.now

-- nothing was written: what was committed before is what is there, unless the connection is shut
pub record HasUndone (old new : State) : Type 0 where
  pub was_open : IsTrue new.is_open → IsTrue old.is_open
  pub now : IsTrue new.is_open → new.now ≡ old.committed
  pub committed : IsTrue new.is_open → new.committed ≡ old.committed

-- it was committed, if the call says so
abbrev pub HasCommitted : {T E : Type 0} → Result T E → State → State → Type 0
HasCommitted result old new = HasCleanDisk new → OnOk result (IsCommitted old new)

-- nothing was written, if the call says so
abbrev pub HasFailed : {T E : Type 0} → Result T E → State → State → Type 0
HasFailed result old new = HasCleanDisk new → OnErr result (HasUndone old new)

-- these are the trees of an open connection with all of it added to what was there
abbrev pub IsAllAdded : List PostColumns → HeadColumns → State → Database → Trees → Type 0
IsAllAdded rows head s from trees =
    IsTrue s.is_open × (db : Database) × AddsAll (map columns_of rows) head from db × (trees ≡ db.trees)

-- a stop leaves what it left before, or all of it added to an open connection
abbrev pub SurvivesAdding : List PostColumns → HeadColumns → State → State → Type 0
SurvivesAdding rows head old new =
    IsOurs old → Survives old new (IsAllAdded rows head old old.now)

-- the table of the head was made alone, if nothing was there
abbrev pub MakesHead : {T E : Type 0} → Result T E → State → State → Type 0
MakesHead result old new = HasCleanDisk new → OnOk result (old.now.schema ≡ no_schema → HasHeadAlone new.now)

-- the table of the postings was made, if that of the head stood alone
abbrev pub MakesPosts : {T E : Type 0} → Result T E → State → State → Type 0
MakesPosts result old new = HasCleanDisk new → OnOk result (old.now.schema ≡ head_schema → AddsPosts old.now new.now)

-- those were made that weren't there
abbrev pub MakesTables : {T E : Type 0} → Result T E → State → State → Type 0
MakesTables result old new = HasCleanDisk new → OnOk result (IsMadeOf old.now new.now)

-- the table of the head was left alone, if it stood alone
abbrev pub LeavesHead : {T E : Type 0} → Result T E → State → State → Type 0
LeavesHead result old new = HasCleanDisk new → OnOk result (old.now.schema ≡ head_schema → new.now ≡ old.now)

-- if both tables are there, nothing was done
abbrev pub LeavesOurs : {T E : Type 0} → Result T E → State → State → Type 0
LeavesOurs result old new = HasCleanDisk new → OnOk result (IsOurs old → new.now ≡ old.now)

-- the rows are the answer to the question for the head
abbrev pub ShowsHead : Result (Vec Row Global) Error → State → State → Type 0
ShowsHead result old new =
    HasCleanDisk new → IfOk result (λ rows. IsOurs old → ShowsHeadOf old.now.trees rows.items)

-- the rows are the answer to the question for a user's postings
abbrev pub ShowsPosts : UserColumns → Result (Vec Row Global) Error → State → State → Type 0
ShowsPosts account result old new =
    HasCleanDisk new → IfOk result (λ rows. IsOurs old → ShowsPostsOf account old.now.trees rows.items)

-- the head is that of its row
abbrev pub ReadsHead : {E : Type 0} → Result (Option HeadColumns) E → State → State → Type 0
ReadsHead result old new = HasCleanDisk new → IfOk result (λ head. IsOurs old → IsHeadRow head (head_row (old.now.trees 0)))

-- the rows are the answer to the question for numbers above this
abbrev pub ShowsAbove : ℤ → Result (Vec Row Global) Error → State → State → Type 0
ShowsAbove most result old new =
    HasCleanDisk new → IfOk result (λ rows. IsOurs old → ShowsAboveOf most old.now.trees rows.items)

-- no posting has a number above this
abbrev pub HasNoneAbove : ℤ → Trees → Type 0
HasNoneAbove most trees = list_all (is_at_most most) (trees 1) ≡ true

-- if so it was found, no posting has a number above this
abbrev pub FindsNoneAbove : {E : Type 0} → ℤ → Result Bool E → State → State → Type 0
FindsNoneAbove most result old new =
    HasCleanDisk new → IfOk result (λ none. IsOurs old → IsTrue none → HasNoneAbove most old.now.trees)

-- a stop leaves what was committed, while the connection is open
abbrev pub LeavesCommit : State → Type 0
LeavesCommit s = (db : Trees) → IsTrue s.is_open → s.may_leave db → db ≡ s.committed.trees

-- outside a transaction, what is shown is committed, while the connection is open
abbrev pub IsSettled : State → Type 0
IsSettled s = s.in_transaction ≡ false → IsTrue s.is_open → s.now ≡ s.committed
