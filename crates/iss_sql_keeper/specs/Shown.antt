-- What a connection to an archive tells, and what a stop leaves of it.
use Rattle.std.specs.Prelude.{◌≡◌, ◌⊎◌, ◌&&◌, ℕ, pos, false, List, map, Option, Some, None, Result, Ok, Err, IfOk, IsSomeAnd, IsTrue, OnOk, OnErr, Vec, if◌then◌else◌}
use Rattle.std.specs.Global.{Global}
use Rattle.sqlite.specs.Tree.{Trees}
use Rattle.sqlite.specs.State.{State, HasCleanDisk}
use Rattle.iss_model.specs.declared.currency.Currency.{Currency}
use Rattle.iss_archive.specs.declared.post.Head.{Head}
use Rattle.iss_archive.specs.declared.post.PostRow.{PostRow}
use Rattle.iss_archive.specs.Archived.{Archived, Adds, Gives, Same, Told, posts_in, rows_of_user}
use Rattle.iss_tables.specs.Calls.{HasNoneAbove, IsAllAdded, IsOurs}
use Rattle.iss_tables.specs.Steps.{AddsAll}
use Rattle.iss_tables.specs.Rows.{columns_of}
use Rattle.iss_tables.specs.declared.adding.PostColumns.{PostColumns}
use Rattle.iss_tables.specs.declared.adding.HeadColumns.{HeadColumns}
use Rattle.iss_sql_keeper.specs.Decoded.{archived_in}

-- no posting has a number above the head's count of them
abbrev pub IsArchive : Trees → Type 0
IsArchive trees = HasNoneAbove (pos (posts_in (archived_in trees).head)) trees

-- outside a transaction, and an archive while the disk is honest and the connection open
pub record IsKept (s : State) : Type 0 where
  pub autocommit : s.in_transaction ≡ false
  pub archive : HasCleanDisk s → IsTrue s.is_open → IsArchive s.committed.trees

-- a head that was given is the one that the tables had before the call, if they are ours
abbrev pub GivesHeadBefore : {E : Type 0} → Result (Option Head) E → State → State → Type 0
GivesHeadBefore result old new = HasCleanDisk new → IsOurs old → IfOk result (λ head. head ≡ (archived_in old.now.trees).head)

-- the same value, or an error for an error
abbrev pub Tells : {T E F : Type 0} → Result T E → Result T F → Type 0
Tells (Ok x) (Ok y) = y ≡ x
Tells (Ok x) (Err f) = ⊥
Tells (Err e) (Ok y) = ⊥
Tells (Err e) (Err f) = Unit {0}

-- nothing was committed
pub record Stays (old new : State) : Type 0 where
  pub was_open : HasCleanDisk new → IsTrue new.is_open → IsTrue old.is_open
  pub clean : HasCleanDisk new → HasCleanDisk old
  pub committed : HasCleanDisk new → IsTrue new.is_open → new.committed ≡ old.committed
  pub mode : old.in_transaction ≡ false → new.in_transaction ≡ false

-- a stop leaves nothing new
pub record LeavesNothingNew (old new : State) : Type 0 where
  pub before : HasCleanDisk new → (db : Trees) → new.may_leave db → old.may_leave db

-- a stop leaves what it left before, or the record added to an open connection
pub record LeavesAdded (rows : List PostColumns) (head : HeadColumns) (old new : State) : Type 0 where
  pub before : HasCleanDisk new → (db : Trees) → new.may_leave db
      → old.may_leave db ⊎ IsAllAdded rows head old old.committed db

-- the record was added to what was committed
pub record HasAddedTo (rows : List PostColumns) (head : HeadColumns) (old new : State) : Type 0 where
  pub was_open : IsTrue old.is_open
  pub adds : AddsAll (map columns_of rows) head old.committed new.committed

-- the record was added to what was committed, if the call says so
abbrev pub AddsTo : {T E : Type 0} → List PostColumns → HeadColumns → Result T E → State → State → Type 0
AddsTo rows head result old new = HasCleanDisk new → OnOk result (HasAddedTo rows head old new)

-- this holds of what is committed, while the disk is honest and the connection open
pub record Holds (s : State) (P : Trees → Type 0) : Type 0 where
  pub held : HasCleanDisk s → IsTrue s.is_open → P s.committed.trees

-- these are the user's postings in a currency, by what is committed
abbrev pub HoldsPosts : List ℕ → Currency → List PostRow → State → Type 0
HoldsPosts user currency rows s = Holds s (λ trees. rows ≡ rows_of_user user currency (archived_in trees).rows)

-- what was last committed, while the disk is honest and the connection open
abbrev pub told_in : State → Option Archived
told_in s = if s.is_open && s.is_clean then Some (archived_in s.committed.trees) else None

-- what a stop may leave, while the disk is honest
pub record LeftIn (s : State) (a : Archived) : Type 0 where
  pub clean : HasCleanDisk s
  pub db : Trees
  pub left : s.may_leave db
  pub is : a ≡ archived_in db

-- a keeper without an archive tells nothing
abbrev pub told_of : {S : Type 0} → (S → State) → Option S → Option Archived
told_of shown None = None
told_of shown (Some h) = told_in (shown h)

-- a stop may leave anything of a keeper without an archive
abbrev pub LeftOf : {S : Type 0} → (S → State) → Option S → Archived → Type 0
LeftOf shown None a = Unit {0}
LeftOf shown (Some h) a = LeftIn (shown h) a

-- what a call told, or changed of what is told, by its states before and after

-- a head that was given is the one that is told
abbrev pub TellsHead : {E : Type 0} → Result (Option Head) E → State → State → Type 0
TellsHead result old new = IfOk result (λ head. Told (λ a b. Same a b × (head ≡ b.head)) (told_in old) (told_in new))

-- postings that were given are those of the user that are told
abbrev pub TellsPosts : {E : Type 0} → List ℕ → Currency → Result (Vec PostRow Global) E → State → State → Type 0
TellsPosts user currency result old new = IfOk result (λ rows. Told (Gives user currency rows.items) (told_in old) (told_in new))

-- the record is added to what is told, if the call says so
abbrev pub TellsAdded : {T E : Type 0} → Head → List PostRow → Result T E → State → State → Type 0
TellsAdded head rows result old new = OnOk result (Told (Adds head rows) (told_in old) (told_in new))

-- the same is told, if the call failed
abbrev pub TellsSame : {T E : Type 0} → Result T E → State → State → Type 0
TellsSame result old new = OnErr result (Told Same (told_in old) (told_in new))

-- a stop leaves what it could leave before
abbrev pub LeavesSame : State → State → Type 0
LeavesSame old new = (a : Archived) → LeftIn new a → LeftIn old a

-- a stop leaves what it could leave before, or what was told with the record added
abbrev pub MayLeaveAdded : Head → List PostRow → State → State → Type 0
MayLeaveAdded head rows old new =
    (a : Archived) → LeftIn new a → LeftIn old a ⊎ IsSomeAnd (told_in old) (λ b. Adds head rows b a)
