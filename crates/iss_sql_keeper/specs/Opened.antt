-- What a keeper tells once it is made, and what it tells of a record that is given as columns.
use Rattle.std.specs.Prelude.{◌≡◌, [], List, map, Option, option_map, Result, IsSomeAnd, IsTrue}
use Rattle.sqlite.specs.Tree.{Trees}
use Rattle.sqlite.specs.State.{State, HasCleanDisk}
use Rattle.iss_archive.specs.Archived.{Archived, nothing_archived}
use Rattle.iss_tables.specs.declared.adding.PostColumns.{PostColumns}
use Rattle.iss_tables.specs.declared.adding.HeadColumns.{HeadColumns}
use Rattle.iss_tables.specs.Tables.{no_schema, head_schema}
use Rattle.iss_tables.specs.Steps.{head_row}
use Rattle.iss_tables.specs.Calls.{IsOurs}
use Rattle.iss_sql_keeper.specs.Decoded.{archived_in, head_in, head_of}
use Rattle.iss_sql_keeper.specs.Given.{posting_given}
use Rattle.iss_sql_keeper.specs.Shown.{TellsAdded, MayLeaveAdded}

-- what the table of the head holds, beside no posting
abbrev pub head_alone_in : Trees → Archived
head_alone_in trees = record { head = option_map head_in (head_row (trees 0)); rows = [] }

-- this is what the tables of a connection hold: nothing is archived in a table that isn't there
pub record IsHeldIn (s : State) (a : Archived) : Type 0 where
  pub ours : IsOurs s → a ≡ archived_in s.now.trees
  pub half : s.now.schema ≡ head_schema → a ≡ head_alone_in s.now.trees
  pub blank : s.now.schema ≡ no_schema → a ≡ nothing_archived

-- the same of the connection that a keeper is made over
abbrev pub IsHeldBy : {S : Type 0} → (S → State) → Option S → Archived → Type 0
IsHeldBy shown conn a = IsSomeAnd conn (λ c. IsHeldIn (shown c) a)

-- what is committed now is what the tables held, while the disk is honest and the connection open
abbrev pub HoldsOn : State → State → Type 0
HoldsOn old new = HasCleanDisk new → IsTrue new.is_open → IsHeldIn old (archived_in new.committed.trees)

-- a record that is given as columns is added to what is told, if the call says so
abbrev pub TellsGiven : {T E : Type 0} → HeadColumns → List PostColumns → Result T E → State → State → Type 0
TellsGiven head rows result old new = TellsAdded (head_of head) (map posting_given rows) result old new

-- a stop leaves what it could leave before, or what was told with that record added
abbrev pub MayLeaveGiven : HeadColumns → List PostColumns → State → State → Type 0
MayLeaveGiven head rows old new = MayLeaveAdded (head_of head) (map posting_given rows) old new
