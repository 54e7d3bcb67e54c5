-- What the statements make of the tables.
use Rattle.std.specs.Prelude.{◌≡◌, ℕ, ℤ, pos, Bool, not, true, List, [], ◌∷◌, find, Option, Some, None}
use Rattle.std.specs.Ordering.{is_gt}
use Rattle.sqlite.specs.declared.types.Value.TheVariants.{Int}
use Rattle.sqlite.specs.Order.{Row, column, value_cmp}
use Rattle.sqlite.specs.Tree.{put_row, rowid, has_rowid}
use Rattle.sqlite.specs.Edit.{are_fresh}
use Rattle.sqlite.specs.Effect.{Database}
use Rattle.iss_tables.specs.declared.adding.HeadColumns.{HeadColumns}
use Rattle.iss_tables.specs.Tables.{no_schema, head_schema, archive_schema}
use Rattle.iss_tables.specs.Rows.{Columns, stored, stored_head}

-- a posting was put into its table, in which no row had its number
pub record PutsPost (c : Columns) (old new : Database) : Type 0 where
  pub schema : new.schema ≡ archive_schema
  pub rows : new.trees 1 ≡ put_row (stored c) (old.trees 1)
  pub head : new.trees 0 ≡ old.trees 0
  pub fresh : are_fresh (old.trees 1) (stored c ∷ []) ≡ true

-- one posting after the other was put
abbrev pub PutsPosts : List Columns → Database → Database → Type 0
PutsPosts [] old new = new ≡ old
PutsPosts (c ∷ cs) old new = (mid : Database) × PutsPost c old mid × PutsPosts cs mid new

-- the row of the head
abbrev pub head_row : List Row → Option Row
head_row rows = find (has_rowid (pos 1)) rows

-- the number of the row isn't above this
abbrev pub is_at_most : ℤ → Row → Bool
is_at_most most row = not (is_gt (value_cmp (rowid row) (Int most)))

-- the head was set
pub record PutsHead (row : Row) (old new : Database) : Type 0 where
  pub schema : new.schema ≡ archive_schema
  pub head : head_row (new.trees 0) ≡ Some row
  pub rows : new.trees 1 ≡ old.trees 1

-- the head as a row
abbrev pub row_of_head : HeadColumns → Row
row_of_head head = stored_head head.instance head.records head.posts

-- all postings were put, and then the head was set
pub record AddsAll (cs : List Columns) (head : HeadColumns) (old new : Database) : Type 0 where
  pub mid : Database
  pub posts : PutsPosts cs old mid
  pub sets : PutsHead (row_of_head head) mid new

-- the table of the head was made alone, and holds nothing
abbrev pub HasHeadAlone : Database → Type 0
HasHeadAlone db = (db.schema ≡ head_schema) × (db.trees 0 ≡ [])

-- the table of the postings was made beside that of the head, which is as it was
pub record AddsPosts (old new : Database) : Type 0 where
  pub schema : new.schema ≡ archive_schema
  pub head : new.trees 0 ≡ old.trees 0
  pub posts : new.trees 1 ≡ []

-- both tables are there, and hold nothing
pub record IsEmptyArchive (db : Database) : Type 0 where
  pub schema : db.schema ≡ archive_schema
  pub head : db.trees 0 ≡ []
  pub posts : db.trees 1 ≡ []

-- both tables are there: those that weren't were made and hold nothing, and those that were are as they were
pub record IsMadeOf (old new : Database) : Type 0 where
  pub blank : old.schema ≡ no_schema → IsEmptyArchive new
  pub half : old.schema ≡ head_schema → AddsPosts old new
  pub ours : old.schema ≡ archive_schema → new ≡ old

-- the columns stand in a row of three
pub record AreHeadColumns (head : HeadColumns) (row : Row) : Type 0 where
  pub instance : column row 0 ≡ Int head.instance
  pub records : column row 1 ≡ Int head.records
  pub posts : column row 2 ≡ Int head.posts

-- no number stands in this column
abbrev pub HasNoNumber : Row → ℕ → Type 0
HasNoNumber row at = (n : ℤ) → ¬ (column row at ≡ Int n)

-- the row of three holds no head
abbrev pub IsNoHead : Row → Type 0
IsNoHead row = (head : HeadColumns) → ¬ AreHeadColumns head row

-- the rows are the head's alone, or none
abbrev pub IsOneHead : Option HeadColumns → List Row → Type 0
IsOneHead None rows = rows ≡ []
IsOneHead (Some head) rows = (row : Row) × (rows ≡ row ∷ []) × AreHeadColumns head row

-- the rows are neither a head's alone nor none
abbrev pub AreNoHead : List Row → Type 0
AreNoHead rows = (head : Option HeadColumns) → ¬ IsOneHead head rows

-- the columns stand in the row of the head
pub record AreInHead (head : HeadColumns) (row : Row) : Type 0 where
  pub instance : column row 2 ≡ Int head.instance
  pub records : column row 3 ≡ Int head.records
  pub posts : column row 4 ≡ Int head.posts

-- the head is that of the row, if there is one
abbrev pub IsHeadRow : Option HeadColumns → Option Row → Type 0
IsHeadRow None None = Unit {0}
IsHeadRow None (Some row) = ⊥
IsHeadRow (Some head) None = ⊥
IsHeadRow (Some head) (Some row) = AreInHead head row
