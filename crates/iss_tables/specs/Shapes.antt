-- What is tested of a column and of a table, part by part.
use Rattle.std.specs.Prelude.{◌≡◌, ℕ, true, false, List, [], ◌∷◌, Some, slice_get, codes}
use Rattle.sqlite.specs.Kind.TheVariants.{Integer, Text}
use Rattle.sqlite.specs.Collation.TheVariants.{Binary}
use Rattle.sqlite.specs.declared.types.Value.TheVariants.{Null}
use Rattle.sqlite.specs.Table.{Table}
use Rattle.sqlite_schema.specs.declared.schema.Column.{Column}
use Rattle.iss_tables.specs.Tables.{strict}

-- it is a strict column of this name, with no default
pub record IsStrictAs (name : List ℕ) (c : Column) : Type 0 where
  pub name_ : c.name ≡ name
  pub strict_ : c.is_strict ≡ true
  pub default : c.default ≡ Null
  pub collation : c.collation ≡ Binary

-- the columns of the head come first
pub record BeginAsHead (columns : List Column) : Type 0 where
  pub id : slice_get columns 0 ≡ Some (strict (codes "id") Integer false)
  pub instance : slice_get columns 1 ≡ Some (strict (codes "instance") Integer true)
  pub records : slice_get columns 2 ≡ Some (strict (codes "records") Integer true)
  pub posts : slice_get columns 3 ≡ Some (strict (codes "posts") Integer true)

-- the first five columns of a posting come first
pub record BeginAsPost (columns : List Column) : Type 0 where
  pub seq : slice_get columns 0 ≡ Some (strict (codes "seq") Integer false)
  pub record_ : slice_get columns 1 ≡ Some (strict (codes "record") Integer true)
  pub at : slice_get columns 2 ≡ Some (strict (codes "at") Integer true)
  pub from_kind : slice_get columns 3 ≡ Some (strict (codes "from_kind") Integer true)
  pub from_user : slice_get columns 4 ≡ Some (strict (codes "from_user") Text false)

-- the other five columns of a posting come after five
pub record EndAsPost (columns : List Column) : Type 0 where
  pub to_kind : slice_get columns 5 ≡ Some (strict (codes "to_kind") Integer true)
  pub to_user : slice_get columns 6 ≡ Some (strict (codes "to_user") Text false)
  pub currency : slice_get columns 7 ≡ Some (strict (codes "currency") Integer true)
  pub amount : slice_get columns 8 ≡ Some (strict (codes "amount") Integer true)
  pub txn : slice_get columns 9 ≡ Some (strict (codes "txn") Text false)

-- the table has no check, no reference and no default that is computed, and its numbers may be used again
pub record AsksNothing (t : Table) : Type 0 where
  pub checks : t.checks ≡ []
  pub references : t.references ≡ []
  pub computed : t.computed ≡ []
  pub stamps : t.stamps ≡ record { places = []; terms = []; formats = [] }
  pub counted : t.is_counted ≡ false

-- the table has this name and tree, its first column keys it, and it asks nothing else of a row
pub record IsPlainAs (name : List ℕ) (tree : ℕ) (t : Table) : Type 0 where
  pub name_ : t.name ≡ name
  pub tree_ : t.tree ≡ tree
  pub key : t.key ≡ Some 0
  pub primary : t.primary ≡ 0 ∷ []
  pub uniques : t.uniques ≡ []
  pub orders : t.orders ≡ []
  pub asks : AsksNothing t
