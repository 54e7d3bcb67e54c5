-- The two tables of the archive.
use Rattle.sqlite.specs.Collation.TheVariants.{Binary}
use Rattle.std.specs.Prelude.{true, false, Bool, [], ◌∷◌, Some, codes, List, ℕ}
use Rattle.sqlite.specs.declared.types.Value.TheVariants.{Null}
use Rattle.sqlite.specs.Table.{Table}
use Rattle.sqlite_schema.specs.declared.schema.Column.{Column}
use Rattle.sqlite.specs.Schema.{Schema}
use Rattle.sqlite.specs.Kind.{Kind}
use Rattle.sqlite.specs.Kind.TheVariants.{Integer, Text}

-- a column of a strict table
abbrev pub strict : List ℕ → Kind → Bool → Column
strict name kind not_null = record {
  name = name;
  kind = kind;
  is_strict = true;
  not_null = not_null;
  default = Null;
  collation = Binary;
}

-- a table of strict columns, keyed by the first
abbrev pub keyed : List ℕ → ℕ → List Column → Table
keyed name tree columns = record {
  name = name;
  tree = tree;
  columns = columns;
  key = Some 0;
  primary = 0 ∷ [];
  uniques = [];
  orders = [];
  checks = [];
  references = [];
  computed = [];
  stamps = record { places = []; terms = []; formats = [] };
  is_counted = false;
}

-- the columns of the head
abbrev pub head_columns : List Column
head_columns =
    strict (codes "id") Integer false
    ∷ strict (codes "instance") Integer true
    ∷ strict (codes "records") Integer true
    ∷ strict (codes "posts") Integer true ∷ []

-- the table of the head, which has one row
abbrev pub head_table : Table
head_table = keyed (codes "head") 0 head_columns

-- the columns of a posting
abbrev pub post_columns : List Column
post_columns =
    strict (codes "seq") Integer false
    ∷ strict (codes "record") Integer true
    ∷ strict (codes "at") Integer true
    ∷ strict (codes "from_kind") Integer true
    ∷ strict (codes "from_user") Text false
    ∷ strict (codes "to_kind") Integer true
    ∷ strict (codes "to_user") Text false
    ∷ strict (codes "currency") Integer true
    ∷ strict (codes "amount") Integer true
    ∷ strict (codes "txn") Text false ∷ []

-- the table of the postings, as this tree
abbrev pub post_table_at : ℕ → Table
post_table_at tree = keyed (codes "post") tree post_columns

-- the table of the postings
abbrev pub post_table : Table
post_table = post_table_at 1

-- nothing was made
abbrev pub no_schema : Schema
no_schema = record { tables = []; indexes = []; views = [] }

-- the table of the head alone
abbrev pub head_schema : Schema
head_schema = record { tables = head_table ∷ []; indexes = []; views = [] }

-- both tables
abbrev pub archive_schema : Schema
archive_schema = record { tables = head_table ∷ post_table ∷ []; indexes = []; views = [] }
