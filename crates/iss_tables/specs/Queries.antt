-- The questions, and what their answers show.
use Rattle.std.specs.Prelude.{◌≡◌, ℕ, ℤ, pos, negsuc, List, [], ◌∷◌, map, filter, Bool, false, None, IsPermutation, IsSorted}
use Rattle.std.specs.List.{list_all}
use Rattle.sqlite.specs.declared.types.Value.TheVariants.{Int}
use Rattle.sqlite.specs.Collation.TheVariants.{Binary}
use Rattle.sqlite.specs.Order.{Row}
use Rattle.sqlite.specs.Term.{Term, lit, col, op2, holds}
use Rattle.sqlite_sql.specs.declared.ops.BinaryOp.TheVariants as by
use Rattle.sqlite_sql.specs.declared.ops.CompareOp.TheVariants.{Eq, Gt}
use Rattle.sqlite_value.specs.declared.keys.Key.{Key}
use Rattle.sqlite.specs.Query.{Query, inner, end, Output, output, output_cmp}
use Rattle.sqlite.specs.Tree.{Trees}
use Rattle.iss_tables.specs.declared.asking.UserColumns.{UserColumns}
use Rattle.iss_tables.specs.Rows.{asked_for}

-- a query over one table, with nothing grouped and nothing left out
abbrev pub simple : ℕ → List Term → List Term → List (Term × Key) → Query
simple table where_ project order = record {
  from = inner table end;
  filter = where_;
  group = None;
  project = project;
  distinct = false;
  collations = [];
  order = order;
  limit = lit (Int (negsuc 0));
  offset = lit (Int (pos 0));
}

-- the row passes each term of WHERE
abbrev pub passes : List Term → Row → Row → Bool
passes where_ params row = list_all (holds (params ∷ row ∷ [])) where_

-- the rows that pass, in an order that ORDER BY allows
pub record ShowsTable (q : Query) (kept : List Row) (params : Row) (rows : List Row) : Type 0 where
  pub ordered : List Output
  pub same : IsPermutation (map (λ r. output q (params ∷ r ∷ [])) kept) ordered
  pub sorted : IsSorted (output_cmp q) ordered
  pub shown : rows ≡ map (λ (o : Output). o.1) ordered

-- two terms are equal
abbrev equals : Term → Term → Term
equals a b = op2 (by.Compare Eq Binary) a b

-- the question for the head
abbrev pub head_query : Query
head_query = record {
  from = inner 0 end;
  filter = equals (col 1 0) (lit (Int (pos 1))) ∷ [];
  group = None;
  project = col 1 2 ∷ col 1 3 ∷ col 1 4 ∷ [];
  distinct = false;
  collations = [];
  order = [];
  limit = lit (Int (negsuc 0));
  offset = lit (Int (pos 0));
}

-- the question for a user's postings in a currency
abbrev pub posts_query : Query
posts_query = record {
  from = inner 1 end;
  filter = equals (col 1 8) (col 0 1) ∷ op2 by.Or (equals (col 1 5) (col 0 0)) (equals (col 1 7) (col 0 0)) ∷ [];
  group = None;
  project = col 1 0 ∷ col 1 2 ∷ col 1 3 ∷ col 1 4 ∷ col 1 5 ∷ col 1 6 ∷ col 1 7 ∷ col 1 8 ∷ col 1 9 ∷ col 1 10 ∷ [];
  distinct = false;
  collations = [];
  order = (col 1 0, record { collation = Binary; descending = false }) ∷ [];
  limit = lit (Int (negsuc 0));
  offset = lit (Int (pos 0));
}

-- the question for numbers above one
abbrev pub above_query : Query
above_query = record {
  from = inner 1 end;
  filter = op2 (by.Compare Gt Binary) (col 1 0) (col 0 0) ∷ [];
  group = None;
  project = col 1 0 ∷ [];
  distinct = false;
  collations = [];
  order = [];
  limit = lit (Int (negsuc 0));
  offset = lit (Int (pos 0));
}

-- the answer to a question over one table, of which these rows pass
abbrev pub Answers : Query → ℕ → Row → Trees → List Row → Type 0
Answers q table params trees rows = ShowsTable q (filter (passes q.filter params) (trees table)) params rows

-- the answer to the question for the head
abbrev pub ShowsHeadOf : Trees → List Row → Type 0
ShowsHeadOf trees rows = Answers head_query 0 [] trees rows

-- the answer to the question for a user's postings
abbrev pub ShowsPostsOf : UserColumns → Trees → List Row → Type 0
ShowsPostsOf account trees rows = Answers posts_query 1 (asked_for account) trees rows

-- the answer to the question for numbers above this
abbrev pub ShowsAboveOf : ℤ → Trees → List Row → Type 0
ShowsAboveOf most trees rows = Answers above_query 1 (Int most ∷ []) trees rows
