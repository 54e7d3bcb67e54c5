-- Where a statement begins among rows in order, and how it goes on.
use Rattle.std.specs.Prelude.{◌≡◌, ◌≤◌, ℕ, ℤ, true, not, List, [], ◌∷◌, ◌++◌, length, filter, drop, codes, Option, Some, None, map, decimal}
use Rattle.iss_model.specs.declared.currency.Currency.{Currency}
use Rattle.iss_archive.specs.declared.post.PostRow.{PostRow}
use Rattle.iss_archive.specs.Archived.{rows_of_user}
use Rattle.iss_archive.specs.Statable.{is_small, is_statable_from}
use Rattle.iss_archive.specs.Statement.{is_after, added_by, rows_between, opening_balance, row_line}
use Rattle.iss_statement.specs.declared.opening.Opening.{Opening}

-- these rows can follow others, after which the user has this
pub record GoesOn (user : List ℕ) (currency : Currency) (balance : ℤ) (rows : List PostRow) : Type 0 where
  pub least : ℕ
  pub stamp : ℕ
  pub small : is_small balance ≡ true
  pub statable : is_statable_from user currency least stamp balance rows ≡ true

-- the rows of the days up to this one
abbrev pub rows_to : ℤ → List PostRow → List PostRow
rows_to day rows = filter (λ row. not (is_after day row)) rows

-- what the user had before the first day, and that only the rows after those of earlier days are shown
pub record IsOpening (user : List ℕ) (currency : Currency) (first : ℤ) (rows : List PostRow) (o : Opening) : Type 0 where
  pub within : o.rows ≤ length rows
  pub balance_is : o.balance ≡ opening_balance user currency first (rows_of_user user currency rows)
  pub shown : (last : ℤ) → rows_between first last (rows_of_user user currency rows) ≡ rows_to last (rows_of_user user currency (drop o.rows rows))
  pub goes_on : GoesOn user currency o.balance (drop o.rows rows)

-- the end of a row's line, with its transaction if there is one
abbrev pub end_piece : Option (List ℕ) → List ℕ
end_piece None = codes "}\n"
end_piece (Some txn) = (codes ",\"txn\":\"" ++ txn) ++ codes "\"}\n"

-- these bytes, and then the members of a row's line: its amount, stamp, other account, record and transaction
abbrev pub with_members : List ℕ → PostRow → List ℕ → List ℕ → List ℕ
with_members out row amount other =
    out ++ (codes "{\"amount\":\"" ++ amount) ++ (codes "\",\"at\":" ++ decimal row.at)
    ++ (codes ",\"other\":\"" ++ other) ++ (codes "\",\"record\":" ++ decimal row.number) ++ end_piece row.txn

-- the lines of the user's rows of the days up to this one
abbrev pub lines_to : ℤ → List ℕ → Currency → List PostRow → List (List ℕ)
lines_to day user currency rows = map (row_line user currency) (rows_to day (rows_of_user user currency rows))

-- what those rows add to what the user has
abbrev pub added_to : ℤ → List ℕ → Currency → List PostRow → ℤ
added_to day user currency rows = added_by user currency (rows_to day (rows_of_user user currency rows))

-- the line of a row, if it is the user's
abbrev pub own_line : List ℕ → Currency → PostRow → List (List ℕ)
own_line user currency row = map (row_line user currency) (rows_of_user user currency (row ∷ []))
