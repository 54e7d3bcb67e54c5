-- The statement of a user's account in a currency, over a range of days.
use Rattle.std.specs.Prelude.{ℕ, ◌/◌, ℤ, pos, ◌+ℤ◌, Bool, not, ◌&&◌, int_lt, List, [], ◌∷◌, ◌++◌, map, filter, fold, codes, Option, Some, None, if◌then◌else◌}
use Rattle.iss_model.specs.declared.currency.Currency.{Currency}
use Rattle.iss_model.specs.declared.account.Account.{Account}
use Rattle.iss_model.specs.declared.account.Account.TheVariants as account
use Rattle.iss_model.specs.Amounts.{amount_text}
use Rattle.iss_model.specs.texts.Wordings.{Member, with_text, with_number, line_of}
use Rattle.iss_archive.specs.declared.post.PostRow.{PostRow}
use Rattle.iss_archive.specs.Archived.{is_users, rows_of_user}
use Rattle.iss_archive.specs.Statable.{signed_amount}

-- the day of a stamp, counted from 1970-01-01 in UTC
abbrev pub day_of : ℕ → ℤ
day_of at = pos (at / 86400000)

-- the row is of a day before this one
abbrev pub is_before : ℤ → PostRow → Bool
is_before day row = int_lt (day_of row.at) day

-- the row is of a day after this one
abbrev pub is_after : ℤ → PostRow → Bool
is_after day row = int_lt day (day_of row.at)

-- what rows add to what a user has
abbrev pub added_by : List ℕ → Currency → List PostRow → ℤ
added_by user currency rows = fold (λ sum row. sum +ℤ signed_amount user currency row) (pos 0) rows

-- the rows of the days from a to b
abbrev pub rows_between : ℤ → ℤ → List PostRow → List PostRow
rows_between a b rows = filter (λ row. not (is_before a row) && not (is_after b row)) rows

-- what the user had before the first day
abbrev pub opening_balance : List ℕ → Currency → ℤ → List PostRow → ℤ
opening_balance user currency a rows = added_by user currency (filter (is_before a) rows)

-- what the user had before the first day and what was shown since
abbrev pub closing_balance : List ℕ → Currency → ℤ → ℤ → List PostRow → ℤ
closing_balance user currency a b rows = opening_balance user currency a rows +ℤ added_by user currency (rows_between a b rows)

-- what an account is called in a statement
abbrev pub account_text : Account → List ℕ
account_text (account.Gateway currency) = codes "gateway"
account_text (account.Network currency) = codes "network"
account_text (account.Programme currency) = codes "programme"
account_text (account.User user currency) = codes "user"

-- the account on the other side of a row
abbrev pub other_side : List ℕ → Currency → PostRow → Account
other_side user currency row = if is_users user currency row.to then row.from else row.to

-- the line of a balance
unfoldable pub balance_line : List ℕ → ℤ → Currency → List ℕ
balance_line which balance currency = line_of (with_text (codes "balance") (amount_text balance currency) ∷ with_text (codes "line") which ∷ [])

-- the member of a transaction, if there is one
abbrev pub txn_members : Option (List ℕ) → List Member
txn_members None = []
txn_members (Some txn) = with_text (codes "txn") txn ∷ []

-- the line of a row
unfoldable pub row_line : List ℕ → Currency → PostRow → List ℕ
row_line user currency row =
    line_of
    (with_text (codes "amount") (amount_text (signed_amount user currency row) currency)
    ∷ with_number (codes "at") row.at
    ∷ with_text (codes "other") (account_text (other_side user currency row))
    ∷ with_number (codes "record") row.number
    ∷ txn_members row.txn)

-- the statement over these days, as lines
abbrev pub statement_of : List ℕ → Currency → ℤ → ℤ → List PostRow → List (List ℕ)
statement_of user currency a b rows =
    let own = rows_of_user user currency rows in
    balance_line (codes "opening") (opening_balance user currency a own) currency
    ∷ map (row_line user currency) (rows_between a b own)
    ++ balance_line (codes "closing") (closing_balance user currency a b own) currency ∷ []
