-- Which rows can be put into a statement.
use Rattle.std.specs.Prelude.{ℕ, ℤ, pos, neg_ℤ, ◌+ℤ◌, ◌^◌, ◌+◌, ◌&&◌, Bool, true, false, not, nat_le, int_lt, List, [], ◌∷◌, if◌then◌else◌}
use Rattle.iss_model.specs.declared.currency.Currency.{Currency}
use Rattle.iss_model.specs.declared.account.Account.{Account}
use Rattle.iss_model.specs.declared.account.Account.TheVariants as account
use Rattle.iss_archive.specs.declared.post.PostRow.{PostRow}
use Rattle.iss_archive.specs.Archived.{is_users}

-- what the row adds to what the user has: plus on its side to, minus on its side from
abbrev pub signed_amount : List ℕ → Currency → PostRow → ℤ
signed_amount user currency row =
    (if is_users user currency row.to then pos row.amount else pos 0) +ℤ (if is_users user currency row.from then neg_ℤ (pos row.amount) else pos 0)

-- the account is a user's
abbrev pub is_user : Account → Bool
is_user (account.User user currency) = true
is_user _ = false

-- strictly between -2^62 and 2^62
abbrev pub is_small : ℤ → Bool
is_small n = int_lt (neg_ℤ (pos (2 ^ 62))) n && int_lt n (pos (2 ^ 62))

-- the row can stand next in a statement: its number and its stamp are at least these, it moves no money between two users, and what the
-- user has after it is small
abbrev pub is_next_statable : ℕ → ℕ → PostRow → ℤ → Bool
is_next_statable least at row after = nat_le least row.seq && nat_le at row.at && not (is_user row.from && is_user row.to) && is_small after

-- each row can stand next after those before it
abbrev pub is_statable_from : List ℕ → Currency → ℕ → ℕ → ℤ → List PostRow → Bool
is_statable_from user currency least at sum [] = true
is_statable_from user currency least at sum (row ∷ rows) =
    is_next_statable least at row (sum +ℤ signed_amount user currency row)
    && is_statable_from user currency (row.seq + 1) row.at (sum +ℤ signed_amount user currency row) rows

-- the rows can be put into a statement of this user and currency
abbrev pub is_statable : List ℕ → Currency → List PostRow → Bool
is_statable user currency rows = is_statable_from user currency 0 0 (pos 0) rows
