-- A row of the archive as the columns that are given to SQL.
use Rattle.std.specs.Prelude.{◌≡◌, ℕ, ℤ, pos, List, Option, Some, None, option_map}
use Rattle.iss_model.specs.declared.account.Account.{Account}
use Rattle.iss_model.specs.declared.account.Account.TheVariants as account
use Rattle.iss_model.specs.Currencies.{iso_number}
use Rattle.iss_model.specs.Sums.{account_currency}
use Rattle.iss_archive.specs.declared.post.Head.{Head}
use Rattle.iss_archive.specs.declared.post.PostRow.{PostRow}
use Rattle.iss_tables.specs.declared.adding.PostColumns.{PostColumns}
use Rattle.iss_tables.specs.declared.adding.HeadColumns.{HeadColumns}
use Rattle.iss_tables.specs.Rows.{columns_of, stored}
use Rattle.iss_sql_keeper.specs.Decoded.{posting_in}

-- the kind of an account, by number
abbrev pub kind_of : Account → ℤ
kind_of (account.Gateway currency) = pos 1
kind_of (account.Network currency) = pos 2
kind_of (account.Programme currency) = pos 3
kind_of (account.User user currency) = pos 4

-- the user of an account, if it is a user's
abbrev pub user_of : Account → Option (List ℕ)
user_of (account.Gateway currency) = None
user_of (account.Network currency) = None
user_of (account.Programme currency) = None
user_of (account.User user currency) = Some user

-- the columns are the row's, with the currency of its account from
pub record AreColumnsOf (row : PostRow) (p : PostColumns) : Type 0 where
  pub seq : p.seq ≡ pos row.seq
  pub record_ : p.record_ ≡ pos row.number
  pub at : p.at ≡ pos row.at
  pub from_kind : p.from_kind ≡ kind_of row.from
  pub from_user : option_map (λ t. t.now) p.from_user ≡ user_of row.from
  pub to_kind : p.to_kind ≡ kind_of row.to
  pub to_user : option_map (λ t. t.now) p.to_user ≡ user_of row.to
  pub currency : p.currency ≡ pos (iso_number (account_currency row.from))
  pub amount : p.amount ≡ pos row.amount
  pub txn : option_map (λ t. t.now) p.txn ≡ row.txn

-- the posting that is read again from the columns
abbrev pub posting_given : PostColumns → PostRow
posting_given p = posting_in (stored (columns_of p))

-- the columns are the head's
pub record AreHeadColumnsOf (head : Head) (c : HeadColumns) : Type 0 where
  pub instance : c.instance ≡ pos head.instance
  pub records : c.records ≡ pos head.records
  pub posts : c.posts ≡ pos head.posts
