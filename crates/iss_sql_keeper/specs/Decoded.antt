-- What the rows of the two tables say, as the archive's head and rows.
use Rattle.std.specs.Prelude.{ℕ, ◌+◌, ℤ, pos, negsuc, ◌==◌, List, map, Option, Some, None, option_map, if◌then◌else◌}
use Rattle.sqlite.specs.declared.types.Value.{Value}
use Rattle.sqlite.specs.declared.types.Value.TheVariants.{Null, Int, Real, Text, Blob}
use Rattle.sqlite.specs.Order.{Row, column}
use Rattle.sqlite.specs.Tree.{Trees}
use Rattle.iss_model.specs.declared.currency.Currency.{Currency}
use Rattle.iss_model.specs.declared.currency.Currency.TheVariants.{Usd}
use Rattle.iss_model.specs.declared.account.Account.{Account}
use Rattle.iss_model.specs.declared.account.Account.TheVariants as account
use Rattle.iss_model.specs.Numbers.{currency_numbered}
use Rattle.iss_archive.specs.declared.post.Head.{Head}
use Rattle.iss_archive.specs.declared.post.PostRow.{PostRow}
use Rattle.iss_archive.specs.Archived.{Archived}
use Rattle.iss_tables.specs.declared.adding.HeadColumns.{HeadColumns}
use Rattle.iss_tables.specs.Steps.{head_row}
use Rattle.iss_sql_keeper.specs.Numbered.{in_order}

-- a number that isn't negative, and 0 for one that is
abbrev pub natural : ℤ → ℕ
natural (pos n) = n
natural (negsuc n) = 0

-- the number in a column
abbrev pub number_in : Value → ℕ
number_in (Int n) = natural n
number_in Null = 0
number_in (Real x) = 0
number_in (Text t) = 0
number_in (Blob b) = 0

-- the text in a column, if there is one
abbrev pub text_in : Value → Option (List ℕ)
text_in (Text t) = Some t
text_in Null = None
text_in (Int n) = None
text_in (Real x) = None
text_in (Blob b) = None

-- the currency of the number in a column, if it is one's
abbrev pub currency_in : Value → Option Currency
currency_in v = currency_numbered (number_in v)

-- an account that stands for none
abbrev pub no_account : Account
no_account = account.Network Usd

-- a user's account
abbrev pub account_of : Option (List ℕ) → Currency → Account
account_of (Some user) currency = account.User user currency
account_of None currency = no_account

-- the account of this kind: 1 is the gateway, 2 the network, 3 the programme, 4 a user
abbrev pub account_in : ℕ → Option (List ℕ) → Option Currency → Account
account_in kind user None = no_account
account_in kind user (Some currency) =
    if kind == 4 then account_of user currency
    else (if kind == 1 then account.Gateway currency
    else (if kind == 3 then account.Programme currency else account.Network currency))

-- the account of the kind in a column and of the user in the next one
abbrev pub account_at : Row → ℕ → Currency → Account
account_at r at currency = account_in (number_in (column r at)) (text_in (column r (at + 1))) (Some currency)

-- the posting of a row of its table
abbrev pub posting_in : Row → PostRow
posting_in r = record {
  seq = number_in (column r 0);
  number = number_in (column r 2);
  at = number_in (column r 3);
  from = account_in (number_in (column r 4)) (text_in (column r 5)) (currency_in (column r 8));
  to = account_in (number_in (column r 6)) (text_in (column r 7)) (currency_in (column r 8));
  amount = number_in (column r 9);
  txn = text_in (column r 10);
}

-- the posting of a row of an answer
abbrev pub posting_shown : Row → PostRow
posting_shown r = record {
  seq = number_in (column r 0);
  number = number_in (column r 1);
  at = number_in (column r 2);
  from = account_in (number_in (column r 3)) (text_in (column r 4)) (currency_in (column r 7));
  to = account_in (number_in (column r 5)) (text_in (column r 6)) (currency_in (column r 7));
  amount = number_in (column r 8);
  txn = text_in (column r 9);
}

-- the head of its row
abbrev pub head_in : Row → Head
head_in r = record { instance = number_in (column r 2); records = number_in (column r 3); posts = number_in (column r 4) }

-- the head of its columns
abbrev pub head_of : HeadColumns → Head
head_of c = record { instance = natural c.instance; records = natural c.records; posts = natural c.posts }

-- a posting's number
abbrev pub seq_of : PostRow → ℕ
seq_of row = row.seq

-- what the two tables hold, the postings in the order of their numbers
abbrev pub archived_in : Trees → Archived
archived_in trees = record { head = option_map head_in (head_row (trees 0)); rows = in_order seq_of (map posting_in (trees 1)) }
