-- The report of what stands: a line for each account that money was posted to or from, and a line of counts.
use Rattle.std.specs.Prelude.{ℕ, ℤ, Bool, List, [], ◌∷◌, ◌++◌, length, map, filter, fold, codes, if◌then◌else◌}
use Rattle.std.specs.List.{flat_map, concat, list_any}
use Rattle.std.specs.Str.{bytes_eq}
use Rattle.std.specs.Ordering.{is_lt, nat_cmp}
use Rattle.std.specs.Cmp.Lexicographic.{slice_cmp}
use Rattle.iss_model.specs.declared.currency.Currency.{Currency}
use Rattle.iss_model.specs.declared.account.Account.{Account}
use Rattle.iss_model.specs.declared.account.Account.TheVariants as account
use Rattle.iss_model.specs.declared.entry.Row.{Row}
use Rattle.iss_model.specs.declared.entry.Entry.{Entry}
use Rattle.iss_model.specs.declared.entry.Entry.TheVariants as entry
use Rattle.iss_model.specs.Currencies.{currency_code}
use Rattle.iss_model.specs.Amounts.{amount_text}
use Rattle.iss_model.specs.Sums.{account_key}
use Rattle.iss_model.specs.rules.Activity.{is_asked}
use Rattle.iss_model.specs.rules.Facts.{Facts, balance_in, held_in}
use Rattle.iss_model.specs.rules.Histories.{History, history_facts}
use Rattle.iss_model.specs.texts.Wordings.{Member, with_text, with_number, line_of}

-- the accounts that an entry moves money between
abbrev pub posted_accounts : Entry → List Account
posted_accounts (entry.Post from to amount txn) = from ∷ to ∷ []
posted_accounts _ = []

-- The order of the report: the gateway, the network, the programme, and then users by the bytes of their names. In each the currency's
-- number decides.
abbrev pub is_reported_before : Account → Account → Bool
is_reported_before a b = is_lt (slice_cmp nat_cmp (account_key a) (account_key b))

-- an account at its place among others that stand in this order
abbrev pub accounts_with : Account → List Account → List Account
accounts_with a [] = a ∷ []
accounts_with a (b ∷ others) = if is_reported_before a b then a ∷ b ∷ others else b ∷ accounts_with a others

-- an account among others, once
abbrev pub accounts_with_once : List Account → Account → List Account
accounts_with_once accounts a =
    if list_any (λ b. bytes_eq (account_key a) (account_key b)) accounts then accounts else accounts_with a accounts

-- the accounts of a book in order
abbrev pub accounts_of : List Row → List Account
accounts_of rows = fold accounts_with_once [] (flat_map (λ row. posted_accounts row.entry) rows)

-- the members that tell what an account is, its balance and its currency
abbrev pub sheet_members : List ℕ → ℤ → Currency → List Member
sheet_members name balance currency =
    with_text (codes "account") name
    ∷ with_text (codes "balance") (amount_text balance currency)
    ∷ with_text (codes "currency") (currency_code currency)
    ∷ []

-- what is said of an account; of a user's also what is held of it
abbrev pub account_members : Facts → Account → List Member
account_members f (account.Gateway currency) = sheet_members (codes "gateway") (balance_in f (account.Gateway currency)) currency
account_members f (account.Network currency) = sheet_members (codes "network") (balance_in f (account.Network currency)) currency
account_members f (account.Programme currency) = sheet_members (codes "programme") (balance_in f (account.Programme currency)) currency
account_members f (account.User user currency) =
    sheet_members (codes "user") (balance_in f (account.User user currency)) currency
    ++ with_text (codes "held") (amount_text (held_in f user currency) currency)
    ∷ with_text (codes "user") user
    ∷ []

-- how many calls are open, how many notices aren't acknowledged, and how many records there are
abbrev pub count_members : Facts → List Member
count_members f =
    with_number (codes "calls") (length (filter is_asked f.calls))
    ∷ with_number (codes "notices") (length f.pending)
    ∷ with_number (codes "records") f.count
    ∷ []

-- the line of an account
unfoldable pub account_line : Facts → Account → List ℕ
account_line f a = line_of (account_members f a)

-- the line of counts
unfoldable pub count_line : Facts → List ℕ
count_line f = line_of (count_members f)

-- the lines of the report
abbrev pub balance_lines : History → List (List ℕ)
balance_lines h = let f = history_facts h in map (account_line f) (accounts_of h.rows) ++ count_line f ∷ []

-- the report
abbrev pub balance_report : History → List ℕ
balance_report h = concat (balance_lines h)
