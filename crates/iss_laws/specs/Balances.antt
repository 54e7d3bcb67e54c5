-- Money is moved between accounts, and never made or lost.
use Rattle.std.specs.Prelude.{◌≡◌, ℤ, pos, ◌+ℤ◌, true, List, filter, fold}
use Rattle.std.specs.List.{list_all}
use Rattle.iss_model.specs.declared.currency.Currency.{Currency}
use Rattle.iss_model.specs.declared.account.Account.{Account}
use Rattle.iss_model.specs.Currencies.{same_currency}
use Rattle.iss_model.specs.Sums.{account_currency}
use Rattle.iss_model.specs.rules.Facts.{Facts, balance_in}
use Rattle.iss_model.specs.rules.Histories.{History, history_facts}
use Rattle.iss_model.specs.texts.BalanceLines.{accounts_of}
use Rattle.iss_acts.specs.Posts.{posts_within_one_currency}

-- each post of a book stays in one currency
abbrev pub PostsStay : History → Type 0
PostsStay h = list_all (λ row. posts_within_one_currency row.entry) h.rows ≡ true

-- the accounts of one currency
abbrev pub in_currency : Currency → List Account → List Account
in_currency c accounts = filter (λ a. same_currency (account_currency a) c) accounts

-- the balances of these accounts in all
abbrev pub balances_in_all : Facts → List Account → ℤ
balances_in_all f accounts = fold (λ sum a. sum +ℤ balance_in f a) (pos 0) accounts

-- in each currency the balances of all accounts of a book add up to nothing
abbrev pub BalancesAddUp : History → Type 0
BalancesAddUp h = (c : Currency) → balances_in_all (history_facts h) (in_currency c (accounts_of h.rows)) ≡ pos 0
