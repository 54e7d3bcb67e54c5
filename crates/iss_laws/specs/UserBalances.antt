-- A user's balance is what was loaded, less what account transactions cleared, plus what they refunded, plus what gateway transactions hold.
use Rattle.std.specs.Prelude.{◌≡◌, ℕ, ℤ, pos, neg_ℤ, Bool, false, true, not, List, [], ◌∷◌, Option, Some, None, if◌then◌else◌}
use Rattle.std.specs.List.{list_all}
use Rattle.std.specs.Ordering.{int_eq}
use Rattle.iss_model.specs.declared.account.Account.{Account}
use Rattle.iss_model.specs.declared.account.Account.TheVariants as account
use Rattle.iss_model.specs.declared.currency.Currency.{Currency}
use Rattle.iss_model.specs.declared.entry.Entry.{Entry}
use Rattle.iss_model.specs.declared.entry.Entry.TheVariants as entry
use Rattle.iss_model.specs.Sums.{Change, sum_at, user_key}
use Rattle.iss_model.specs.rules.Activity.{TxnNow}
use Rattle.iss_model.specs.rules.CardReasons.{is_account_funded}
use Rattle.iss_model.specs.rules.Facts.{Facts, txn_in, balance_in}
use Rattle.iss_model.specs.rules.Histories.{History, history_facts}

-- the user's own balance pays for a transaction
abbrev pub pays_itself : Option TxnNow → Bool
pays_itself None = false
pays_itself (Some now) = is_account_funded now.txn.funding

-- the transaction of this token is one of those
abbrev pub is_own : Facts → List ℕ → Bool
is_own f txn = pays_itself (txn_in f txn)

-- an amount at a key, if a test holds
abbrev pub where_own : Bool → List ℕ → ℤ → List Change
where_own own key by = if own then record { key = key; by = by } ∷ [] else []

-- what an entry adds to what a user owns, if the test tells which transactions the user's own balance pays
abbrev pub own_changes : (List ℕ → Bool) → Entry → List Change
own_changes own (entry.Post (account.Programme c) (account.User user d) amount None) = record { key = user_key user d; by = pos amount } ∷ []
own_changes own (entry.Post (account.User user c) (account.Network d) amount (Some txn)) =
    where_own (own txn) (user_key user c) (neg_ℤ (pos amount))
own_changes own (entry.Post (account.Network c) (account.User user d) amount (Some txn)) =
    where_own (own txn) (user_key user d) (pos amount)
own_changes own (entry.Hold txn user currency part amount) = where_own (not (own txn)) (user_key user currency) amount
own_changes own _ = []

-- what a user owns in a currency, by all rows
abbrev pub owned_in : History → List ℕ → Currency → ℤ
owned_in h user c = sum_at (own_changes (is_own (history_facts h))) (user_key user c) h.rows

-- Each user's balance in each currency is just that.
abbrev pub EachBalanceIsOwn : History → Type 0
EachBalanceIsOwn h = (user : List ℕ) (c : Currency) → balance_in (history_facts h) (account.User user c) ≡ owned_in h user c

-- an account of a user has just that balance
abbrev pub has_own_balance : History → Account → Bool
has_own_balance h (account.User user c) = int_eq (balance_in (history_facts h) (account.User user c)) (owned_in h user c)
has_own_balance h (account.Gateway c) = true
has_own_balance h (account.Programme c) = true
has_own_balance h (account.Network c) = true

-- the accounts that an entry names: those of a post, and those of the users of a transaction or a hold in its currency
abbrev pub accounts_named : Entry → List Account
accounts_named (entry.Post from to amount txn) = from ∷ to ∷ []
accounts_named (entry.Began txn) = account.User txn.user txn.currency ∷ []
accounts_named (entry.Hold txn user currency part amount) = account.User user currency ∷ []
accounts_named _ = []

-- each account that a row names has its own balance
abbrev pub balances_are_own : History → Bool
balances_are_own h = list_all (λ row. list_all (has_own_balance h) (accounts_named row.entry)) h.rows
