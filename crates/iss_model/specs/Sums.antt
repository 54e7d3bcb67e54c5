-- Every sum of the book is one over all its rows: each entry changes some things by some amount.
use Rattle.std.specs.Prelude.{ℕ, suc, ℤ, pos, negsuc, neg_ℤ, ◌+ℤ◌, List, [], ◌∷◌, ◌++◌, replicate, fold, Some, if◌then◌else◌}
use Rattle.std.specs.Str.{bytes_eq}
use Rattle.iss_model.specs.declared.currency.Currency.{Currency}
use Rattle.iss_model.specs.declared.account.Account.{Account}
use Rattle.iss_model.specs.declared.account.Account.TheVariants as account
use Rattle.iss_model.specs.declared.account.Part.{Part}
use Rattle.iss_model.specs.declared.account.Part.TheVariants as part
use Rattle.iss_model.specs.declared.setting.Window.TheVariants as window
use Rattle.iss_model.specs.declared.entry.Row.{Row}
use Rattle.iss_model.specs.declared.entry.Entry.{Entry}
use Rattle.iss_model.specs.declared.entry.Entry.TheVariants as entry
use Rattle.iss_model.specs.Currencies.{iso_number}
use Rattle.iss_model.specs.Calendar.{window_at}

-- the key of the thing that is changed, and by how much
pub record Change : Type 0 where
  pub key : List ℕ
  pub by : ℤ

-- what these changes come to at a key
abbrev pub changed_at : List ℕ → List Change → ℤ
changed_at key [] = pos 0
changed_at key (c ∷ cs) = (if bytes_eq c.key key then c.by else pos 0) +ℤ changed_at key cs

-- what all rows of the book change at a key
abbrev pub sum_at : (Entry → List Change) → List ℕ → List Row → ℤ
sum_at changes key rows = fold (λ sum row. sum +ℤ changed_at key (changes row.entry)) (pos 0) rows

-- the currency of an account
abbrev pub account_currency : Account → Currency
account_currency (account.Gateway currency) = currency
account_currency (account.Network currency) = currency
account_currency (account.Programme currency) = currency
account_currency (account.User user currency) = currency

-- no token has a byte 0, so two accounts have one key only if they are one account
abbrev pub account_key : Account → List ℕ
account_key (account.Gateway currency) = 1 ∷ 0 ∷ iso_number currency ∷ []
account_key (account.Network currency) = 2 ∷ 0 ∷ iso_number currency ∷ []
account_key (account.Programme currency) = 3 ∷ 0 ∷ iso_number currency ∷ []
account_key (account.User user currency) = (4 ∷ user) ++ 0 ∷ iso_number currency ∷ []

-- a post moves its amount from one account to another
abbrev pub balance_changes : Entry → List Change
balance_changes (entry.Post from to amount txn) =
    record { key = account_key to; by = pos amount } ∷ record { key = account_key from; by = neg_ℤ (pos amount) } ∷ []
balance_changes _ = []

-- a user's name and a currency
abbrev pub user_key : List ℕ → Currency → List ℕ
user_key user currency = user ++ 0 ∷ iso_number currency ∷ []

-- a hold changes what is held of its user in its currency
abbrev pub held_changes : Entry → List Change
held_changes (entry.Hold txn user currency part amount) = record { key = user_key user currency; by = amount } ∷ []
held_changes _ = []

-- a part of a hold, as a number
abbrev pub part_number : Part → ℕ
part_number part.G = 1
part_number part.P = 2
part_number part.S = 3

-- a part of a transaction's hold
abbrev pub part_key : List ℕ → Part → List ℕ
part_key txn part = part_number part ∷ txn

-- a hold changes a part of what its transaction holds
abbrev pub part_changes : Entry → List Change
part_changes (entry.Hold txn user currency part amount) = record { key = part_key txn part; by = amount } ∷ []
part_changes _ = []

-- a post for a transaction changes one of its sums by what the post is worth there
abbrev pub txn_changes : (Account → Account → ℕ → ℤ) → Entry → List Change
txn_changes worth (entry.Post from to amount (Some txn)) = record { key = txn; by = worth from to amount } ∷ []
txn_changes worth _ = []

-- what is cleared goes from a user to the network
abbrev pub cleared_by : Account → Account → ℕ → ℤ
cleared_by (account.User user c) (account.Network d) amount = pos amount
cleared_by _ _ amount = pos 0

-- what is refunded comes back from the network to a user
abbrev pub refunded_by : Account → Account → ℕ → ℤ
refunded_by (account.Network c) (account.User user d) amount = pos amount
refunded_by _ _ amount = pos 0

-- what the programme has paid to a user, less what came back
abbrev pub paid_by : Account → Account → ℕ → ℤ
paid_by (account.Programme c) (account.User user d) amount = pos amount
paid_by (account.User user c) (account.Programme d) amount = neg_ℤ (pos amount)
paid_by _ _ amount = pos 0

-- A whole number at the end of a key, so that keys sort as their numbers do. One below 0 begins with as many zeros as it lies below. The
-- last two places tell the number too, whatever is before them.
abbrev pub int_key : ℤ → List ℕ
int_key (pos n) = 1 ∷ n ∷ []
int_key (negsuc n) = replicate (suc n) 0 ++ 1 ∷ 0 ∷ n ∷ []

-- a product's user on a day of UTC
abbrev pub stood_key : List ℕ → List ℕ → ℕ → List ℕ
stood_key product user at = product ++ 0 ∷ user ++ 0 ∷ int_key (window_at window.Day at (pos 0))

-- standing in changes what stood in for a product and user on that day
abbrev pub stood_changes : Entry → List Change
stood_changes (entry.Stood set product user amount at) =
    record { key = stood_key product user at; by = pos amount } ∷ []
stood_changes _ = []
