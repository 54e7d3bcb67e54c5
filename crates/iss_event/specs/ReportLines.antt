-- The lines of a report, from their numbers.
use Rattle.std.specs.Prelude.{◌≡◌, ℕ, ℤ, List, [], ◌∷◌, ◌++◌, length, filter, codes, decimal}
use Rattle.iss_model.specs.declared.account.Account.{Account}
use Rattle.iss_model.specs.declared.account.Account.TheVariants as account
use Rattle.iss_model.specs.Currencies.{currency_code}
use Rattle.iss_model.specs.Amounts.{amount_text}
use Rattle.iss_model.specs.rules.Activity.{is_asked}
use Rattle.iss_model.specs.rules.Facts.{Facts, balance_in, held_in}
use Rattle.iss_model.specs.texts.Wordings.{Member, with_text, with_number, line_of}
use Rattle.iss_model.specs.texts.BalanceLines.{sheet_members}

-- what is said of an account with this balance; of a user's also what is held of it
abbrev pub balance_members : Account → ℤ → ℤ → List Member
balance_members (account.Gateway currency) balance held = sheet_members (codes "gateway") balance currency
balance_members (account.Network currency) balance held = sheet_members (codes "network") balance currency
balance_members (account.Programme currency) balance held = sheet_members (codes "programme") balance currency
balance_members (account.User user currency) balance held =
    sheet_members (codes "user") balance currency
    ++ with_text (codes "held") (amount_text held currency)
    ∷ with_text (codes "user") user
    ∷ []

-- the line of an account
unfoldable pub balance_text : Account → ℤ → ℤ → List ℕ
balance_text a balance held = line_of (balance_members a balance held)

-- the line of counts
unfoldable pub counts_text : ℕ → ℕ → ℕ → List ℕ
counts_text calls notices records =
    line_of (with_number (codes "calls") calls ∷ with_number (codes "notices") notices ∷ with_number (codes "records") records ∷ [])

-- the balance and the hold are those of the account by these facts
abbrev pub IsShown : Facts → Account → ℤ → ℤ → Type 0
IsShown f (account.Gateway currency) balance held = balance ≡ balance_in f (account.Gateway currency)
IsShown f (account.Network currency) balance held = balance ≡ balance_in f (account.Network currency)
IsShown f (account.Programme currency) balance held = balance ≡ balance_in f (account.Programme currency)
IsShown f (account.User user currency) balance held = (balance ≡ balance_in f (account.User user currency)) × (held ≡ held_in f user currency)

-- the counts are those of these facts
pub record AreCounts (f : Facts) (calls notices records : ℕ) : Type 0 where
  pub calls_open : calls ≡ length (filter is_asked f.calls)
  pub notices_pending : notices ≡ length f.pending
  pub records_made : records ≡ f.count

-- ---- the pieces of a line

-- an account's line up to the code of its currency
abbrev pub start_piece : List ℕ → List ℕ → List ℕ → List ℕ
start_piece name balance code = (codes "{\"account\":\"" ++ (name ++ codes "\",\"balance\":\"")) ++ (balance ++ (codes "\",\"currency\":\"" ++ code))

-- the rest of a user's line
abbrev pub holder_piece : List ℕ → List ℕ → List ℕ
holder_piece held user = (codes "\",\"held\":\"" ++ (held ++ codes "\",\"user\":\"")) ++ (user ++ codes "\"}\n")

-- the line of an account whose amounts are these texts
abbrev pub account_piece : Account → List ℕ → List ℕ → List ℕ
account_piece (account.Gateway currency) balance held = start_piece (codes "gateway") balance (currency_code currency) ++ codes "\"}\n"
account_piece (account.Network currency) balance held = start_piece (codes "network") balance (currency_code currency) ++ codes "\"}\n"
account_piece (account.Programme currency) balance held = start_piece (codes "programme") balance (currency_code currency) ++ codes "\"}\n"
account_piece (account.User user currency) balance held = start_piece (codes "user") balance (currency_code currency) ++ holder_piece held user

-- the pieces of the line of counts
abbrev pub counts_piece : ℕ → ℕ → ℕ → List ℕ
counts_piece calls notices records =
    (codes "{\"calls\":" ++ (decimal calls ++ codes ",\"notices\":")) ++ (decimal notices ++ (codes ",\"records\":" ++ (decimal records ++ codes "}\n")))
