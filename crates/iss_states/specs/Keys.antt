-- What the keys of kept sums say: no token has a byte 0, so a key is read again.
use Rattle.std.specs.Prelude.{ℕ, suc, zero, ℤ, pos, negsuc, Bool, true, false, ◌==◌, List, [], ◌∷◌, find, fold, unwrap_or, if◌then◌else◌}
use Rattle.std.specs.List.{list_all}
use Rattle.iss_model.specs.declared.account.Account.{Account}
use Rattle.iss_model.specs.declared.account.Account.TheVariants as account
use Rattle.iss_model.specs.declared.currency.Currency.{Currency}
use Rattle.iss_model.specs.declared.currency.Currency.TheVariants.{Usd}
use Rattle.iss_model.specs.Currencies.{iso_number, currencies}

-- the token that a key begins with
abbrev pub first_token : List ℕ → List ℕ
first_token [] = []
first_token (zero ∷ rest) = []
first_token (suc n ∷ rest) = suc n ∷ first_token rest

-- what comes after that token and its 0
abbrev pub after_token : List ℕ → List ℕ
after_token [] = []
after_token (zero ∷ rest) = rest
after_token (suc n ∷ rest) = after_token rest

-- the number that a key ends with
abbrev pub last_number : List ℕ → ℕ
last_number key = fold (λ last n. n) 0 key

-- the whole number that a key is: one below 0 begins with a 0
abbrev pub int_of_key : List ℕ → ℤ
int_of_key [] = pos 0
int_of_key (zero ∷ rest) = negsuc (last_number rest)
int_of_key (suc one ∷ rest) = pos (last_number rest)

-- the currency of a numeric code
abbrev pub currency_numbered : ℕ → Currency
currency_numbered n = unwrap_or (find (λ c. iso_number c == n) currencies) Usd

-- the account of a kind, of this user if it is one's
abbrev pub account_of_kind : ℕ → List ℕ → Currency → Account
account_of_kind kind user currency =
    if kind == 1 then account.Gateway currency
    else if kind == 2 then account.Network currency
    else if kind == 3 then account.Programme currency
    else account.User user currency

-- the account of a key
abbrev pub account_of_key : List ℕ → Account
account_of_key [] = account.Gateway Usd
account_of_key (kind ∷ rest) = account_of_kind kind (first_token rest) (currency_numbered (last_number rest))

-- a number is above 0
abbrev pub is_above_zero : ℕ → Bool
is_above_zero zero = false
is_above_zero (suc n) = true

-- no byte of a text is 0, as in a token
abbrev pub has_no_zero : List ℕ → Bool
has_no_zero text = list_all is_above_zero text

-- the user of an account has a token for a name
abbrev pub is_named_by_token : Account → Bool
is_named_by_token (account.User user currency) = has_no_zero user
is_named_by_token _ = true
