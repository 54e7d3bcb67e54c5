-- The parts of an account's key.
use Rattle.std.specs.Prelude.{ℕ, Bool, nat_lt, List, []}
use Rattle.iss_model.specs.declared.account.Account.{Account}
use Rattle.iss_model.specs.declared.account.Account.TheVariants as account
use Rattle.iss_model.specs.Currencies.{iso_number}

-- an account's kind, as a number
abbrev pub kind_of : Account → ℕ
kind_of (account.Gateway c) = 1
kind_of (account.Network c) = 2
kind_of (account.Programme c) = 3
kind_of (account.User user c) = 4

-- an account's user, if it has one
abbrev pub user_of : Account → List ℕ
user_of (account.User user c) = user
user_of _ = []

-- the number of an account's currency
abbrev pub number_of : Account → ℕ
number_of (account.Gateway c) = iso_number c
number_of (account.Network c) = iso_number c
number_of (account.Programme c) = iso_number c
number_of (account.User user c) = iso_number c

-- a byte isn't 0
abbrev pub is_above_zero : ℕ → Bool
is_above_zero b = nat_lt 0 b
