-- What a report shows as held, and when its texts are whole.
use Rattle.std.specs.Prelude.{ℕ, ℤ, pos, List}
use Rattle.iss_model.specs.declared.account.Account.{Account}
use Rattle.iss_model.specs.declared.account.Account.TheVariants as account
use Rattle.iss_model.specs.rules.Facts.{Facts, held_in}
use Rattle.iss_texts.specs.declared.row.Texts.{Texts}
use Rattle.iss_texts.specs.TextRows.{HasAll}

-- what is held of an account's user in its currency, and nothing of an account that is no user's
abbrev pub held_of : Facts → Account → ℤ
held_of f (account.User user currency) = held_in f user currency
held_of f (account.Gateway currency) = pos 0
held_of f (account.Network currency) = pos 0
held_of f (account.Programme currency) = pos 0

-- each text in the row is whole
pub record AreWhole (t : Texts) : Type 0 where
  pub lines : List (List ℕ)
  pub all : HasAll lines t
