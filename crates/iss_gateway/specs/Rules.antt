-- The rules of the reference gateway: how much it would fund for an ask.
use Rattle.std.specs.Prelude.{ℕ, ℤ, pos, ◌-◌, min, ◌-ℤ◌, List, if◌then◌else◌}
use Rattle.std.specs.Str.{bytes_eq}
use Rattle.iss_model.specs.declared.currency.Currency.{Currency}
use Rattle.iss_model.specs.rules.Facts.{not_below}
use Rattle.iss_gateway.specs.declared.message.Message.{Message}
use Rattle.iss_gateway.specs.declared.message.Message.TheVariants as message
use Rattle.iss_gateway.specs.declared.message.Given.{Given}
use Rattle.iss_gateway.specs.Books.{Books, new_books, heard, given_after, sum_over, standing, given_back}

-- a reference gateway: the most that it funds for a call, what a user may have of it in all, and its books
pub record Reference : Type 0 where
  pub most : ℕ
  pub limit : ℕ
  pub books : Books

-- one that has heard nothing
abbrev pub new_reference : ℕ → ℕ → Reference
new_reference most limit = record { most = most; limit = limit; books = new_books }

-- what was funded to a user in a currency and not undone, less what the user's notes gave back
abbrev pub owed : Books → List ℕ → Currency → ℤ
owed b user c =
    sum_over (λ p. if bytes_eq p.user user then standing b c p else pos 0) b.promises
    -ℤ sum_over (λ n. if bytes_eq n.user user then given_back c n else pos 0) b.notes

-- what a user has in a currency: 0 if that is below 0
abbrev pub has : Books → List ℕ → Currency → ℕ
has b user c = not_below (owed b user c)

-- how much it would fund: the lesser of the most for a call, and of the user's limit less what the user has
abbrev pub wish_for : Reference → Message → ℕ
wish_for r (message.Ask token amount currency user partial) = min r.most (r.limit - has r.books user currency)
wish_for r (message.Note number token currency user gateway) = 0

-- what it comes to by a message
abbrev pub after_hearing : Reference → Message → Reference
after_hearing r m = record r { books = heard (wish_for r m) r.books m }

-- what it gives for a message
abbrev pub given_for : Reference → Message → Given
given_for r m = given_after (after_hearing r m).books m
