-- A test of entries that are posts.
use Rattle.std.specs.Prelude.{Bool, true}
use Rattle.iss_model.specs.declared.entry.Entry.{Entry}
use Rattle.iss_model.specs.declared.entry.Entry.TheVariants as entry
use Rattle.iss_model.specs.Currencies.{same_currency}
use Rattle.iss_model.specs.Sums.{account_currency}

-- an entry that is a post moves money between accounts of one currency
abbrev pub posts_within_one_currency : Entry → Bool
posts_within_one_currency (entry.Post from to amount txn) = same_currency (account_currency from) (account_currency to)
posts_within_one_currency _ = true
