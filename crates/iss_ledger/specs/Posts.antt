-- What a post does to the balances.
use Rattle.std.specs.Prelude.{ℕ, None, if◌then◌else◌}
use Rattle.std.specs.Str.{bytes_eq}
use Rattle.iss_model.specs.declared.account.Account.{Account}
use Rattle.iss_model.specs.declared.entry.Entry.TheVariants as entry
use Rattle.iss_model.specs.Sums.{account_key, balance_changes}
use Rattle.iss_model.specs.state.Kept.{Kept, after_changes}

-- the balances after a post
abbrev pub after_post : Kept → Account → Account → ℕ → Kept
after_post sums from to amount = after_changes sums (balance_changes (entry.Post from to amount None))

-- what a post moves: nothing if both accounts are one
abbrev pub moved_amount : Account → Account → ℕ → ℕ
moved_amount from to amount = if bytes_eq (account_key from) (account_key to) then 0 else amount
