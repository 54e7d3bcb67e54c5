-- What a report shows of an account is what the facts hold.
use Rattle.std.proofs.Common.{◌≡◌, ℤ}
use Rattle.iss_model.specs.declared.account.Account.{Account}
use Rattle.iss_model.specs.declared.account.Account.TheVariants as account
use Rattle.iss_model.specs.rules.Facts.{Facts, balance_in}
use Rattle.iss_event.specs.ReportLines.{IsShown}
use Rattle.iss_report.specs.Reported.{held_of}

pub shown : (f : Facts) (a : Account) (balance held : ℤ) → balance ≡ balance_in f a → held ≡ held_of f a → IsShown f a balance held
shown f (account.Gateway c) balance held is own = is
shown f (account.Network c) balance held is own = is
shown f (account.Programme c) balance held is own = is
shown f (account.User user c) balance held is own = (is, own)
