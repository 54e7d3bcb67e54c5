-- How closings that fund calls, or parts of them, and posts from the gateway come in pairs.
use Rattle.std.specs.Prelude.{ℕ, Bool, true, false, ◌&&◌, ◌==◌, List, Option, Some, None, if◌then◌else◌}
use Rattle.std.specs.Str.{bytes_eq}
use Rattle.iss_model.specs.declared.account.Account.{Account}
use Rattle.iss_model.specs.declared.account.Account.TheVariants as account
use Rattle.iss_model.specs.declared.call.How.TheVariants as how
use Rattle.iss_model.specs.declared.call.Opened.{Opened}
use Rattle.iss_model.specs.declared.entry.Entry.{Entry}
use Rattle.iss_model.specs.declared.entry.Entry.TheVariants as entry
use Rattle.iss_model.specs.Inputs.{is_text}
use Rattle.iss_model.specs.Sums.{account_key}
use Rattle.iss_model.specs.rules.Activity.{CallNow}
use Rattle.iss_model.specs.rules.CardActs.{counts_as_part}
use Rattle.iss_model.specs.rules.Facts.{Facts, call_in}

-- an account is the gateway's
abbrev pub is_gateway : Account → Bool
is_gateway (account.Gateway currency) = true
is_gateway (account.User user currency) = false
is_gateway (account.Programme currency) = false
is_gateway (account.Network currency) = false

-- what a call is paid: all of its amount, or a part that the call permits and that is less than all
abbrev pub is_paid_amount : Opened → Option ℕ → ℕ → Bool
is_paid_amount o None amount = amount == o.amount
is_paid_amount o (Some part) amount = amount == part && counts_as_part o o.currency part

-- a post is of a call's amount, or of its part, from the gateway to the call's user, for its transaction
abbrev pub pays : Opened → Option ℕ → Account → Account → ℕ → Option (List ℕ) → Bool
pays o part from to amount txn =
    bytes_eq (account_key from) (account_key (account.Gateway o.currency))
    && bytes_eq (account_key to) (account_key (account.User o.user o.currency))
    && is_paid_amount o part amount
    && is_text o.txn txn

-- a post pays this call, if there is one
abbrev pub pays_call : Option CallNow → Option ℕ → Account → Account → ℕ → Option (List ℕ) → Bool
pays_call None part from to amount txn = false
pays_call (Some c) part from to amount txn = pays c.opened part from to amount txn

-- How closings that fund and posts have come in pairs so far: all are, or they aren't. Or a closing of a call, by its number, waits for its
-- post in a record, of the part if only a part is funded.
pub data Pairing : Type 0 where
  paired : Pairing
  waits : ℕ → Option ℕ → ℕ → Pairing
  unpaired : Pairing

-- A closing that funds waits for the next post, which pays its call in its record, and before which no other such closing comes. A post
-- that none waits for isn't from the gateway.
abbrev pub pairing_after : Facts → ℕ → Pairing → Entry → Pairing
pairing_after f number paired (entry.Closed call how.Funded) = waits call.0 None number
pairing_after f number paired (entry.Closed call (how.Partial part)) = waits call.0 (Some part) number
pairing_after f number paired (entry.Closed call how.Refused) = paired
pairing_after f number paired (entry.Closed call (how.Failed why)) = paired
pairing_after f number paired (entry.Closed call how.Abandoned) = paired
pairing_after f number paired (entry.Post from to amount txn) = if is_gateway from then unpaired else paired
pairing_after f number paired _ = paired
pairing_after f number (waits call part record_) (entry.Closed other how.Funded) = unpaired
pairing_after f number (waits call part record_) (entry.Closed other (how.Partial other_part)) = unpaired
pairing_after f number (waits call part record_) (entry.Closed other how.Refused) = waits call part record_
pairing_after f number (waits call part record_) (entry.Closed other (how.Failed why)) = waits call part record_
pairing_after f number (waits call part record_) (entry.Closed other how.Abandoned) = waits call part record_
pairing_after f number (waits call part record_) (entry.Post from to amount txn) =
    if number == record_ && pays_call (call_in f call) part from to amount txn then paired else unpaired
pairing_after f number (waits call part record_) _ = waits call part record_
pairing_after f number unpaired e = unpaired

-- no closing waits, and none was left without its post
abbrev pub is_paired : Pairing → Bool
is_paired paired = true
is_paired (waits call part record_) = false
is_paired unpaired = false
