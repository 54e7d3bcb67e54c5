-- All that the rules ask of what stands.
use Rattle.std.specs.Prelude.{ℕ, ◌+◌, ℤ, pos, negsuc, ◌-ℤ◌, Bool, ◌&&◌, nat_le, List, find, filter, length, Option, Some, None, option_map}
use Rattle.std.specs.Str.{bytes_eq}
use Rattle.iss_model.specs.declared.currency.Currency.{Currency}
use Rattle.iss_model.specs.declared.account.Account.{Account}
use Rattle.iss_model.specs.declared.account.Account.TheVariants as account
use Rattle.iss_model.specs.declared.account.Part.{Part}
use Rattle.iss_model.specs.declared.setting.User.{User}
use Rattle.iss_model.specs.declared.setting.Card.{Card}
use Rattle.iss_model.specs.declared.setting.Product.{Product}
use Rattle.iss_model.specs.declared.setting.Set.{Set}
use Rattle.iss_model.specs.declared.call.Notice.{Notice}
use Rattle.iss_model.specs.declared.decision.Verdict.{Verdict}
use Rattle.iss_model.specs.declared.decision.Reply.{Reply}
use Rattle.iss_model.specs.declared.decision.Reply.TheVariants.{Decided, Pending}
use Rattle.iss_model.specs.declared.input.Input.{Input}
use Rattle.iss_model.specs.declared.entry.Entry.{Entry}
use Rattle.iss_model.specs.declared.entry.Entry.TheVariants as entry
use Rattle.iss_model.specs.Sums.{account_key, user_key, part_key, stood_key}
use Rattle.iss_model.specs.Inputs.{is_event}
use Rattle.iss_model.specs.rules.Controls.{Group, ControlNow}
use Rattle.iss_model.specs.rules.Activity.{TxnNow, CallNow, txn_named, call_numbered, is_asked}

-- an accepted event with the number and the stamp of its record
pub record Accepted : Type 0 where
  pub number : ℕ
  pub at : ℕ
  pub input : Input

-- an event and how it was decided
pub record Decision : Type 0 where
  pub event : List ℕ
  pub verdict : Verdict

-- What stands: the time, the number of records, what was accepted and decided, what was set, what happened, and the sums by key.
pub record Facts : Type 0 where
  pub now : ℕ
  pub count : ℕ
  pub accepted : List Accepted
  pub decisions : List ℕ → Option Verdict
  pub users : List User
  pub cards : List Card
  pub products : List Product
  pub switched : List (List ℕ)
  pub groups : List Group
  pub controls : List ControlNow
  pub sets : List Set
  pub txns : List TxnNow
  pub calls : List CallNow
  pub notices_made : ℕ
  pub pending : List Notice
  pub balances : List ℕ → ℤ
  pub holds : List ℕ → ℤ
  pub parts : List ℕ → ℤ
  pub cleared : List ℕ → ℤ
  pub refunded : List ℕ → ℤ
  pub paid : List ℕ → ℤ
  pub stood : List ℕ → ℤ

-- the decision that an entry makes
abbrev pub decision_of : Entry → Option Decision
decision_of (entry.Decided event verdict) = Some (record { event = event; verdict = verdict })
decision_of _ = None

-- how an event was decided first, if it is decided
abbrev pub verdict_in : List Decision → List ℕ → Option Verdict
verdict_in ds event = option_map (λ d. d.verdict) (find (λ d. bytes_eq d.event event) ds)

-- the first record of an event
abbrev pub event_in : Facts → List ℕ → Option Accepted
event_in f token = find (λ a. is_event token a.input) f.accepted

-- the reply to an event that was decided, or not yet
abbrev pub reply_of_verdict : Option Verdict → Reply
reply_of_verdict None = Pending
reply_of_verdict (Some v) = Decided v

-- an event's verdict, or that its call is still open
abbrev pub reply_in : Facts → List ℕ → Reply
reply_in f token = reply_of_verdict (f.decisions token)

-- the reply of an event, if it stands
abbrev pub event_reply : Facts → List ℕ → Option Reply
event_reply f token = option_map (λ first. reply_in f token) (event_in f token)

-- the balance of an account
abbrev pub balance_in : Facts → Account → ℤ
balance_in f a = f.balances (account_key a)

-- what all transactions of a user hold in a currency
abbrev pub held_in : Facts → List ℕ → Currency → ℤ
held_in f user currency = f.holds (user_key user currency)

-- what a user can still spend in a currency
abbrev pub available_in : Facts → List ℕ → Currency → ℤ
available_in f user currency = balance_in f (account.User user currency) -ℤ held_in f user currency

-- a sum as an amount: none if it is negative
abbrev pub not_below : ℤ → ℕ
not_below (pos n) = n
not_below (negsuc n) = 0

-- a part of what a transaction holds
abbrev pub part_in : Facts → List ℕ → Part → ℕ
part_in f txn part = not_below (f.parts (part_key txn part))

-- what stood in for a product and user on the day of a stamp
abbrev pub stand_in_sum : Facts → List ℕ → List ℕ → ℕ → ℤ
stand_in_sum f product user at = f.stood (stood_key product user at)

-- the transaction of this token
abbrev pub txn_in : Facts → List ℕ → Option TxnNow
txn_in f token = txn_named token f.txns

-- the call of this number
abbrev pub call_in : Facts → ℕ → Option CallNow
call_in f number = call_numbered number f.calls

-- the asked calls of a transaction, by number
abbrev pub asked_calls_of : Facts → List ℕ → List CallNow
asked_calls_of f txn = filter (λ c. is_asked c && bytes_eq c.opened.txn txn) f.calls

-- notices are numbered from 1, in the order in which they are made
abbrev pub next_notice : Facts → ℕ
next_notice f = f.notices_made + 1

-- calls are numbered from 1, in the order in which they are opened
abbrev pub next_call : Facts → ℕ
next_call f = length f.calls + 1

-- there is a notice of this number
abbrev pub is_notice : Facts → ℕ → Bool
is_notice f number = nat_le 1 number && nat_le number f.notices_made
