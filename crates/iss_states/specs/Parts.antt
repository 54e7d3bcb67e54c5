-- Calls that the gateway funded in part, and the events that were approved for those parts.
use Rattle.std.specs.Prelude.{◌≡◌, ℕ, true, nat_lt, List, Some}
use Rattle.iss_model.specs.declared.call.How.TheVariants as how
use Rattle.iss_model.specs.declared.call.Opened.{Opened}
use Rattle.iss_model.specs.declared.currency.Currency.{Currency}
use Rattle.iss_model.specs.declared.decision.Verdict.TheVariants as verdict
use Rattle.iss_model.specs.rules.Activity.{CallNow, call_numbered}
use Rattle.iss_model.specs.rules.Facts.{Decision, verdict_in}
use Rattle.iss_model.specs.state.Cores.{CoreState}

-- A call's event was approved for this part, in its currency. The call permits a part, and the part is less than all.
pub record IsPart (ds : List Decision) (o : Opened) (amount : ℕ) : Type 0 where
  pub decided : verdict_in ds o.event ≡ Some (verdict.Partial o.currency amount)
  pub permitted : o.partial ≡ true
  pub less : nat_lt amount o.amount ≡ true

-- A call of this event was closed as funded in this part, in its currency.
pub record HasPart (calls : List CallNow) (event : List ℕ) (currency : Currency) (amount : ℕ) : Type 0 where
  pub number : ℕ
  pub call : CallNow
  pub stands : call_numbered number calls ≡ Some call
  pub its_event : call.opened.event ≡ event
  pub its_currency : call.opened.currency ≡ currency
  pub closed : call.how ≡ Some (how.Partial amount)

-- Calls that were closed as funded in part and events that were approved for a part go together, with the amounts.
pub record AgreeOnParts (calls : List CallNow) (ds : List Decision) : Type 0 where
  pub closed : (n : ℕ) (x : CallNow) (amount : ℕ) → call_numbered n calls ≡ Some x → x.how ≡ Some (how.Partial amount) → IsPart ds x.opened amount
  pub decided : (event : List ℕ) (currency : Currency) (amount : ℕ) → verdict_in ds event ≡ Some (verdict.Partial currency amount) → HasPart calls event currency amount

-- so it is in a core
abbrev pub PartsAgree : CoreState → Type 0
PartsAgree c = AgreeOnParts c.calls c.decisions
