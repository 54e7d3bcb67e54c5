-- States and entries whose fields are of their forms.
use Rattle.std.specs.Prelude.{Bool, List, None, Option, Some, ℕ, true, ◌&&◌, ◌<◌, ◌^◌, ◌≡◌}
use Rattle.std.specs.List.{list_all}
use Rattle.iss_model.specs.declared.call.How.{How}
use Rattle.iss_model.specs.declared.call.How.TheVariants as how
use Rattle.iss_model.specs.declared.currency.Currency.{Currency}
use Rattle.iss_model.specs.declared.decision.Verdict.{Verdict}
use Rattle.iss_model.specs.declared.decision.Verdict.TheVariants as verdict
use Rattle.iss_model.specs.declared.entry.Entry.{Entry}
use Rattle.iss_model.specs.declared.entry.Entry.TheVariants as entry
use Rattle.iss_model.specs.declared.input.Input.{Input}
use Rattle.iss_model.specs.Forms.{is_amount, is_hold_time, is_in_form, is_stamp, is_timeout}
use Rattle.iss_model.specs.rules.Activity.{CallNow, TxnNow}
use Rattle.iss_model.specs.rules.Facts.{Decision}
use Rattle.iss_model.specs.state.Cores.{CoreState, ProductNow}

-- a product's times are of their forms
abbrev pub are_times : ProductNow → Bool
are_times p = is_timeout p.product.timeout_ms && is_hold_time p.product.hold_ms

-- a transaction began at a stamp
abbrev pub is_begun_at_stamp : TxnNow → Bool
is_begun_at_stamp t = is_stamp t.txn.at

-- a call was opened at a stamp
abbrev pub is_opened_at_stamp : CallNow → Bool
is_opened_at_stamp c = is_stamp c.opened.at

-- if a call is closed as funded in part, the part is an amount
abbrev pub is_how_in_form : How → Bool
is_how_in_form how.Funded = true
is_how_in_form how.Refused = true
is_how_in_form (how.Failed why) = true
is_how_in_form how.Abandoned = true
is_how_in_form (how.Partial amount) = is_amount amount

-- if a call is closed, how it was closed is in form
abbrev pub is_end_in_form : Option How → Bool
is_end_in_form None = true
is_end_in_form (Some how) = is_how_in_form how

-- what a call was closed as is in form
abbrev pub is_closed_in_form : CallNow → Bool
is_closed_in_form c = is_end_in_form c.how

-- if an event is approved for a part, the part is an amount
abbrev pub is_verdict_in_form : Verdict → Bool
is_verdict_in_form verdict.Done = true
is_verdict_in_form verdict.Approved = true
is_verdict_in_form (verdict.Declined why) = true
is_verdict_in_form (verdict.Partial currency amount) = is_amount amount

-- what an event was decided as is in form
abbrev pub is_decided_in_form : Decision → Bool
is_decided_in_form d = is_verdict_in_form d.verdict

-- What a state keeps is of its form: its time, the times of its products, and when its transactions began and its calls were opened. So
-- are the parts that calls were funded with and events are approved for.
pub record IsInForm (s : CoreState) : Type 0 where
  pub now : is_stamp s.now ≡ true
  pub products : list_all are_times s.products ≡ true
  pub txns : list_all is_begun_at_stamp s.holdings.txns ≡ true
  pub calls : list_all is_opened_at_stamp s.calls ≡ true
  pub closed : list_all is_closed_in_form s.calls ≡ true
  pub decided : list_all is_decided_in_form s.decisions ≡ true

-- an entry's input is of its form, its moment a stamp, or its part an amount
abbrev pub is_entry_in_form : Entry → Bool
is_entry_in_form (entry.Conf i) = is_in_form i
is_entry_in_form (entry.Began t) = is_stamp t.at
is_entry_in_form (entry.Opened o) = is_stamp o.at
is_entry_in_form (entry.Closed call how) = is_how_in_form how
is_entry_in_form (entry.Decided event verdict) = is_verdict_in_form verdict
is_entry_in_form (entry.Usage row) = is_stamp row.at
is_entry_in_form (entry.Stood set product user amount at) = is_stamp at
is_entry_in_form _ = true

-- a part that an entry in form approves an event for is less than 2^62
abbrev pub ApprovesSmall : List ℕ → Currency → ℕ → Type 0
ApprovesSmall event currency amount =
    is_entry_in_form (entry.Decided event (verdict.Partial currency amount)) ≡ true → amount < 2 ^ 62

-- each of these entries is in form
abbrev pub AreEntriesInForm : List Entry → Type 0
AreEntriesInForm es = list_all is_entry_in_form es ≡ true

-- what holds if a state is in form, and the moment a stamp
abbrev pub IfInFormAt : CoreState → ℕ → Type 0 → Type 0
IfInFormAt s at Holds = IsInForm s → is_stamp at ≡ true → Holds

-- what holds if, besides, an input is in form
abbrev pub IfInFormWith : CoreState → Input → ℕ → Type 0 → Type 0
IfInFormWith s i at Holds = IsInForm s → is_in_form i ≡ true → is_stamp at ≡ true → Holds
