-- How pieces are paid: holds, calls, releases, abandonments, ends and asks that are decided.
use Rattle.std.specs.Prelude.{[], Some, length, true, neg_ℤ, pos, ℕ, ◌*◌, ◌+◌, ◌∷◌, ◌≡◌, ◌≤◌}
use Rattle.iss_model.specs.declared.account.Account.{Account}
use Rattle.iss_model.specs.declared.account.Part.{Part}
use Rattle.iss_model.specs.declared.call.CallId.{CallId}
use Rattle.iss_model.specs.declared.call.How.{How}
use Rattle.iss_model.specs.declared.call.Opened.{Opened}
use Rattle.iss_model.specs.declared.decision.Reason.{Reason}
use Rattle.iss_model.specs.declared.entry.Entry.TheVariants as entry
use Rattle.iss_model.specs.declared.setting.Set.{Set}
use Rattle.iss_model.specs.declared.txn.Txn.{Txn}
use Rattle.iss_model.specs.rules.Activity.{CallNow, call_numbered, is_asked}
use Rattle.iss_model.specs.rules.Acts.{Abandons, StandsIn, act_entries, entries_of_acts}
use Rattle.iss_model.specs.rules.Asks.{Ask}
use Rattle.iss_model.specs.rules.CardActs.{end_acts}
use Rattle.iss_model.specs.rules.Facts.{Facts, asked_calls_of}
use Rattle.iss_model.specs.rules.Pieces.{Parts, declined_ask_entries, funded_ask_entries, in_all, part_funded_entries, release_entries}
use Rattle.iss_model.specs.state.Cores.{CoreState}
use Rattle.iss_state.specs.Effects.{Effect, Paid}
use Rattle.iss_state.specs.Stakes.{at_least_one, part_held, total_asked}

-- an amount that is held moves a sum by that amount, and is put at stake
abbrev pub MoreIsPaid : CoreState → Txn → Part → ℕ → Type 0
MoreIsPaid s t p amount = Effect s (entry.Hold t.token t.user t.currency p (pos amount) ∷ []) amount 0 amount 0

-- an amount that is let go, at most what is held, moves a sum by that amount, and is taken from what is at stake
abbrev pub LessIsPaid : CoreState → Txn → Part → ℕ → Type 0
LessIsPaid s t p amount =
    amount ≤ part_held s.holdings.parts t.token p
    → Effect s (entry.Hold t.token t.user t.currency p (neg_ℤ (pos amount)) ∷ []) amount 0 0 amount

-- what a call asks is at stake twice
abbrev pub stake_of : Opened → ℕ
stake_of o = 2 * at_least_one o.amount

-- opening the call with the next number puts at stake what it asks
abbrev pub OpeningIsPaid : CoreState → Opened → Type 0
OpeningIsPaid s o = o.call.0 ≡ length s.calls + 1 → Effect s (entry.Opened o ∷ []) 0 0 (stake_of o) 0

-- closing an asked call takes from what is at stake what it asks
abbrev pub ClosingIsPaid : CoreState → CallId → How → CallNow → Type 0
ClosingIsPaid s call how c =
    call_numbered call.0 s.calls ≡ Some c → is_asked c ≡ true → Effect s (entry.Closed call how ∷ []) 0 0 0 (stake_of c.opened)

-- a release of no more than these parts moves twice its amount, uses it once, and takes it from what is at stake
abbrev pub ReleaseIsPaid : CoreState → Txn → Parts → ℕ → Type 0
ReleaseIsPaid s t parts amount = amount ≤ in_all parts → Effect s (release_entries t parts amount) (2 * amount) amount 0 amount

-- an abandonment, by facts with the state's calls, uses twice what these ask, and takes as much from what is at stake
abbrev pub AbandonmentIsPaid : CoreState → ℕ → Facts → Txn → Reason → Parts → Type 0
AbandonmentIsPaid s number f t why parts =
    s.calls ≡ f.calls
    → Effect s (act_entries (Abandons number t why (asked_calls_of f t.token) parts)) 0 (2 * total_asked (asked_calls_of f t.token)) 0
    (2 * total_asked (asked_calls_of f t.token))

-- an end, by facts with the state's calls, costs nothing beyond what was at stake
abbrev pub EndIsPaid : CoreState → ℕ → Facts → Txn → Parts → Reason → Type 0
EndIsPaid s number f t parts why = s.calls ≡ f.calls → Paid 0 0 s (entries_of_acts (end_acts number f t parts why))

-- an ask that is declined costs no money, and twice in use what it asks
abbrev pub DeclineIsPaid : CoreState → Ask → Reason → Type 0
DeclineIsPaid s ask why = Paid 0 (2 * at_least_one ask.amount) s (declined_ask_entries ask why)

-- an ask that is funded costs four times its amount in money, and once in use
abbrev pub FundingIsPaid : CoreState → Ask → Account → Part → Type 0
FundingIsPaid s ask from p = Paid (4 * ask.amount) ask.amount s (funded_ask_entries ask from p)

-- A part of at most a call's amount that is funded costs four times the part in money. In use it costs once what the call asks.
abbrev pub PartIsPaid : CoreState → Opened → Txn → ℕ → Type 0
PartIsPaid s o t amount = amount ≤ o.amount → Paid (4 * amount) o.amount s (part_funded_entries o t amount)

-- an ask that a set stands in for costs four times its amount in money, and twice in use
abbrev pub StandInIsPaid : CoreState → ℕ → Ask → ℕ → Set → Type 0
StandInIsPaid s number ask at set = Paid (4 * ask.amount) (2 * ask.amount) s (act_entries (StandsIn number ask at set))
