-- Calls of a state, as time passes and answers come.
use Rattle.std.specs.Prelude.{◌≡◌, ◌<◌, ◌^◌, ℕ, nat_lt, Bool, true, ◌&&◌, List, map, Option, Some, None, if◌then◌else◌}
use Rattle.iss_model.specs.declared.call.CallId.{CallId}
use Rattle.iss_model.specs.declared.call.Opened.{Opened}
use Rattle.iss_model.specs.declared.call.How.{How}
use Rattle.iss_model.specs.declared.call.How.TheVariants as how
use Rattle.iss_model.specs.declared.currency.Currency.{Currency}
use Rattle.iss_model.specs.declared.decision.Answer.{Answer}
use Rattle.iss_model.specs.declared.decision.Answer.TheVariants as answer
use Rattle.iss_model.specs.declared.decision.Judged.{Judged}
use Rattle.iss_model.specs.declared.decision.Judged.TheVariants as judged
use Rattle.iss_model.specs.declared.decision.Verdict.TheVariants as verdict
use Rattle.iss_model.specs.declared.input.Input.TheVariants as input
use Rattle.iss_model.specs.declared.input.Outcome.{Outcome}
use Rattle.iss_model.specs.rules.Activity.{CallNow, TxnNow, is_asked}
use Rattle.iss_model.specs.rules.Due.{due_items, is_quiet}
use Rattle.iss_model.specs.rules.Facts.{call_in, txn_in}
use Rattle.iss_model.specs.rules.Judging.{judgement_as, judgement_at}
use Rattle.iss_model.specs.rules.Reasons.{is_some_with}
use Rattle.iss_model.specs.state.Cores.{CoreState, core_facts, core_keeper}
use Rattle.iss_state.specs.After.{after_all_due}
use Rattle.iss_state.specs.Pending.{IsWell}

-- the call of a number
abbrev pub call_at : CoreState → ℕ → Option CallNow
call_at s n = call_in (core_facts s) n

-- the calls of a state, each as it was opened
abbrev pub opened_calls : CoreState → List Opened
opened_calls s = map (λ c. c.opened) s.calls

-- what holds if a state is well, and the call of a number is this one and asked
abbrev pub IfAsked : CoreState → ℕ → CallNow → Type 0 → Type 0
IfAsked s n c Holds = IsWell s → call_at s n ≡ Some c → is_asked c ≡ true → Holds

-- what holds if, besides, this is the call's transaction
abbrev pub IfAskedOf : CoreState → ℕ → CallNow → TxnNow → Type 0 → Type 0
IfAskedOf s n c t Holds = IfAsked s n c (txn_in (core_facts s) c.opened.txn ≡ Some t → Holds)

-- at a moment a call's deadline and its transaction's expiry are still to come
abbrev pub is_open_at : ℕ → CallNow → TxnNow → Bool
is_open_at at c t = nat_lt at c.opened.deadline && nat_lt at t.txn.expires

-- the call of a number is asked after all that is due at a moment is settled
abbrev pub stays_asked : CoreState → ℕ → ℕ → Bool
stays_asked s at n = is_some_with is_asked (call_at (after_all_due s at) n)

-- once all that is due is settled, a call is asked exactly if its deadline and its transaction's expiry are still to come
abbrev pub EndsOnTime : CoreState → ℕ → ℕ → CallNow → TxnNow → Type 0
EndsOnTime s at n c t = stays_asked s at n ≡ is_open_at at c t

-- the call of a number is this one after all that is due at a moment is settled
abbrev pub IsStill : CoreState → ℕ → ℕ → CallNow → Type 0
IsStill s at n c = call_at (after_all_due s at) n ≡ Some c

-- before its deadline and its transaction's expiry, a call is the same after all that is due
abbrev pub StaysInTime : CoreState → ℕ → ℕ → CallNow → TxnNow → Type 0
StaysInTime s at n c t = at < c.opened.deadline → at < t.txn.expires → IsStill s at n c

-- an asked call of this number asks less than 2^62
abbrev pub AsksSmall : CoreState → ℕ → CallNow → Type 0
AsksSmall s n c = call_at s n ≡ Some c → is_asked c ≡ true → c.opened.amount < 2 ^ 62

-- if a call was funded with this part, the part is less than 2^62
abbrev pub IsFundedSmall : CoreState → ℕ → CallNow → ℕ → Type 0
IsFundedSmall s n c amount = call_at s n ≡ Some c → c.how ≡ Some (how.Partial amount) → amount < 2 ^ 62

-- if an event is approved for this part, the part is less than 2^62
abbrev pub IsApprovedSmall : CoreState → List ℕ → ℕ → Type 0
IsApprovedSmall s event amount =
    (currency : Currency) → (core_facts s).decisions event ≡ Some (verdict.Partial currency amount) → amount < 2 ^ 62

-- how an answer to a call is judged at a moment
abbrev pub answer_judged : CoreState → CallId → Outcome → ℕ → Judged
answer_judged s call what at = judgement_at core_keeper s (input.Answer call what) at

-- An answer to a call is told this; if something is due then, a record of the time comes first.
abbrev pub IsTold : CoreState → CallId → Outcome → ℕ → Answer → Type 0
IsTold s call what at told =
    answer_judged s call what at ≡ judgement_as (Some told) (is_quiet (due_items (core_facts s) at)) (input.Answer call what) at

-- an answer to a call that was never opened is told so
abbrev pub UnknownIsTold : CoreState → CallId → Outcome → ℕ → Type 0
UnknownIsTold s call what at = call_at s call.0 ≡ None → IsTold s call what at (answer.UnknownCall call)

-- an answer to a call that is closed is told how
abbrev pub LateIsTold : CoreState → CallId → Outcome → ℕ → CallNow → How → Type 0
LateIsTold s call what at c how = call_at s call.0 ≡ Some c → c.how ≡ Some how → IsTold s call what at (answer.Late call how)

-- an answer to a call is new if it comes in time, and else a record of the time comes first
abbrev pub IsNewInTime : CoreState → CallId → Outcome → ℕ → CallNow → TxnNow → Type 0
IsNewInTime s call what at c t =
    answer_judged s call what at ≡ (if is_open_at at c t then judged.New (record { at = at; input = input.Answer call what })
    else judged.Clock (record { at = at; input = input.Time }))
