-- What the answer to a call is judged: by the call and its transaction as they stand before anything due.
use Rattle.std.proofs.Common.{◌≡◌, ℕ, Bool, true, false, not, cond, ◌&&◌, ◌||◌, nat_le, nat_lt, List, [], ◌∷◌, refl, ap, ◌∙◌, arith}
use Rattle.std.specs.Prelude.{Option, Some, None, is_none}
use Rattle.std.specs.List.{list_any}
use Rattle.std.proofs.lemmas.Bool.Decides.{nat_tests}
use Rattle.iss_model.specs.declared.call.CallId.{CallId}
use Rattle.iss_model.specs.declared.call.How.{How}
use Rattle.iss_model.specs.declared.decision.Answer.TheVariants as answer
use Rattle.iss_model.specs.declared.decision.Judged.{Judged}
use Rattle.iss_model.specs.declared.decision.Judged.TheVariants as judged
use Rattle.iss_model.specs.declared.input.Input.TheVariants as input
use Rattle.iss_model.specs.declared.input.Outcome.{Outcome}
use Rattle.iss_model.specs.rules.Activity.{TxnNow, CallNow, call_numbered, is_asked}
use Rattle.iss_model.specs.rules.Due.{DueItem, due_items, is_quiet}
use Rattle.iss_model.specs.rules.Facts.{txn_in, call_in}
use Rattle.iss_model.specs.rules.Judging.{judgement_as, call_answer, late_answer, judgement_at}
use Rattle.iss_model.specs.rules.Stepping.{after_due}
use Rattle.iss_model.specs.state.Cores.{CoreState, core_facts, core_keeper}
use Rattle.iss_state.specs.Well.{IsAsked}
use Rattle.iss_state.specs.Pending.{IsWell, known_of}
use Rattle.iss_state.proofs.calls.CallsAfterDue.{closed_stays_closed, unknown_stays}
use Rattle.iss_state.proofs.calls.DueHits.{after_due_fate, due_hits}
use Rattle.iss_state.proofs.calls.Fates.{Fate, hits}

pub unknown_answer : (s : CoreState) (call : CallId) (what : Outcome) (at : ℕ) → call_in (core_facts s) call.0 ≡ None
    → judgement_at core_keeper s (input.Answer call what) at ≡ judgement_as (Some (answer.UnknownCall call)) (is_quiet (due_items (core_facts s) at)) (input.Answer call what) at
unknown_answer s call what at e =
    ap (λ (o : Option CallNow). judgement_as (call_answer call o) (is_quiet (due_items (core_facts s) at)) (input.Answer call what) at) (unknown_stays s at call.0 e)

closed_so : (c : CallNow) (how : How) → c.how ≡ Some how → is_asked c ≡ false
closed_so c how e = ap (λ (o : Option How). is_none o) e

pub closed_answer : (s : CoreState) (call : CallId) (what : Outcome) (at : ℕ) (c : CallNow) (how : How) → call_in (core_facts s) call.0 ≡ Some c → c.how ≡ Some how
    → judgement_at core_keeper s (input.Answer call what) at ≡ judgement_as (Some (answer.Late call how)) (is_quiet (due_items (core_facts s) at)) (input.Answer call what) at
closed_answer s call what at c how stands e =
    ap (λ (o : Option CallNow). judgement_as (call_answer call o) (is_quiet (due_items (core_facts s) at)) (input.Answer call what) at) (closed_stays_closed s at call.0 c stands (closed_so c how e))
    ∙ ap (λ (o : Option How). judgement_as (late_answer call o) (is_quiet (due_items (core_facts s) at)) (input.Answer call what) at) e

-- the answer to an asked call is new while the call stays open, and else comes after a time record
abbrev pub asked_answer : CallId → Outcome → ℕ → Bool → Judged
asked_answer call what at waits = cond waits (judged.New (record { at = at; input = input.Answer call what })) (judged.Clock (record { at = at; input = input.Time }))

some_due : (p : DueItem → Bool) (items : List DueItem) → list_any p items ≡ true → is_quiet items ≡ false
some_due p [] h = cc
some_due p (item ∷ items) h = refl

still_open : (call : CallId) (what : Outcome) (at : ℕ) (quiet : Bool) (o : Option How) → is_none o ≡ true
    → judgement_as (late_answer call o) quiet (input.Answer call what) at ≡ judged.New (record { at = at; input = input.Answer call what })
still_open call what at quiet None h = refl
still_open call what at quiet (Some how) h = cc

now_late : (call : CallId) (what : Outcome) (at : ℕ) (quiet : Bool) (o : Option How) → is_none o ≡ false → quiet ≡ false
    → judgement_as (late_answer call o) quiet (input.Answer call what) at ≡ judged.Clock (record { at = at; input = input.Time })
now_late call what at quiet None h k = cc
now_late call what at true (Some how) h k = cc
now_late call what at false (Some how) h k = refl

fated : (call : CallId) (what : Outcome) (at : ℕ) (calls : List CallNow) (c : CallNow) (quiet hit : Bool) → is_asked c ≡ true → (hit ≡ true → quiet ≡ false)
    → Fate calls call.0 c hit
    → judgement_as (call_answer call (call_numbered call.0 calls)) quiet (input.Answer call what) at ≡ asked_answer call what at (not hit)
fated call what at calls c quiet true asked due fate =
    ap (λ (o : Option CallNow). judgement_as (call_answer call o) quiet (input.Answer call what) at) fate.stands ∙ now_late call what at quiet fate.now.how (fate.closed refl) (due refl)
fated call what at calls c quiet false asked due fate =
    ap (λ (o : Option CallNow). judgement_as (call_answer call o) quiet (input.Answer call what) at) fate.stands ∙ still_open call what at quiet fate.now.how (ap is_asked (fate.left refl) ∙ asked)

not_come : (a b at : ℕ) → not (nat_le a at || nat_le b at) ≡ (nat_lt at a && nat_lt at b)
not_come a b at = grind (arith, nat_tests)

pub open_answer : (s : CoreState) (call : CallId) (what : Outcome) (at : ℕ) (c : CallNow) (t : TxnNow) → IsWell s → call_in (core_facts s) call.0 ≡ Some c
    → is_asked c ≡ true → txn_in (core_facts s) c.opened.txn ≡ Some t
    → judgement_at core_keeper s (input.Answer call what) at ≡ asked_answer call what at (nat_lt at c.opened.deadline && nat_lt at t.txn.expires)
open_answer s call what at c t well stands asked its =
    let now : IsAsked s.calls call.0 c = record { stands = stands; asked = asked } in
    fated call what at (after_due core_keeper s at).world.calls c (is_quiet (due_items (core_facts s) at)) (nat_le c.opened.deadline at || nat_le t.txn.expires at) asked
    (λ hit. some_due (λ (i : DueItem). hits call.0 c.opened.txn i.thing) (due_items (core_facts s) at) (due_hits (known_of s) s at call.0 c t well.docket now its ∙ hit))
    (after_due_fate (known_of s) s at call.0 c t well.docket now its)
    ∙ ap (asked_answer call what at) (not_come c.opened.deadline t.txn.expires at)
