-- A call is closed as often as it was opened and is asked no more.
use Rattle.std.proofs.Common.{◌≡◌, ℕ, suc, ◌+◌, ◌≤◌, Bool, true, false, cond, nat_eq, List, [], ◌∷◌, ◌++◌, length, map, fold, refl, sym, ap, subst, ◌∙◌, arith}
use Rattle.std.specs.Prelude.{Option, Some, None, option_map}
use Rattle.std.specs.Option.{option_or}
use Rattle.std.proofs.lemmas.Bool.Decides.{nat_tests}
use Rattle.iss_model.specs.declared.call.CallId.{CallId}
use Rattle.iss_model.specs.declared.call.How.{How}
use Rattle.iss_model.specs.declared.call.Opened.{Opened}
use Rattle.iss_model.specs.declared.entry.Entry.{Entry}
use Rattle.iss_model.specs.declared.entry.Entry.TheVariants as entry
use Rattle.iss_model.specs.declared.input.Input.{Input}
use Rattle.iss_model.specs.rules.Activity.{CallNow, call_numbered, is_asked}
use Rattle.iss_model.specs.rules.Reasons.{is_some_with}
use Rattle.iss_model.specs.state.Cores.{CoreState, after_entry, after_setting, call_after_close}
use Rattle.iss_state.proofs.effects.Effects.{setting_calls}
use Rattle.iss_state.proofs.effects.Finds.{number_is}
use Rattle.iss_state.specs.Numbers.{CallsNumberedFrom}
use Rattle.iss_state.proofs.invariants.Calls.{entry_numbered}
use Rattle.iss_state.specs.Allowed.{IsAllowed}
use Rattle.iss_state.specs.Dockets.{docket_of}
use Rattle.iss_state.proofs.docket.Closing.{call_closed, its_number, other_stays, own_closed}
use Rattle.iss_state.proofs.docket.Entering.{call_more}
use Rattle.iss_state.specs.Pending.{AreAllowed}
use Rattle.iss_laws.specs.CallEntries.{closes, opens, times_among}
use Rattle.iss_laws.specs.Payable.{asked_at}

pub among_append : (test : Entry → Bool) (xs ys : List Entry) → times_among test (xs ++ ys) ≡ times_among test xs + times_among test ys
among_append test [] ys = omega arith
among_append test (x ∷ xs) ys = ap (λ (n : ℕ). cond (test x) 1 0 + n) (among_append test xs ys) ∙ add (cond (test x) 1 0) (times_among test xs) (times_among test ys)
  where
    add : (a b c : ℕ) → a + (b + c) ≡ a + b + c
    add a b c = omega arith

-- calls ----

still : (a : ℕ) → 0 + a ≡ a + 0
still a = omega arith

-- no call has a later number than the last
unnumbered : (m n : ℕ) (calls : List CallNow) → CallsNumberedFrom m calls → m + length calls ≤ n → call_numbered n calls ≡ None
unnumbered m n [] numbers late = refl
unnumbered m n (c ∷ cs) numbers late =
    ap (λ (b : Bool). cond b (Some c) (call_numbered n cs)) (differ c.opened.call.0 m n (length cs) numbers.0 late)
    ∙ unnumbered (m + 1) n cs numbers.1 (omega (arith, late))
  where
    differ : (a m n l : ℕ) → a ≡ m → m + suc l ≤ n → nat_eq a n ≡ false
    differ a m n l e h = grind (arith, nat_tests)

abbrev asked_by : Option CallNow → ℕ
asked_by o = cond (is_some_with is_asked o) 1 0

-- a call that is opened is asked
opened_counts : (calls : List CallNow) (o : Opened) (n : ℕ) → CallsNumberedFrom 1 calls → o.call.0 ≡ length calls + 1
    → asked_at (calls ++ record { opened = o; how = None } ∷ []) n ≡ asked_at calls n + cond (nat_eq o.call.0 n) 1 0
opened_counts calls o n numbers last = ap asked_by (call_more n calls x) ∙ by (nat_eq o.call.0 n) refl
  where
    x : CallNow
    x = record { opened = o; how = None }

    by : (b : Bool) → nat_eq o.call.0 n ≡ b
        → asked_by (option_or (call_numbered n calls) (cond b (Some (record { opened = o; how = None })) None)) ≡ asked_at calls n + cond b 1 0
    by true e =
        let none : call_numbered n calls ≡ None = unnumbered 1 n calls numbers (omega (arith, last, number_is o.call.0 n e)) in
        rw none refl
    by false e = omega (arith, same (call_numbered n calls))
      where
        same : (o : Option CallNow) → asked_by (option_or o None) ≡ asked_by o
        same None = refl
        same (Some c) = refl

-- a call that is closed was asked, and is asked no more
closed_counts : (calls : List CallNow) (call : CallId) (how : How) (n : ℕ) (c : CallNow) → call_numbered call.0 calls ≡ Some c → is_asked c ≡ true
    → cond (nat_eq call.0 n) 1 0 + asked_at (map (call_after_close call.0 how) calls) n ≡ asked_at calls n
closed_counts calls call how n c stands asked =
    ap (λ (o : Option CallNow). cond (nat_eq call.0 n) 1 0 + asked_by o) (call_closed n call.0 how calls) ∙ by (nat_eq call.0 n) refl
  where
    by : (b : Bool) → nat_eq call.0 n ≡ b → cond b 1 0 + asked_by (option_map (call_after_close call.0 how) (call_numbered n calls)) ≡ asked_at calls n
    by true e =
        let its : call_numbered n calls ≡ Some c = ap (λ (k : ℕ). call_numbered k calls) (sym (number_is call.0 n e)) ∙ stands in
        omega (
          arith,
          ap (λ (o : Option CallNow). asked_by (option_map (call_after_close call.0 how) o)) its
              ∙ ap (λ (b : Bool). cond b 1 0) (own_closed call.0 how c (ap (nat_eq call.0) (its_number calls n c its) ∙ e)),
          ap asked_by its ∙ ap (λ (b : Bool). cond b 1 0) asked,
        )
    by false e = omega (arith, other (call_numbered n calls) refl)
      where
        other : (o : Option CallNow) → call_numbered n calls ≡ o → asked_by (option_map (call_after_close call.0 how) o) ≡ asked_by o
        other None h = refl
        other (Some d) h = ap (λ (x : CallNow). asked_by (Some x)) (other_stays call.0 how d (ap (nat_eq call.0) (its_number calls n d h) ∙ e))

-- entries ----

setting_counts : (s : CoreState) (i : Input) (n : ℕ) → 0 + asked_at (after_setting s i).calls n ≡ asked_at s.calls n + 0
setting_counts s i n = ap (λ (calls : List CallNow). 0 + asked_at calls n) (setting_calls s i) ∙ still (asked_at s.calls n)

-- a number is closed as often as its call was asked or is opened, and isn't asked then
entry_counts : (s : CoreState) (e : Entry) (n : ℕ) → CallsNumberedFrom 1 s.calls → IsAllowed (docket_of s) e
    → cond (closes n e) 1 0 + asked_at (after_entry s e).calls n ≡ asked_at s.calls n + cond (opens n e) 1 0
entry_counts s (entry.Conf i) n numbers allowed = setting_counts s i n
entry_counts s (entry.Opened o) n numbers allowed = omega (arith, opened_counts s.calls o n numbers allowed.number)
entry_counts s (entry.Closed call how) n numbers allowed = omega (arith, closed_counts s.calls call how n allowed.its allowed.asked.stands allowed.asked.asked)
entry_counts s _ n numbers allowed = still (asked_at s.calls n)

next_numbered : (s : CoreState) (e : Entry) → IsAllowed (docket_of s) e → CallsNumberedFrom 1 s.calls → CallsNumberedFrom 1 (after_entry s e).calls
next_numbered s (entry.Conf i) allowed numbers = subst (CallsNumberedFrom 1) (sym (setting_calls s i)) numbers
next_numbered s (entry.Opened o) allowed numbers = entry_numbered s (entry.Opened o) allowed.number numbers
next_numbered s (entry.Closed call how) allowed numbers = entry_numbered s (entry.Closed call how) tt numbers
next_numbered s _ allowed numbers = numbers

pub entries_count : (s : CoreState) (es : List Entry) (n : ℕ) → AreAllowed s es → CallsNumberedFrom 1 s.calls
    → times_among (closes n) es + asked_at (fold after_entry s es).calls n ≡ asked_at s.calls n + times_among (opens n) es
entries_count s [] n allowed numbers = still (asked_at s.calls n)
entries_count s (e ∷ es) n allowed numbers =
    let next : CoreState = after_entry s e in
    add (cond (closes n e) 1 0) (times_among (closes n) es) (asked_at (fold after_entry next es).calls n) (asked_at next.calls n) (asked_at s.calls n) (cond (opens n e) 1 0) (times_among (opens n) es)
    (entry_counts s e n numbers allowed.0)
    (entries_count next es n allowed.1 (next_numbered s e allowed.0 numbers))
  where
    add : (c cs last next first o os : ℕ) → c + next ≡ first + o → cs + last ≡ next + os → (c + cs) + last ≡ first + (o + os)
    add c cs last next first o os h k = omega (arith, h, k)
