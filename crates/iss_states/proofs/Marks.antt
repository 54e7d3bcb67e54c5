-- The mark of an event is how its call stands, and an accepted event isn't decided exactly if its call is asked.
use Rattle.std.proofs.Common.{◌≡◌, ℕ, Bool, true, false, cond, ◌||◌, ◌==◌, List, [], ◌∷◌, find, refl, sym, ap, subst, ◌∙◌}
use Rattle.std.specs.Prelude.{Option, Some, None, is_none, option_map}
use Rattle.std.specs.List.{list_any}
use Rattle.std.specs.Str.{bytes_eq}
use Rattle.iss_model.specs.declared.call.How.{How}
use Rattle.iss_model.proofs.Names.{one_name, its_name}
use Rattle.iss_model.specs.rules.Activity.{CallNow, call_numbered, is_asked}
use Rattle.iss_model.specs.rules.Facts.{Decision, verdict_in}
use Rattle.iss_model.specs.state.Cores.{CoreState}
use Rattle.iss_state.specs.Sound.{is_accepted}
use Rattle.iss_state.specs.Well.{IsWaiting, is_decided}
use Rattle.iss_state.proofs.docket.Lists.{Each, by_either, found_any, inside, none_found, not_both}
use Rattle.iss_state.proofs.docket.Closing.{StandsItself, all_stand}
use Rattle.iss_state.specs.Pending.{IsWell}
use Rattle.iss_states.specs.Showing.{is_asked_mark, mark_in, mark_of}

decided_verdict : (ds : List Decision) (event : List ℕ) → is_none (verdict_in ds event) ≡ true → is_decided ds event ≡ false
decided_verdict ds event h = none_found (λ d. bytes_eq d.event event) ds (by (find (λ d. bytes_eq d.event event) ds) h)
  where
    by : (o : Option Decision) → is_none (option_map (λ (d : Decision). d.verdict) o) ≡ true → o ≡ None
    by None h = refl
    by (Some d) h = cc

some_verdict : (ds : List Decision) (event : List ℕ) → is_decided ds event ≡ true → is_none (verdict_in ds event) ≡ false
some_verdict ds event h = by (is_none (verdict_in ds event)) (decided_verdict ds event)
  where
    by : (b : Bool) → (b ≡ true → is_decided ds event ≡ false) → b ≡ false
    by true k = absurd (not_both (is_decided ds event) h (k refl))
    by false k = refl

found_decision : (event : List ℕ) (ds : List Decision) (d : Decision) → find (λ d. bytes_eq d.event event) ds ≡ Some d → is_decided ds event ≡ true
found_decision event [] d e = cc
found_decision event (x ∷ ds) d e = by (bytes_eq x.event event) e (λ f. found_decision event ds d f)
  where
    by : (b : Bool) → cond b (Some x) (find (λ d. bytes_eq d.event event) ds) ≡ Some d → (find (λ d. bytes_eq d.event event) ds ≡ Some d → is_decided ds event ≡ true) → (b || is_decided ds event) ≡ true
    by true e rest = refl
    by false e rest = rest e

-- what is found stands by itself, and is of this event
found_stands : (P : CallNow → Type 0) (event : List ℕ) (xs : List CallNow) (c : CallNow) → Each P xs → find (λ x. bytes_eq x.opened.event event) xs ≡ Some c → P c × (c.opened.event ≡ event)
found_stands P event [] c h e = cc
found_stands P event (x ∷ xs) c h e = by (bytes_eq x.opened.event event) refl e (λ f. found_stands P event xs c h.1 f)
  where
    by : (b : Bool) → bytes_eq x.opened.event event ≡ b → cond b (Some x) (find (λ x. bytes_eq x.opened.event event) xs) ≡ Some c
        → (find (λ x. bytes_eq x.opened.event event) xs ≡ Some c → P c × (c.opened.event ≡ event)) → P c × (c.opened.event ≡ event)
    by true same e rest = let is : x ≡ c = inside e in (subst P is h.0, ap (λ (y : CallNow). y.opened.event) (sym is) ∙ one_name x.opened.event event same)
    by false same e rest = rest e

asked_mark : (how : Option How) → is_asked_mark (Some (mark_of how)) ≡ is_none how
asked_mark None = refl
asked_mark (Some how) = refl

-- the mark of an event's call, by the call that is found
module _ (s : CoreState) (well : IsWell s) (event : List ℕ) where
  stands_as : (c : CallNow) → find (λ x. bytes_eq x.opened.event event) s.calls ≡ Some c → StandsItself s.calls c × (c.opened.event ≡ event)
  stands_as c e = found_stands (StandsItself s.calls) event s.calls c (all_stand s.calls well.docket.calls.numbers) e

  -- if the event is decided, no call of it is asked
  decided_mark : is_decided s.decisions event ≡ true → is_asked_mark (mark_in s.calls event) ≡ false
  decided_mark h = by (find (λ x. bytes_eq x.opened.event event) s.calls) refl
    where
      asked_not : (c : CallNow) → StandsItself s.calls c → c.opened.event ≡ event → (b : Bool) → is_asked c ≡ b → b ≡ false
      asked_not c stands its true asked =
          absurd (not_both (is_decided s.decisions event) h (ap (is_decided s.decisions) (sym its) ∙ well.docket.waits c.opened.call.0 c (record { stands = stands; asked = asked })))
      asked_not c stands its false asked = refl

      by : (o : Option CallNow) → find (λ x. bytes_eq x.opened.event event) s.calls ≡ o → is_asked_mark (option_map (λ c. mark_of c.how) o) ≡ false
      by None e = refl
      by (Some c) e =
          let its = stands_as c e in
          asked_mark c.how ∙ asked_not c its.0 its.1 (is_asked c) refl

  -- a call of this event is the one that is found
  its_mark : (n : ℕ) (x : CallNow) → call_numbered n s.calls ≡ Some x → x.opened.event ≡ event → mark_in s.calls event ≡ Some (mark_of x.how)
  its_mark n x stands its_event = by (find (λ y. bytes_eq y.opened.event event) s.calls) refl
    where
      same_call : (n m : ℕ) (c d : CallNow) → n ≡ m → call_numbered n s.calls ≡ Some c → call_numbered m s.calls ≡ Some d → c ≡ d
      same_call n m c d e f g = inside (sym f ∙ ap (λ (k : ℕ). call_numbered k s.calls) e ∙ g)

      there : list_any (λ y. bytes_eq y.opened.event event) s.calls ≡ true
      there = found_any (λ y. y.opened.call.0 == n) (λ y. bytes_eq y.opened.event event) s.calls x stands (ap (λ (k : List ℕ). bytes_eq k event) its_event ∙ its_name event)

      by : (o : Option CallNow) → find (λ y. bytes_eq y.opened.event event) s.calls ≡ o → option_map (λ c. mark_of c.how) o ≡ Some (mark_of x.how)
      by None e = absurd (not_both (list_any (λ y. bytes_eq y.opened.event event) s.calls) there (none_found (λ y. bytes_eq y.opened.event event) s.calls e))
      by (Some c) e =
          let its = stands_as c e in
          let one : n ≡ c.opened.call.0 = well.docket.calls.once n c.opened.call.0 x c stands its.0 (its_event ∙ sym its.1) in
          ap (λ (y : CallNow). Some (mark_of y.how)) (sym (same_call n c.opened.call.0 x c one stands its.0))

  waiting_mark : IsWaiting s.calls event → is_asked_mark (mark_in s.calls event) ≡ true
  waiting_mark w = ap is_asked_mark (its_mark w.number w.call w.asked.stands w.its_event) ∙ asked_mark w.call.how ∙ w.asked.asked

pub call_mark : (s : CoreState) (n : ℕ) (x : CallNow) → IsWell s → call_numbered n s.calls ≡ Some x → mark_in s.calls x.opened.event ≡ Some (mark_of x.how)
call_mark s n x well stands = its_mark s well x.opened.event n x stands refl

pub pending_asked : (s : CoreState) (event : List ℕ) → IsWell s → is_accepted s.accepted event ≡ true → is_none (verdict_in s.decisions event) ≡ is_asked_mark (mark_in s.calls event)
pending_asked s event well known =
    by_either (λ decided. some_verdict s.decisions event decided ∙ sym (decided_mark s well event decided))
    (λ waiting. undecided waiting ∙ sym (waiting_mark s well event waiting)) (well.accounted event known)
  where
    undecided : IsWaiting s.calls event → is_none (verdict_in s.decisions event) ≡ true
    undecided w = by (find (λ d. bytes_eq d.event event) s.decisions) refl
      where
        none : is_decided s.decisions event ≡ false
        none = ap (is_decided s.decisions) (sym w.its_event) ∙ well.docket.waits w.number w.call w.asked

        by : (o : Option Decision) → find (λ d. bytes_eq d.event event) s.decisions ≡ o → is_none (option_map (λ (d : Decision). d.verdict) o) ≡ true
        by None e = refl
        by (Some d) e = absurd (not_both (is_decided s.decisions event) (found_decision event s.decisions d e) none)
