-- What entries leave of parts, and that an act which funds a part closes its call and decides its event alike.
use Rattle.std.proofs.Common.{arith, ◌⊎◌, ◌≡◌, ◌∙◌, ◌++◌, ◌∷◌, ◌&&◌, ℕ, ap, ap₂, Bool, cond, false, fold, List, [], map, nat_eq, nat_lt, refl, subst, sym, true}
use Rattle.std.specs.Prelude.{Option, Some, None, is_none}
use Rattle.std.specs.List.{list_all}
use Rattle.std.specs.Option.{option_or}
use Rattle.std.specs.Str.{bytes_eq}
use Rattle.std.proofs.lemmas.Bool.{and_parts}
use Rattle.std.proofs.lemmas.Bool.Decides.{nat_tests}
use Rattle.iss_model.specs.declared.call.CallId.{CallId}
use Rattle.iss_model.specs.declared.call.How.{How}
use Rattle.iss_model.specs.declared.call.How.TheVariants as how
use Rattle.iss_model.specs.declared.call.Opened.{Opened}
use Rattle.iss_model.specs.declared.currency.Currency.{Currency}
use Rattle.iss_model.specs.declared.currency.Currency.TheVariants.{Usd}
use Rattle.iss_model.specs.declared.decision.Verdict.{Verdict}
use Rattle.iss_model.specs.declared.decision.Verdict.TheVariants as verdict
use Rattle.iss_model.specs.declared.entry.Entry.{Entry}
use Rattle.iss_model.specs.declared.entry.Entry.TheVariants as entry
use Rattle.iss_model.specs.rules.Activity.{CallNow, call_numbered, is_asked}
use Rattle.iss_model.specs.rules.Facts.{Decision, verdict_in}
use Rattle.iss_model.specs.state.Cores.{call_after_close}
use Rattle.iss_model.proofs.Names.{its_name, one_name}
use Rattle.iss_state.specs.Dockets.{Docket, docket_after}
use Rattle.iss_state.specs.Well.{IsAsked}
use Rattle.iss_state.proofs.docket.Closing.{call_closed, its_number, same_opened, stands_after, stays_closed}
use Rattle.iss_state.proofs.docket.Entering.{call_more}
use Rattle.iss_state.proofs.docket.Lists.{by_either, either_found, inside, mapped_is}
use Rattle.iss_state.proofs.effects.Finds.{number_is}
use Rattle.iss_states.specs.Parts.{AgreeOnParts, HasPart, IsPart}
use Rattle.iss_states.proofs.Decided.{found_last}
use Rattle.iss_states.proofs.Found.{find_stays}

-- an entry closes no call as funded in part, and approves no event for a part
abbrev pub makes_no_part : Entry → Bool
makes_no_part (entry.Closed call (how.Partial amount)) = false
makes_no_part (entry.Decided event (verdict.Partial currency amount)) = false
makes_no_part _ = true

-- one more decision ----

later_part : (ds : List Decision) (x : Decision) (o : Opened) (amount : ℕ) → IsPart ds o amount → IsPart (ds ++ x ∷ []) o amount
later_part ds x o amount h =
    record {
      decided = found_last ds x o.event ∙ ap (λ (v : Option Verdict). option_or v (cond (bytes_eq x.event o.event) (Some x.verdict) None)) h.decided;
      permitted = h.permitted;
      less = h.less;
    }

-- a verdict is that of before, or the last one
old_or_last : (ds : List Decision) (x : Decision) (event : List ℕ) (v : Verdict) → verdict_in (ds ++ x ∷ []) event ≡ Some v
    → (verdict_in ds event ≡ Some v) ⊎ ((bytes_eq x.event event ≡ true) × (x.verdict ≡ v))
old_or_last ds x event v e = either_found (verdict_in ds event) x.verdict v (bytes_eq x.event event) (sym (found_last ds x event) ∙ e)

-- a call that was closed stays so ----

not_asked : (how : Option How) (w : How) → how ≡ Some w → is_none how ≡ false
not_asked None w e = cc
not_asked (Some h) w e = refl

closed_still : (calls : List CallNow) (k : ℕ) (w : How) (event : List ℕ) (currency : Currency) (amount : ℕ) → HasPart calls event currency amount → HasPart (map (call_after_close k w) calls) event currency amount
closed_still calls k w event currency amount h =
    record {
      number = h.number;
      call = h.call;
      stands = stands_after calls k w h.number h.call h.stands ∙ ap (λ (x : CallNow). Some x) (stays_closed k w h.call (not_asked h.call.how (how.Partial amount) h.closed));
      its_event = h.its_event;
      its_currency = h.its_currency;
      closed = h.closed;
    }

-- what a call was before another one was closed otherwise than in part
closed_before : (k : ℕ) (w : How) (y : CallNow) (amount : ℕ) → (w ≡ how.Partial amount → ⊥) → (call_after_close k w y).how ≡ Some (how.Partial amount) → y.how ≡ Some (how.Partial amount)
closed_before k w y amount other e = by (nat_eq k y.opened.call.0 && is_asked y) e
  where
    by : (b : Bool) → (cond b (record y { how = Some w }) y).how ≡ Some (how.Partial amount) → y.how ≡ Some (how.Partial amount)
    by true e = absurd (other (inside e))
    by false e = e

-- entries ----

whole : (call : CallId) (w : How) (amount : ℕ) → makes_no_part (entry.Closed call w) ≡ true → w ≡ how.Partial amount → ⊥
whole call how.Funded amount h e = cc
whole call (how.Partial part) amount h e = cc
whole call how.Refused amount h e = cc
whole call (how.Failed why) amount h e = cc
whole call how.Abandoned amount h e = cc

no_part : (event : List ℕ) (v : Verdict) (currency : Currency) (amount : ℕ) → makes_no_part (entry.Decided event v) ≡ true → v ≡ verdict.Partial currency amount → ⊥
no_part event verdict.Done currency amount h e = cc
no_part event verdict.Approved currency amount h e = cc
no_part event (verdict.Partial other part) currency amount h e = cc
no_part event (verdict.Declined why) currency amount h e = cc

entry_agrees : (d : Docket) (e : Entry) → makes_no_part e ≡ true → AgreeOnParts d.calls d.decisions → AgreeOnParts (docket_after d e).calls (docket_after d e).decisions
entry_agrees d (entry.Opened o) none h =
    let new : CallNow = record { opened = o; how = None } in
    record {
      closed = λ n x amount stands closed.
          by_either {C = IsPart d.decisions x.opened amount} (λ old. h.closed n x amount old closed) (λ same. absurd (still_asked x amount (sym same.1) closed))
          (either_found (call_numbered n d.calls) new x (nat_eq o.call.0 n) (sym (call_more n d.calls new) ∙ stands));
      decided = λ event currency amount e.
          let had = h.decided event currency amount e in
          record {
            number = had.number;
            call = had.call;
            stands = find_stays (λ (c : CallNow). nat_eq c.opened.call.0 had.number) d.calls (new ∷ []) had.call had.stands;
            its_event = had.its_event;
            its_currency = had.its_currency;
            closed = had.closed;
          };
    }
  where
    still_asked : (x : CallNow) (amount : ℕ) → x ≡ record { opened = o; how = None } → x.how ≡ Some (how.Partial amount) → ⊥
    still_asked x amount e closed = let none : None ≡ Some (how.Partial amount) = ap (λ (c : CallNow). c.how) (sym e) ∙ closed in cc
entry_agrees d (entry.Closed call w) none h =
    record {
      closed = λ n x amount stands closed.
          let was = mapped_is (call_after_close call.0 w) (call_numbered n d.calls) x (sym (call_closed n call.0 w d.calls) ∙ stands) in
          subst (λ (o : Opened). IsPart d.decisions o amount) (sym (same_opened call.0 w was.0) ∙ ap (λ (c : CallNow). c.opened) was.2)
          (h.closed n was.0 amount was.1 (closed_before call.0 w was.0 amount (whole call w amount none) (ap (λ (c : CallNow). c.how) was.2 ∙ closed)));
      decided = λ event currency amount e. closed_still d.calls call.0 w event currency amount (h.decided event currency amount e);
    }
entry_agrees d (entry.Decided name v) none h =
    let x : Decision = record { event = name; verdict = v } in
    record {
      closed = λ n c amount stands closed. later_part d.decisions x c.opened amount (h.closed n c amount stands closed);
      decided = λ event currency amount e.
          by_either {C = HasPart d.calls event currency amount} (λ old. h.decided event currency amount old) (λ last. absurd (no_part name v currency amount none last.1))
          (old_or_last d.decisions x event (verdict.Partial currency amount) e);
    }
entry_agrees d _ none h = h

pub entries_agree : (d : Docket) (es : List Entry) → list_all makes_no_part es ≡ true → AgreeOnParts d.calls d.decisions → AgreeOnParts (fold docket_after d es).calls (fold docket_after d es).decisions
entries_agree d [] none h = h
entries_agree d (e ∷ es) none h = let parts = and_parts (makes_no_part e) (list_all makes_no_part es) none in entries_agree (docket_after d e) es parts.1 (entry_agrees d e parts.0 h)

-- a part is funded ----

abbrev part_of_how : How → ℕ
part_of_how (how.Partial amount) = amount
part_of_how _ = 0

abbrev currency_of_verdict : Verdict → Currency
currency_of_verdict (verdict.Partial currency amount) = currency
currency_of_verdict _ = Usd

same_number : (n : ℕ) → nat_eq n n ≡ true
same_number n = grind (arith, nat_tests)

abbrev part_of_verdict : Verdict → ℕ
part_of_verdict (verdict.Partial currency amount) = amount
part_of_verdict _ = 0

module _ (calls : List CallNow) (ds : List Decision) (n : ℕ) (c : CallNow) (asked : IsAsked calls n c) (part : ℕ) (fresh : verdict_in ds c.opened.event ≡ None) (permitted : c.opened.partial ≡ true) (less : nat_lt part c.opened.amount ≡ true) where
  abbrev decision : Decision
  decision = record { event = c.opened.event; verdict = verdict.Partial c.opened.currency part }

  part_now : IsPart (ds ++ decision ∷ []) c.opened part
  part_now =
      record {
        decided = found_last ds decision c.opened.event ∙ ap₂ (λ (o : Option Verdict) (b : Bool). option_or o (cond b (Some decision.verdict) None)) fresh (its_name c.opened.event);
        permitted = permitted;
        less = less;
      }

  -- the call of this number
  its_part : (h : AgreeOnParts calls ds) (k : ℕ) (y : CallNow) (amount : ℕ) → call_numbered k calls ≡ Some y → (call_after_close c.opened.call.0 (how.Partial part) y).how ≡ Some (how.Partial amount)
      → IsPart (ds ++ decision ∷ []) y.opened amount
  its_part h k y amount e closed = by (nat_eq c.opened.call.0 y.opened.call.0 && is_asked y) refl closed
    where
      by : (b : Bool) → (nat_eq c.opened.call.0 y.opened.call.0 && is_asked y) ≡ b → (cond b (record y { how = Some (how.Partial part) }) y).how ≡ Some (how.Partial amount)
          → IsPart (ds ++ decision ∷ []) y.opened amount
      by true same closed =
          let number : n ≡ k = sym (its_number calls n c asked.stands) ∙ number_is c.opened.call.0 y.opened.call.0 (and_parts (nat_eq c.opened.call.0 y.opened.call.0) (is_asked y) same).0 ∙ its_number calls k y e in
          let one : c ≡ y = inside (sym asked.stands ∙ ap (λ (j : ℕ). call_numbered j calls) number ∙ e) in
          subst (λ (z : CallNow). IsPart (ds ++ decision ∷ []) z.opened amount) one (subst (IsPart (ds ++ decision ∷ []) c.opened) (ap part_of_how (inside closed)) part_now)
      by false same closed = later_part ds decision y.opened amount (h.closed k y amount e closed)

  closed_now : (call_after_close c.opened.call.0 (how.Partial part) c).how ≡ Some (how.Partial part)
  closed_now = ap₂ (λ (a b : Bool). (cond (a && b) (record c { how = Some (how.Partial part) }) c).how) (same_number c.opened.call.0) asked.asked

  pub part_agrees : AgreeOnParts calls ds → AgreeOnParts (map (call_after_close c.opened.call.0 (how.Partial part)) calls) (ds ++ decision ∷ [])
  part_agrees h =
      record {
        closed = λ k x amount stands closed.
            let was = mapped_is (call_after_close c.opened.call.0 (how.Partial part)) (call_numbered k calls) x (sym (call_closed k c.opened.call.0 (how.Partial part) calls) ∙ stands) in
            subst (λ (o : Opened). IsPart (ds ++ decision ∷ []) o amount) (sym (same_opened c.opened.call.0 (how.Partial part) was.0) ∙ ap (λ (x : CallNow). x.opened) was.2)
            (its_part h k was.0 amount was.1 (ap (λ (x : CallNow). x.how) was.2 ∙ closed));
        decided = λ event currency amount e.
            by_either {C = HasPart (map (call_after_close c.opened.call.0 (how.Partial part)) calls) event currency amount}
            (λ old. closed_still calls c.opened.call.0 (how.Partial part) event currency amount (h.decided event currency amount old))
            (λ last. record {
              number = n;
              call = call_after_close c.opened.call.0 (how.Partial part) c;
              stands = stands_after calls c.opened.call.0 (how.Partial part) n c asked.stands;
              its_event = ap (λ (o : Opened). o.event) (same_opened c.opened.call.0 (how.Partial part) c) ∙ one_name c.opened.event event last.0;
              its_currency = ap (λ (o : Opened). o.currency) (same_opened c.opened.call.0 (how.Partial part) c) ∙ ap currency_of_verdict last.1;
              closed = closed_now ∙ ap (λ (v : Verdict). Some (how.Partial (part_of_verdict v))) last.1;
            })
            (old_or_last ds decision event (verdict.Partial currency amount) e);
      }
