-- Calls of a core that is made again are numbered one after the other, and each is taken up after those before it.
use Rattle.std.proofs.Common.{◌≡◌, ◌∙◌, ◌++◌, ◌∷◌, ◌+◌, ◌<◌, ◌≤◌, ◌==◌, ◌&&◌, ℕ, zero, suc, ap, ap₂, append_assoc, append-nil, arith, Bool, cond, drop, false, fold, get_or, length, List, [], map, refl, subst, sym, true}
use Rattle.std.specs.Prelude.{Option, Some, None, option_map, unwrap_or}
use Rattle.std.proofs.lemmas.Bool.Decides.{nat_tests}
use Rattle.std.proofs.lemmas.List.{drop_more, length-append, map-append}
use Rattle.std.proofs.Math.ListN.{drop_of_length-le}
use Rattle.iss_model.specs.declared.call.CallId.{CallId}
use Rattle.iss_model.specs.declared.call.CallState.{CallState}
use Rattle.iss_model.specs.declared.call.How.{How}
use Rattle.iss_model.specs.declared.call.Opened.{Opened}
use Rattle.iss_model.specs.declared.setting.Product.{Product}
use Rattle.iss_model.specs.declared.state.Carried.{Carried}
use Rattle.iss_model.specs.declared.state.Seen.{Seen}
use Rattle.iss_model.specs.declared.state.State.{State}
use Rattle.iss_model.specs.rules.Activity.{CallNow, is_asked}
use Rattle.iss_model.specs.rules.Asks.{Ask}
use Rattle.iss_model.specs.rules.Facts.{Facts}
use Rattle.iss_model.specs.rules.Pieces.{call_for}
use Rattle.iss_model.specs.rules.Settings.{product_named}
use Rattle.iss_model.specs.state.Cores.{CoreState, after_setting, call_after_close, core_facts, no_core, with_closed}
use Rattle.iss_call.specs.Orders.{AreNumbered}
use Rattle.iss_states.specs.Rebuilding.{ask_of_event, calls_marked, how_of_mark, is_done, rebuilt, with_event, with_seen}
use Rattle.iss_well_formed.proofs.GrownAgain.{settled_calls}
use Rattle.iss_known.specs.Known.{IsKnownOf, KnownNow}

abbrev pub call_as : Opened → Option How → CallNow
call_as opened how = record { opened = opened; how = how }

pub numbered_more : (k : ℕ) (cs : List CallNow) (c : CallNow) → c.opened.call.0 ≡ k + length cs → AreNumbered k cs → AreNumbered k (cs ++ c ∷ [])
numbered_more k [] c e a = (e ∙ omega arith, tt)
numbered_more k (x ∷ cs) c e a = (a.0, numbered_more (suc k) cs c (omega (arith, e)) a.1)

-- calls that are made again ----

next_number : (f : Facts) (p : Product) (ask : Ask) → (call_for f p ask).call.0 ≡ 1 + length f.calls
next_number f p ask = omega arith

-- the call of an ask has the next number
call_numbered : (f : Facts) (mark : Option CallState) (ask : Option Ask) → AreNumbered 1 f.calls → AreNumbered 1 (f.calls ++ calls_marked f mark ask)
call_numbered f None ask h = subst (AreNumbered 1) (sym (append-nil f.calls)) h
call_numbered f (Some mark) None h = subst (AreNumbered 1) (sym (append-nil f.calls)) h
call_numbered f (Some mark) (Some ask) h = by (product_named ask.txn.product f.products)
  where
    by : (o : Option Product) → AreNumbered 1 (f.calls ++ unwrap_or {T = List CallNow} (option_map (λ (product : Product). call_as (call_for f product ask) (how_of_mark mark) ∷ []) o) [])
    by None = subst (AreNumbered 1) (sym (append-nil f.calls)) h
    by (Some p) = numbered_more 1 f.calls (call_as (call_for f p ask) (how_of_mark mark)) (next_number f p ask) h

seen_numbered : (ts : List Carried) (c : CoreState) (e : Seen) → AreNumbered 1 c.calls → AreNumbered 1 (with_seen ts c e).calls
seen_numbered ts c e h =
    call_numbered (core_facts settled) e.mark (ask_of_event (core_facts settled) e.body.at e.body.input)
    (subst (AreNumbered 1) (sym (settled_calls (is_done e.verdict) (with_event c e) e.body.input)) h)
  where
    settled : CoreState
    settled = cond (is_done e.verdict) (after_setting (with_event c e) e.body.input) (with_event c e)

all_numbered : (ts : List Carried) (c : CoreState) (es : List Seen) → AreNumbered 1 c.calls → AreNumbered 1 (fold (with_seen ts) c es).calls
all_numbered ts c [] h = h
all_numbered ts c (e ∷ es) h = all_numbered ts (with_seen ts c e) es (seen_numbered ts c e h)

-- the known calls are numbered
pub known_numbered : (k : KnownNow) (s : State) → IsKnownOf k (rebuilt s) → AreNumbered 1 k.calls
known_numbered k s known = subst (AreNumbered 1) (sym known.calls) (all_numbered s.txns no_core s.events tt)

-- a call that is asked and closed ----

apart_back : (m k n : ℕ) → m ≡ k → n < k → (n == m) ≡ false
apart_back m k n e h = grind (arith, nat_tests)

other : (m k n : ℕ) → m ≡ k → k < n → (n == m) ≡ false
other m k n e h = grind (arith, nat_tests)

equal : (m n : ℕ) → m ≡ n → (m == n) ≡ true
equal m n e = grind (arith, nat_tests)

-- a call of another number stays as it is
stays : (n : ℕ) (how : How) (x : CallNow) → (n == x.opened.call.0) ≡ false → call_after_close n how x ≡ x
stays n how x e = ap (λ (b : Bool). cond (b && is_asked x) (record x { how = Some how }) x) e

-- so do all before the one of this number
all_stay : (k : ℕ) (cs : List CallNow) (n : ℕ) (how : How) → AreNumbered k cs → n ≡ k + length cs → map (call_after_close n how) cs ≡ cs
all_stay k [] n how a h = refl
all_stay k (x ∷ cs) n how a h =
    let first = stays n how x (other x.opened.call.0 k n a.0 (omega (arith, h))) in
    let rest = all_stay (suc k) cs n how a.1 (omega (arith, h)) in
    λ j. first j ∷ rest j

module _ (cs : List CallNow) (c : CallNow) (numbered : AreNumbered 1 cs) (next : c.opened.call.0 ≡ length cs + 1) where
  last_closed : (how : How) → call_after_close c.opened.call.0 how (call_as c.opened None) ≡ call_as c.opened (Some how)
  last_closed how =
      ap (λ (b : Bool). cond (b && true) (call_as c.opened (Some how)) (call_as c.opened None)) (equal c.opened.call.0 c.opened.call.0 refl)

  -- if it is closed, it is as it was known
  closed_again : (asked after : List CallNow) (how : How) → asked ≡ cs ++ call_as c.opened None ∷ [] → c.how ≡ Some how
      → after ≡ with_closed asked c.opened.call how → after ≡ cs ++ c ∷ []
  closed_again asked after how is closed made =
      made
      ∙ ap (map (call_after_close c.opened.call.0 how)) is
      ∙ map-append (call_after_close c.opened.call.0 how) cs (call_as c.opened None ∷ [])
      ∙ ap₂ (λ (xs : List CallNow) (x : CallNow). xs ++ x ∷ []) (all_stay 1 cs c.opened.call.0 how numbered (omega (arith, next))) (last_closed how)
      ∙ ap (λ (h : Option How). cs ++ call_as c.opened h ∷ []) (sym closed)

-- so it is of a call that is seen by its parts
pub closed_as : (cs : List CallNow) (c : CallNow) (opened : Opened) (how : Option How) → call_as opened how ≡ c → AreNumbered 1 cs → c.opened.call.0 ≡ length cs + 1
    → (asked after : List CallNow) (closed : How) → asked ≡ cs ++ call_as opened None ∷ [] → how ≡ Some closed → after ≡ with_closed asked opened.call closed → after ≡ cs ++ c ∷ []
closed_as cs c opened how view numbered next asked after closed is closes made =
    closed_again cs (call_as opened how) numbered (ap (λ (x : CallNow). x.opened.call.0) view ∙ next) asked after closed is closes made
    ∙ ap (λ (x : CallNow). cs ++ x ∷ []) view

-- the loop ----

-- the calls that were taken up are numbered, and with those that are left they are all
pub record IsAsking (all left now : List CallNow) : Type 0 where
  pub whole : now ++ left ≡ all
  pub numbered : AreNumbered 1 now
  pub rest : AreNumbered (length now + 1) left

pub begins : (all now : List CallNow) → now ≡ [] → AreNumbered 1 all → IsAsking all all now
begins all now is h = subst (λ (cs : List CallNow). IsAsking all all cs) (sym is) (record { whole = refl; numbered = tt; rest = h })

module _ (all : List CallNow) (i : ℕ) (c : CallNow) (now : List CallNow) (within : i < length all) (is : c ≡ get_or all i c) (r : IsAsking all (drop i all) now) where
  here : IsAsking all (c ∷ drop (i + 1) all) now
  here = subst (λ (left : List CallNow). IsAsking all left now) (drop_more all i c within ∙ ap (λ (x : CallNow). x ∷ drop (i + 1) all) (sym is)) r

  pub its_number : c.opened.call.0 ≡ length now + 1
  its_number = here.rest.0

  longer : length (now ++ c ∷ []) + 1 ≡ suc (length now + 1)
  longer = let more : length (now ++ c ∷ []) ≡ length now + length (c ∷ []) = length-append now (c ∷ []) in omega (arith, more)

  pub goes_on : (after : List CallNow) → after ≡ now ++ c ∷ [] → IsAsking all (drop (i + 1) all) after
  goes_on after same =
      subst (λ (cs : List CallNow). IsAsking all (drop (i + 1) all) cs) (sym same) (record {
        whole = append_assoc now (c ∷ []) (drop (i + 1) all) ∙ here.whole;
        numbered = numbered_more 1 now c (here.rest.0 ∙ omega arith) here.numbered;
        rest = subst (λ (n : ℕ). AreNumbered n (drop (i + 1) all)) (sym longer) here.rest.1;
      })

pub over : (all now : List CallNow) (n : ℕ) → length all ≤ n → IsAsking all (drop n all) now → now ≡ all
over all now n len r =
    let last : IsAsking all [] now = subst (λ (left : List CallNow). IsAsking all left now) (drop_of_length-le all len) r in
    sym (append-nil now) ∙ last.whole
