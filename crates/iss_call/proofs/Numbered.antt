-- Calls that are numbered one after the other: found, closed, and one more.
use Rattle.std.proofs.Common.{◌≡◌, ℕ, zero, suc, ◌+◌, ◌<◌, ◌==◌, Bool, true, false, cond, ◌&&◌, List, [], ◌∷◌, ◌++◌, map, length, set, refl, sym, ap, ◌∙◌, arith}
use Rattle.std.proofs.lemmas.Bool.Decides.{nat_tests}
use Rattle.std.specs.Prelude.{Option, Some, None, is_none, slice_get}
use Rattle.iss_model.specs.declared.call.How.{How}
use Rattle.iss_model.specs.declared.call.CallState.TheVariants as call_state
use Rattle.iss_model.specs.rules.Activity.{CallNow, call_numbered, is_asked}
use Rattle.iss_model.specs.state.Cores.{call_after_close}
use Rattle.iss_call.specs.States.{state_by, call_state_of, state_in}
use Rattle.iss_call.specs.Orders.{AreNumbered}

apart : (m k n : ℕ) → m ≡ k → n < k → (m == n) ≡ false
apart m k n e h = grind (arith, nat_tests)

apart_back : (m k n : ℕ) → m ≡ k → n < k → (n == m) ≡ false
apart_back m k n e h = grind (arith, nat_tests)

equal : (m n : ℕ) → m ≡ n → (m == n) ≡ true
equal m n e = grind (arith, nat_tests)

-- no call has a number below the first
none_below : (k : ℕ) (cs : List CallNow) (n : ℕ) → AreNumbered k cs → n < k → call_numbered n cs ≡ None
none_below k [] n a h = refl
none_below k (c ∷ cs) n a h =
    ap (λ (b : Bool). cond b (Some c) (call_numbered n cs)) (apart c.opened.call.0 k n a.0 h)
    ∙ none_below (suc k) cs n a.1 (omega arith)

found_from : (k : ℕ) (cs : List CallNow) (i n : ℕ) → n ≡ k + i → AreNumbered k cs → call_numbered n cs ≡ slice_get cs i
found_from k [] i n e a = refl
found_from k (c ∷ cs) zero n e a = ap (λ (b : Bool). cond b (Some c) (call_numbered n cs)) (equal c.opened.call.0 n (a.0 ∙ omega arith))
found_from k (c ∷ cs) (suc i) n e a =
    ap (λ (b : Bool). cond b (Some c) (call_numbered n cs)) (apart_back n n c.opened.call.0 refl (let own = a.0 in omega arith))
    ∙ found_from (suc k) cs i n (omega arith) a.1

-- a call stands at its number less one
pub found_at : (cs : List CallNow) (i n : ℕ) → n ≡ i + 1 → AreNumbered 1 cs → call_numbered n cs ≡ slice_get cs i
found_at cs i n e a = found_from 1 cs i n (omega arith) a

pub none_at_0 : (cs : List CallNow) → AreNumbered 1 cs → call_numbered 0 cs ≡ None
none_at_0 cs a = none_below 1 cs 0 a (omega arith)

-- the number of a call by its place
pub number_at : (k : ℕ) (cs : List CallNow) (i : ℕ) (c : CallNow) → AreNumbered k cs → slice_get cs i ≡ Some c → c.opened.call.0 ≡ k + i
number_at k [] i c a e = cc
number_at k (x ∷ cs) zero c a e =
    let same : x ≡ c = cc in
    ap (λ (y : CallNow). y.opened.call.0) (sym same) ∙ a.0 ∙ omega arith
number_at k (x ∷ cs) (suc i) c a e = number_at (suc k) cs i c a.1 e ∙ omega arith

pub numbered_more : (k : ℕ) (cs : List CallNow) (c : CallNow) → c.opened.call.0 ≡ k + length cs → AreNumbered k cs → AreNumbered k (cs ++ c ∷ [])
numbered_more k [] c e a = (e ∙ omega arith, tt)
numbered_more k (x ∷ cs) c e a = (a.0, numbered_more (suc k) cs c (omega arith) a.1)

-- a call as it is closed
abbrev pub closed : How → CallNow → CallNow
closed how c = record c { how = Some how }

pub numbered_set : (k : ℕ) (cs : List CallNow) (i : ℕ) (c : CallNow) (how : How) → slice_get cs i ≡ Some c → AreNumbered k cs → AreNumbered k (set cs i (closed how c))
numbered_set k [] i c how e a = cc
numbered_set k (x ∷ cs) zero c how e a =
    let same : x ≡ c = cc in
    (ap (λ (y : CallNow). y.opened.call.0) (sym same) ∙ a.0, a.1)
numbered_set k (x ∷ cs) (suc i) c how e a = (a.0, numbered_set (suc k) cs i c how e a.1)

-- a call of another number stays as it is
stays : (n : ℕ) (how : How) (x : CallNow) → (n == x.opened.call.0) ≡ false → call_after_close n how x ≡ x
stays n how x e = ap (λ (b : Bool). cond (b && is_asked x) (closed how x) x) e

all_stay : (k : ℕ) (cs : List CallNow) (n : ℕ) (how : How) → AreNumbered k cs → n < k → map (call_after_close n how) cs ≡ cs
all_stay k [] n how a h = refl
all_stay k (x ∷ cs) n how a h =
    let first = stays n how x (apart_back x.opened.call.0 k n a.0 h) in
    let rest = all_stay (suc k) cs n how a.1 (omega arith) in
    λ j. first j ∷ rest j

closes : (n : ℕ) (how : How) (x : CallNow) → (n == x.opened.call.0) ≡ true → is_asked x ≡ true → call_after_close n how x ≡ closed how x
closes n how x e h =
    ap (λ (b : Bool). cond (b && is_asked x) (closed how x) x) e
    ∙ ap (λ (b : Bool). cond b (closed how x) x) h

-- an asked call is closed in its place
pub closed_at : (k : ℕ) (cs : List CallNow) (i : ℕ) (c : CallNow) (n : ℕ) (how : How) → n ≡ k + i → AreNumbered k cs → slice_get cs i ≡ Some c → is_asked c ≡ true
    → map (call_after_close n how) cs ≡ set cs i (closed how c)
closed_at k [] i c n how e a at h = cc
closed_at k (x ∷ cs) zero c n how e a at h =
    let same : x ≡ c = cc in
    let own : n ≡ x.opened.call.0 = omega (arith, e, a.0) in
    let first = closes n how x (equal n x.opened.call.0 own) (ap (λ (y : CallNow). is_asked y) same ∙ h) in
    let rest = all_stay (suc k) cs n how a.1 (omega (arith, e)) in
    λ j. (first ∙ ap (closed how) same) j ∷ rest j
closed_at k (x ∷ cs) (suc i) c n how e a at h =
    let first = stays n how x (apart n n x.opened.call.0 refl (omega (arith, e, a.0))) in
    let rest = closed_at (suc k) cs i c n how (omega (arith, e)) a.1 at h in
    λ j. first j ∷ rest j

not_asked : {A : Type 0} (h : Option How) (x y : A) → (state_by h ≡ call_state.Asked → ⊥) → cond (is_none h) y x ≡ x
not_asked None x y isnt = absurd (isnt refl)
not_asked (Some how) x y isnt = refl

not_closed : (b : Bool) (how : How) (x : CallNow) → (call_state_of (Some x) ≡ call_state.Asked → ⊥) → cond (b && is_asked x) (closed how x) x ≡ x
not_closed false how x isnt = refl
not_closed true how x isnt = not_asked x.how x (closed how x) isnt

asked_by : (h : Option How) → state_by h ≡ call_state.Asked → is_none h ≡ true
asked_by None e = refl
asked_by (Some how) e = cc

-- a call in the state asked is asked
pub asked_in_state : (c : CallNow) → call_state_of (Some c) ≡ call_state.Asked → is_asked c ≡ true
asked_in_state c e = asked_by c.how e

stay_by : (k : ℕ) (cs : List CallNow) (x : CallNow) (n : ℕ) (how : How) (b : Bool) → (x.opened.call.0 == n) ≡ b → AreNumbered k (x ∷ cs)
    → (call_state_of (cond b (Some x) (call_numbered n cs)) ≡ call_state.Asked → ⊥)
    → ((state_in cs n ≡ call_state.Asked → ⊥) → map (call_after_close n how) cs ≡ cs)
    → map (call_after_close n how) (x ∷ cs) ≡ x ∷ cs
stay_by k cs x n how true e a isnt rest =
    let first = not_closed (n == x.opened.call.0) how x isnt in
    let own : n ≡ x.opened.call.0 = grind (arith, nat_tests) in
    let tail = all_stay (suc k) cs n how a.1 (omega (arith, own, a.0)) in
    λ j. first j ∷ tail j
stay_by k cs x n how false e a isnt rest =
    let first = stays n how x (grind (arith, nat_tests)) in
    let tail = rest isnt in
    λ j. first j ∷ tail j

-- a close of a call that isn't asked changes none
pub not_asked_stays : (k : ℕ) (cs : List CallNow) (n : ℕ) (how : How) → AreNumbered k cs → (state_in cs n ≡ call_state.Asked → ⊥) → map (call_after_close n how) cs ≡ cs
not_asked_stays k [] n how a isnt = refl
not_asked_stays k (x ∷ cs) n how a isnt =
    stay_by k cs x n how (x.opened.call.0 == n) refl a isnt (λ f. not_asked_stays (suc k) cs n how a.1 f)
