-- Calls that are numbered one after the other: found by their places, and one more.
use Rattle.std.proofs.Common.{◌≡◌, ℕ, zero, suc, ◌+◌, ◌<◌, ◌≤◌, ◌==◌, Bool, true, false, cond, List, [], ◌∷◌, ◌++◌, length, get_or, nat_lt, refl, sym, ap, ◌∙◌, arith, Bor}
use Rattle.std.proofs.lemmas.Bool.Decides.{nat_tests}
use Rattle.std.proofs.lemmas.Option.{slice_get_past, slice_get-get_or}
use Rattle.std.specs.Prelude.{Option, Some, None, IfSome, is_some, option_map, slice_get}
use Rattle.iss_model.specs.rules.Activity.{CallNow, call_numbered}
use Rattle.iss_known.specs.Reading.{AreNumbered}

apart : (m k n : ℕ) → m ≡ k → n < k → (m == n) ≡ false
apart m k n e h = grind (arith, nat_tests)

apart_back : (m k n : ℕ) → m ≡ k → n < k → (n == m) ≡ false
apart_back m k n e h = grind (arith, nat_tests)

equal : (m n : ℕ) → m ≡ n → (m == n) ≡ true
equal m n e = grind (arith, nat_tests)

-- no call has a number below the first
none_below : (k : ℕ) (cs : List CallNow) (n : ℕ) → AreNumbered k cs → n < k → call_numbered n cs ≡ None
none_below k [] n a h = refl
none_below k (c ∷ cs) n a h =
    ap (λ (b : Bool). cond b (Some c) (call_numbered n cs)) (apart c.opened.call.0 k n a.0 h)
    ∙ none_below (suc k) cs n a.1 (omega arith)

found_from : (k : ℕ) (cs : List CallNow) (i n : ℕ) → n ≡ k + i → AreNumbered k cs → call_numbered n cs ≡ slice_get cs i
found_from k [] i n e a = refl
found_from k (c ∷ cs) zero n e a = ap (λ (b : Bool). cond b (Some c) (call_numbered n cs)) (equal c.opened.call.0 n (a.0 ∙ omega arith))
found_from k (c ∷ cs) (suc i) n e a =
    ap (λ (b : Bool). cond b (Some c) (call_numbered n cs)) (apart_back n n c.opened.call.0 refl (let own = a.0 in omega arith))
    ∙ found_from (suc k) cs i n (omega arith) a.1

-- a call stands at its number less one
pub found_at : (cs : List CallNow) (i n : ℕ) → n ≡ i + 1 → AreNumbered 1 cs → call_numbered n cs ≡ slice_get cs i
found_at cs i n e a = found_from 1 cs i n (omega arith) a

-- no call has the number 0
pub none_at : (cs : List CallNow) (n : ℕ) → (1 ≤ n → ⊥) → AreNumbered 1 cs → call_numbered n cs ≡ None
none_at cs zero h a = none_below 1 cs 0 a (omega arith)
none_at cs (suc n) h a = absurd (h (omega arith))

pub numbered_more : (k : ℕ) (cs : List CallNow) (c : CallNow) → c.opened.call.0 ≡ k + length cs → AreNumbered k cs → AreNumbered k (cs ++ c ∷ [])
numbered_more k [] c e a = (e ∙ omega arith, tt)
numbered_more k (x ∷ cs) c e a = (a.0, numbered_more (suc k) cs c (omega arith) a.1)

past : (i n : ℕ) → false ≡ nat_lt i n → n ≤ i
past i n e = grind (arith, nat_tests)

within : (i n : ℕ) → true ≡ nat_lt i n → i < n
within i n e = grind (arith, nat_tests)

-- what a look-up in a slice returns is what the list has
pub got : (xs : List CallNow) (i : ℕ) (r : Option (Bor CallNow)) → is_some r ≡ nat_lt i (length xs) → IfSome r (λ x. x.now ≡ get_or xs i x.now) → option_map (λ call. call.now) r ≡ slice_get xs i
got xs i None e h = sym (slice_get_past xs i (past i (length xs) e))
got xs i (Some b) e h = ap (λ (x : CallNow). Some x) h ∙ sym (slice_get-get_or xs i b.now (within i (length xs) e))
