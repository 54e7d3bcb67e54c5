-- What closing does to what calls ask.
use Rattle.std.specs.Prelude.{Some}
use Rattle.std.proofs.Common.{Bool, List, [], ap, ap₂, arith, cond, false, filter, map, nat_eq, refl, subst, sym, true, ℕ, ◌&&◌, ◌+◌, ◌||◌, ◌∙◌, ◌∷◌, ◌≡◌, ◌≤◌}
use Rattle.iss_model.specs.declared.call.How.{How}
use Rattle.iss_model.specs.rules.Activity.{CallNow, call_numbered, is_asked}
use Rattle.iss_model.specs.state.Cores.{call_after_close}
use Rattle.iss_state.specs.Stakes.{asked_amount, at_least_one, total_asked}
use Rattle.iss_state.proofs.effects.Finds.{number-sym, same_number}

-- ---- one call is closed

asked_amount_lower : (n : ℕ) (how : How) (c : CallNow) → asked_amount (call_after_close n how c) ≤ asked_amount c
asked_amount_lower n how c = by (nat_eq n c.opened.call.0 && is_asked c)
  where
    by : (b : Bool) → asked_amount (cond b (record c { how = Some how }) c) ≤ asked_amount c
    by true = omega arith
    by false = omega arith

asked_lower : (n : ℕ) (how : How) (calls : List CallNow) → total_asked (map (call_after_close n how) calls) ≤ total_asked calls
asked_lower n how [] = omega arith
asked_lower n how (c ∷ cs) = omega (arith, asked_amount_lower n how c, asked_lower n how cs)

asked_amount_gone : (n : ℕ) (how : How) (c : CallNow) → nat_eq c.opened.call.0 n ≡ true → is_asked c ≡ true → asked_amount (call_after_close n how c) + at_least_one c.opened.amount ≤ asked_amount c
asked_amount_gone n how c e a =
    let both : (nat_eq n c.opened.call.0 && is_asked c) ≡ true = ap₂ (λ (a b : Bool). a && b) (number-sym n c.opened.call.0 ∙ e) a in
    let now : asked_amount (call_after_close n how c) ≡ 0 = ap (λ (b : Bool). asked_amount (cond b (record c { how = Some how }) c)) both in
    let then : asked_amount c ≡ at_least_one c.opened.amount = ap (λ (b : Bool). cond b (at_least_one c.opened.amount) 0) a in
    omega (arith, now, then)

-- closing an asked call takes from what is asked all that it asks
pub asked_after_close : (n : ℕ) (how : How) (calls : List CallNow) (c : CallNow) → call_numbered n calls ≡ Some c → is_asked c ≡ true → total_asked (map (call_after_close n how) calls) + at_least_one c.opened.amount ≤ total_asked calls
asked_after_close n how [] c e a = cc
asked_after_close n how (d ∷ ds) c e a = by (nat_eq d.opened.call.0 n) refl e (λ later. asked_after_close n how ds c later a)
  where
    by : (b : Bool) → nat_eq d.opened.call.0 n ≡ b → cond b (Some d) (call_numbered n ds) ≡ Some c
        → (call_numbered n ds ≡ Some c → total_asked (map (call_after_close n how) ds) + at_least_one c.opened.amount ≤ total_asked ds)
        → total_asked (map (call_after_close n how) (d ∷ ds)) + at_least_one c.opened.amount ≤ total_asked (d ∷ ds)
    by true e found later =
        let same : d ≡ c = cc in
        let gone : asked_amount (call_after_close n how d) + at_least_one c.opened.amount ≤ asked_amount d =
        subst (λ (x : CallNow). asked_amount (call_after_close n how d) + at_least_one x.opened.amount ≤ asked_amount d) same
        (asked_amount_gone n how d e (ap is_asked same ∙ a)) in
        omega (arith, gone, asked_lower n how ds)
    by false e found later = omega (arith, later found, asked_amount_lower n how d)

-- ---- each of some calls is closed

-- calls when each of these was closed, one after the other
abbrev pub with_all_closed : How → List CallNow → List CallNow → List CallNow
with_all_closed how [] calls = calls
with_all_closed how (k ∷ ks) calls = with_all_closed how ks (map (call_after_close k.opened.call.0 how) calls)

-- 0 if a test holds
abbrev zero_where : Bool → ℕ → ℕ
zero_where true n = 0
zero_where false n = n

-- a call has the number of one of these
abbrev is_among : List CallNow → CallNow → Bool
is_among [] c = false
is_among (k ∷ ks) c = nat_eq k.opened.call.0 c.opened.call.0 || is_among ks c

-- what is asked by the calls that aren't among these
abbrev asked_of_others : List CallNow → List CallNow → ℕ
asked_of_others ks [] = 0
asked_of_others ks (c ∷ cs) = zero_where (is_among ks c) (asked_amount c) + asked_of_others ks cs

others_of_none : (calls : List CallNow) → asked_of_others [] calls ≡ total_asked calls
others_of_none [] = refl
others_of_none (c ∷ cs) = ap (λ (n : ℕ). asked_amount c + n) (others_of_none cs)

others_after_close : (how : How) (k : CallNow) (ks : List CallNow) (c : CallNow)
    → zero_where (is_among ks (call_after_close k.opened.call.0 how c)) (asked_amount (call_after_close k.opened.call.0 how c)) ≡ zero_where (is_among (k ∷ ks) c) (asked_amount c)
others_after_close how k ks c = by (nat_eq k.opened.call.0 c.opened.call.0) (is_asked c) refl
  where
    zero_is : (b : Bool) → zero_where b 0 ≡ 0
    zero_is true = refl
    zero_is false = refl

    by : (b a : Bool) → is_asked c ≡ a
        → zero_where (is_among ks (cond (b && a) (record c { how = Some how }) c)) (asked_amount (cond (b && a) (record c { how = Some how }) c)) ≡ zero_where (b || is_among ks c) (asked_amount c)
    by true true e = zero_is (is_among ks (record c { how = Some how }))
    by true false e = ap (λ (n : ℕ). zero_where (is_among ks c) n) (ap (λ (x : Bool). cond x (at_least_one c.opened.amount) 0) e) ∙ zero_is (is_among ks c)
    by false a e = refl

others_after_one : (how : How) (k : CallNow) (ks calls : List CallNow) → asked_of_others ks (map (call_after_close k.opened.call.0 how) calls) ≡ asked_of_others (k ∷ ks) calls
others_after_one how k ks [] = refl
others_after_one how k ks (c ∷ cs) = ap₂ (λ (a b : ℕ). a + b) (others_after_close how k ks c) (others_after_one how k ks cs)

-- what is still asked when these were closed is what the others ask
asked_after_all : (how : How) (ks calls : List CallNow) → total_asked (with_all_closed how ks calls) ≡ asked_of_others ks calls
asked_after_all how [] calls = sym (others_of_none calls)
asked_after_all how (k ∷ ks) calls = asked_after_all how ks (map (call_after_close k.opened.call.0 how) calls) ∙ others_after_one how k ks calls

others_lower : (k : CallNow) (ks calls : List CallNow) → asked_of_others (k ∷ ks) calls ≤ asked_of_others ks calls
others_lower k ks [] = omega arith
others_lower k ks (c ∷ cs) =
    omega (arith, by (nat_eq k.opened.call.0 c.opened.call.0) (is_among ks c), others_lower k ks cs)
  where
    by : (a b : Bool) → zero_where (a || b) (asked_amount c) ≤ zero_where b (asked_amount c)
    by true true = omega arith
    by true false = omega arith
    by false b = omega arith

others_of_found : (p : CallNow → Bool) (calls : List CallNow) → asked_of_others (filter p calls) calls + total_asked (filter p calls) ≤ total_asked calls
others_of_found p [] = omega arith
others_of_found p (c ∷ cs) = by (p c) (others_of_found p cs)
  where
    by : (b : Bool) → asked_of_others (filter p cs) cs + total_asked (filter p cs) ≤ total_asked cs
        → asked_of_others (cond b (c ∷ filter p cs) (filter p cs)) (c ∷ cs) + total_asked (cond b (c ∷ filter p cs) (filter p cs)) ≤ total_asked (c ∷ cs)
    by true later =
        let gone : zero_where (nat_eq c.opened.call.0 c.opened.call.0 || is_among (filter p cs) c) (asked_amount c) ≡ 0 = ap (λ (b : Bool). zero_where (b || is_among (filter p cs) c) (asked_amount c)) (same_number c.opened.call.0) in
        omega (arith, later, gone, others_lower c (filter p cs) cs)
    by false later = omega (arith, later, at_most (is_among (filter p cs) c))
      where
        at_most : (b : Bool) → zero_where b (asked_amount c) ≤ asked_amount c
        at_most true = omega arith
        at_most false = omega arith

-- closing all that a test finds takes from what is asked all that they ask
pub asked_after_closing_all : (how : How) (p : CallNow → Bool) (calls : List CallNow) → total_asked (with_all_closed how (filter p calls) calls) + total_asked (filter p calls) ≤ total_asked calls
asked_after_closing_all how p calls = omega (arith, others_of_found p calls, asked_after_all how (filter p calls) calls)
