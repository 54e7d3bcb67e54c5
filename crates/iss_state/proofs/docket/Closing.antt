-- What closing a call does to each call.
use Rattle.std.proofs.Common.{◌≡◌, ℕ, ◌+◌, ◌≤◌, Bool, true, false, cond, ◌&&◌, ◌||◌, nat_eq, List, [], ◌∷◌, map, filter, refl, sym, ap, ◌∙◌, arith}
use Rattle.std.specs.Prelude.{Some, option_map}
use Rattle.std.specs.List.{list_any}
use Rattle.std.proofs.lemmas.Bool.Decides.{nat_tests}
use Rattle.iss_model.specs.declared.call.How.{How}
use Rattle.iss_model.specs.declared.call.Opened.{Opened}
use Rattle.iss_model.specs.rules.Activity.{CallNow, call_numbered, is_asked}
use Rattle.iss_model.specs.state.Cores.{call_after_close}
use Rattle.iss_state.proofs.effects.Finds.{find-map, found_passes, number_is, same_number}
use Rattle.iss_state.specs.Numbers.{CallsNumberedFrom}
use Rattle.iss_state.specs.Well.{IsAsked, NoneOpenedFor}
use Rattle.iss_state.proofs.docket.Lists.{Each, Lone, each_weaker, mapped_is}

pub its_number : (calls : List CallNow) (n : ℕ) (c : CallNow) → call_numbered n calls ≡ Some c → c.opened.call.0 ≡ n
its_number calls n c e = number_is c.opened.call.0 n (found_passes (λ (c : CallNow). nat_eq c.opened.call.0 n) calls c e)

-- a call that is asked, by its own number
pub by_itself : (calls : List CallNow) (n : ℕ) (c : CallNow) → IsAsked calls n c → IsAsked calls c.opened.call.0 c
by_itself calls n c now =
    record { stands = ap (λ (m : ℕ). call_numbered m calls) (its_number calls n c now.stands) ∙ now.stands; asked = now.asked }

-- one call ----

pub same_opened : (k : ℕ) (how : How) (c : CallNow) → (call_after_close k how c).opened ≡ c.opened
same_opened k how c = by (nat_eq k c.opened.call.0 && is_asked c)
  where
    by : (b : Bool) → (cond b (record c { how = Some how }) c).opened ≡ c.opened
    by true = refl
    by false = refl

-- a closed call stays as it is
pub stays_closed : (k : ℕ) (how : How) (c : CallNow) → is_asked c ≡ false → call_after_close k how c ≡ c
stays_closed k how c closed = by (nat_eq k c.opened.call.0) (is_asked c) closed
  where
    by : (a b : Bool) → b ≡ false → cond (a && b) (record c { how = Some how }) c ≡ c
    by true true h = cc
    by true false h = refl
    by false b h = refl

-- the call of the number is asked no more
pub own_closed : (k : ℕ) (how : How) (c : CallNow) → nat_eq k c.opened.call.0 ≡ true → is_asked (call_after_close k how c) ≡ false
own_closed k how c same = by (is_asked c) refl
  where
    by : (b : Bool) → is_asked c ≡ b → is_asked (call_after_close k how c) ≡ false
    by true h =
        ap (λ (x : Bool). is_asked (cond (x && is_asked c) (record c { how = Some how }) c)) same
        ∙ ap (λ (x : Bool). is_asked (cond x (record c { how = Some how }) c)) h
    by false h = ap is_asked (stays_closed k how c h) ∙ h

-- another call stays as it is
pub other_stays : (k : ℕ) (how : How) (c : CallNow) → nat_eq k c.opened.call.0 ≡ false → call_after_close k how c ≡ c
other_stays k how c other = ap (λ (x : Bool). cond (x && is_asked c) (record c { how = Some how }) c) other

-- the list of calls ----

pub call_closed : (n k : ℕ) (how : How) (calls : List CallNow)
    → call_numbered n (map (call_after_close k how) calls) ≡ option_map (call_after_close k how) (call_numbered n calls)
call_closed n k how calls =
    find-map (λ (c : CallNow). nat_eq c.opened.call.0 n) (λ (c : CallNow). nat_eq c.opened.call.0 n) (call_after_close k how)
    (λ c. ap (λ (o : Opened). nat_eq o.call.0 n) (same_opened k how c)) calls

-- a call that stands is then as the closing left it
pub stands_after : (calls : List CallNow) (k : ℕ) (how : How) (n : ℕ) (c : CallNow) → call_numbered n calls ≡ Some c
    → call_numbered n (map (call_after_close k how) calls) ≡ Some (call_after_close k how c)
stands_after calls k how n c e = call_closed n k how calls ∙ ap (option_map (call_after_close k how)) e

-- another call that is asked still is
pub asked_after : (calls : List CallNow) (k : ℕ) (how : How) (n : ℕ) (c : CallNow) → IsAsked calls n c → nat_eq k c.opened.call.0 ≡ false
    → IsAsked (map (call_after_close k how) calls) n c
asked_after calls k how n c now other =
    record { stands = stands_after calls k how n c now.stands ∙ ap (λ (x : CallNow). Some x) (other_stays k how c other); asked = now.asked }

-- a call of the closed list stood before
stood_before : (calls : List CallNow) (k : ℕ) (how : How) (n : ℕ) (c : CallNow) → call_numbered n (map (call_after_close k how) calls) ≡ Some c
    → (e : CallNow) × (call_numbered n calls ≡ Some e) × (call_after_close k how e ≡ c)
stood_before calls k how n c e = mapped_is (call_after_close k how) (call_numbered n calls) c (sym (call_closed n k how calls) ∙ e)

-- a call of the closed list stood before, and was opened as it is now
pub opened_before : (calls : List CallNow) (k : ℕ) (how : How) (n : ℕ) (c : CallNow) → call_numbered n (map (call_after_close k how) calls) ≡ Some c
    → (e : CallNow) × (call_numbered n calls ≡ Some e) × (e.opened ≡ c.opened)
opened_before calls k how n c e =
    let was = stood_before calls k how n c e in
    (was.0, was.1, sym (same_opened k how was.0) ∙ ap (λ (x : CallNow). x.opened) was.2)

asked_so : (e c : CallNow) (how : How) (b : Bool) → cond b (record e { how = Some how }) e ≡ c → is_asked c ≡ true → (e ≡ c) × (b ≡ false)
asked_so e c how true same h = let closed : is_asked c ≡ false = ap is_asked (sym same) in absurd cc
asked_so e c how false same h = (same, refl)

first_false : (a b : Bool) → (a && b) ≡ false → b ≡ true → a ≡ false
first_false true b h k = cc
first_false false b h k = refl

-- a call that is asked after a closing was asked before, and is another one
pub asked_before : (calls : List CallNow) (k : ℕ) (how : How) (n : ℕ) (c : CallNow) → IsAsked (map (call_after_close k how) calls) n c
    → IsAsked calls n c × (nat_eq k c.opened.call.0 ≡ false)
asked_before calls k how n c now =
    let was = stood_before calls k how n c now.stands in
    let same = asked_so was.0 c how (nat_eq k was.0.opened.call.0 && is_asked was.0) was.2 now.asked in (
      record { stands = was.1 ∙ ap (λ (x : CallNow). Some x) same.0; asked = now.asked },
      ap (λ (x : CallNow). nat_eq k x.opened.call.0) (sym same.0)
          ∙ first_false (nat_eq k was.0.opened.call.0) (is_asked was.0) same.1 (ap is_asked same.0 ∙ now.asked),
    )

pub none_opened_after : (calls : List CallNow) (k : ℕ) (how : How) (event : List ℕ) → NoneOpenedFor calls event
    → NoneOpenedFor (map (call_after_close k how) calls) event
none_opened_after calls k how event none n c e same =
    let was = opened_before calls k how n c e in
    none n was.0 was.1 (ap (λ (o : Opened). o.event) was.2 ∙ same)

pub numbered_after : (n k : ℕ) (how : How) (calls : List CallNow) → CallsNumberedFrom n calls → CallsNumberedFrom n (map (call_after_close k how) calls)
numbered_after n k how [] h = tt
numbered_after n k how (c ∷ cs) h = (ap (λ (o : Opened). o.call.0) (same_opened k how c) ∙ h.0, numbered_after (n + 1) k how cs h.1)

-- calls that are numbered stand by their own numbers ----

record IsFoundFrom (n : ℕ) (calls : List CallNow) (c : CallNow) : Type 0 where
  from : n ≤ c.opened.call.0
  itself : call_numbered c.opened.call.0 calls ≡ Some c

found_later : (n : ℕ) (x : CallNow) (xs : List CallNow) → x.opened.call.0 ≡ n → (c : CallNow) → IsFoundFrom (n + 1) xs c → IsFoundFrom n (x ∷ xs) c
found_later n x xs e c found =
    let other : nat_eq x.opened.call.0 c.opened.call.0 ≡ false = differ x.opened.call.0 c.opened.call.0 n e found.from in
    record { from = omega (arith, found.from); itself = ap (λ (b : Bool). cond b (Some x) (call_numbered c.opened.call.0 xs)) other ∙ found.itself }
  where
    differ : (a b n : ℕ) → a ≡ n → n + 1 ≤ b → nat_eq a b ≡ false
    differ a b n e h = grind (arith, nat_tests)

found_from : (n : ℕ) (calls : List CallNow) → CallsNumberedFrom n calls → Each (IsFoundFrom n calls) calls
found_from n [] h = tt
found_from n (x ∷ xs) h = (
  record { from = omega (arith, h.0); itself = ap (λ (b : Bool). cond b (Some x) (call_numbered x.opened.call.0 xs)) (same_number x.opened.call.0) },
  each_weaker (IsFoundFrom (n + 1) xs) (IsFoundFrom n (x ∷ xs)) (found_later n x xs h.0) xs (found_from (n + 1) xs h.1),
)

-- a call stands by its own number
abbrev pub StandsItself : List CallNow → CallNow → Type 0
StandsItself calls c = call_numbered c.opened.call.0 calls ≡ Some c

pub all_stand : (calls : List CallNow) → CallsNumberedFrom 1 calls → Each (StandsItself calls) calls
all_stand calls h = each_weaker (IsFoundFrom 1 calls) (StandsItself calls) (λ c found. found.itself) calls (found_from 1 calls h)

-- numbers that grow, as those of a filtered list do
abbrev pub NumbersGrowFrom : ℕ → List CallNow → Type 0
NumbersGrowFrom n [] = Unit {0}
NumbersGrowFrom n (c ∷ cs) = (n ≤ c.opened.call.0) × NumbersGrowFrom (c.opened.call.0 + 1) cs

grow_from_less : (m n : ℕ) (cs : List CallNow) → m ≤ n → NumbersGrowFrom n cs → NumbersGrowFrom m cs
grow_from_less m n [] h grow = tt
grow_from_less m n (c ∷ cs) h grow = (omega (arith, h, grow.0), grow.1)

pub filtered_grow : (q : CallNow → Bool) (n : ℕ) (cs : List CallNow) → CallsNumberedFrom n cs → NumbersGrowFrom n (filter q cs)
filtered_grow q n [] h = tt
filtered_grow q n (c ∷ cs) h = by (q c) (filtered_grow q (n + 1) cs h.1)
  where
    by : (b : Bool) → NumbersGrowFrom (n + 1) (filter q cs) → NumbersGrowFrom n (cond b (c ∷ filter q cs) (filter q cs))
    by true grow = (omega (arith, h.0), grow_from_less (c.opened.call.0 + 1) (n + 1) (filter q cs) (omega (arith, h.0)) grow)
    by false grow = grow_from_less n (n + 1) (filter q cs) (omega arith) grow

-- a number is one call's alone
later_numbers : (m n : ℕ) (xs : List CallNow) → CallsNumberedFrom m xs → n + 1 ≤ m → list_any (λ x. nat_eq x.opened.call.0 n) xs ≡ false
later_numbers m n [] h less = refl
later_numbers m n (x ∷ xs) h less =
    ap (λ (b : Bool). b || list_any (λ (x : CallNow). nat_eq x.opened.call.0 n) xs) (differ x.opened.call.0 m n h.0 less) ∙ later_numbers (m + 1) n xs h.1 (omega (arith, less))
  where
    differ : (a m n : ℕ) → a ≡ m → n + 1 ≤ m → nat_eq a n ≡ false
    differ a m n e h = grind (arith, nat_tests)

pub calls_lone : (m n : ℕ) (xs : List CallNow) → CallsNumberedFrom m xs → Lone (λ x. nat_eq x.opened.call.0 n) xs
calls_lone m n [] h = tt
calls_lone m n (x ∷ xs) h = (λ e. later_numbers (m + 1) n xs h.1 (below x.opened.call.0 m n h.0 e), calls_lone (m + 1) n xs h.1)
  where
    below : (a m n : ℕ) → a ≡ m → nat_eq a n ≡ true → n + 1 ≤ m + 1
    below a m n e h = let same : a ≡ n = number_is a n h in omega (arith, same, e)
