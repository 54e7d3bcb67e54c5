-- What a state in order tells whoever makes entries on it.
use Rattle.std.proofs.Common.{◌≡◌, ℕ, ◌+◌, ◌^◌, ◌<◌, ◌≤◌, Bool, true, false, cond, not, ◌||◌, ◌&&◌, nat_lt, nat_eq, suc, List, [], ◌∷◌, map, filter, length, take, drop, ◌++◌, ◌-◌, refl, sym, ap, ap₂, subst, ◌∙◌, arith}
use Rattle.std.specs.Prelude.{Option, Some, None, is_some, is_none, Result, Ok, Err, OnOk}
use Rattle.std.specs.List.{list_all, list_any}
use Rattle.std.specs.Str.{bytes_eq}
use Rattle.std.proofs.Math.Seq.{drop-append_seam, take-length}
use Rattle.std.proofs.lemmas.List.{length-drop}
use Rattle.std.proofs.lemmas.Bool.{and_parts}
use Rattle.std.proofs.lemmas.Bool.Decides.{nat_tests}
use Rattle.iss_model.specs.declared.call.Opened.{Opened}
use Rattle.iss_model.specs.declared.setting.Product.{Product}
use Rattle.iss_model.specs.declared.txn.Txn.{Txn}
use Rattle.iss_model.specs.declared.decision.Reason.{Reason}
use Rattle.iss_model.specs.declared.entry.Entry.{Entry}
use Rattle.iss_model.specs.Forms.{is_timeout, is_hold_time}
use Rattle.iss_model.specs.rules.Settings.{product_named}
use Rattle.iss_model.specs.rules.Activity.{CallNow, call_numbered, is_asked}
use Rattle.iss_model.specs.rules.Facts.{next_notice}
use Rattle.iss_model.specs.rules.Pieces.{abandoned_call_entries, abandoned_calls_entries}
use Rattle.iss_model.specs.state.Cores.{CoreState, ProductNow, core_facts}
use Rattle.iss_state.specs.InForm.{are_times}
use Rattle.iss_call.specs.States.{asked_of}
use Rattle.iss_core.specs.Answers.{abandoned_entries}
use Rattle.iss_core.specs.Order.{asks_little, IsInOrder}

-- ---- calls

below : (n most : ℕ) → nat_lt n most ≡ true → n < most
below n most h = grind (arith, nat_tests)

asks_so : (c : CallNow) (b : Bool) → is_asked c ≡ b → b ≡ true → asks_little c ≡ true → c.opened.amount < 2 ^ 62
asks_so c true e h little = below c.opened.amount (2 ^ 62) (sym (ap (λ (t : Bool). not t || nat_lt c.opened.amount (2 ^ 62)) e) ∙ little)
asks_so c false e h little = cc

-- an asked call asks for a small amount
pub asked_little : (calls : List CallNow) (number : ℕ) (c : CallNow) → list_all asks_little calls ≡ true → call_numbered number calls ≡ Some c → is_asked c ≡ true → c.opened.amount < 2 ^ 62
asked_little [] number c all found asked = cc
asked_little (x ∷ xs) number c all found asked =
    let both = and_parts (asks_little x) (list_all asks_little xs) all in
    by (nat_eq x.opened.call.0 number) found both.0 (λ later. asked_little xs number c both.1 later asked)
  where
    by : (b : Bool) → cond b (Some x) (call_numbered number xs) ≡ Some c → asks_little x ≡ true → (call_numbered number xs ≡ Some c → c.opened.amount < 2 ^ 62) → c.opened.amount < 2 ^ 62
    by true found little rest = let same : x ≡ c = cc in asks_so c true asked refl (subst (λ (y : CallNow). asks_little y ≡ true) same little)
    by false found little rest = rest found

-- the asked calls of a transaction ask for small amounts
pub all_little : (calls : List CallNow) (txn : List ℕ) → list_all asks_little calls ≡ true
    → list_all (λ (o : Opened). nat_lt o.amount (2 ^ 62)) (map (λ (c : CallNow). c.opened) (filter (λ (c : CallNow). is_asked c && bytes_eq c.opened.txn txn) calls)) ≡ true
all_little [] txn all = refl
all_little (c ∷ cs) txn all =
    let both = and_parts (asks_little c) (list_all asks_little cs) all in
    by (is_asked c) (bytes_eq c.opened.txn txn) both.0 (all_little cs txn both.1)
  where
    by : (a b : Bool) → (not a || nat_lt c.opened.amount (2 ^ 62)) ≡ true
        → list_all (λ (o : Opened). nat_lt o.amount (2 ^ 62)) (map (λ (d : CallNow). d.opened) (filter (λ (d : CallNow). is_asked d && bytes_eq d.opened.txn txn) cs)) ≡ true
        → list_all (λ (o : Opened). nat_lt o.amount (2 ^ 62)) (map (λ (d : CallNow). d.opened) (cond (a && b) (c ∷ filter (λ (d : CallNow). is_asked d && bytes_eq d.opened.txn txn) cs) (filter (λ (d : CallNow). is_asked d && bytes_eq d.opened.txn txn) cs))) ≡ true
    by true true little rest = ap (λ (t : Bool). t && list_all (λ (o : Opened). nat_lt o.amount (2 ^ 62)) (map (λ (d : CallNow). d.opened) (filter (λ (d : CallNow). is_asked d && bytes_eq d.opened.txn txn) cs))) little ∙ rest
    by true false little rest = rest
    by false b little rest = rest

-- the asked calls of a transaction are no more than all asked calls
pub no_more : (calls : List CallNow) (txn : List ℕ) → length (filter (λ (c : CallNow). is_asked c && bytes_eq c.opened.txn txn) calls) ≤ length (filter is_asked calls)
no_more [] txn = omega arith
no_more (c ∷ cs) txn = by (is_asked c) (bytes_eq c.opened.txn txn) (no_more cs txn)
  where
    by : (a b : Bool) → length (filter (λ (d : CallNow). is_asked d && bytes_eq d.opened.txn txn) cs) ≤ length (filter is_asked cs)
        → length (cond (a && b) (c ∷ filter (λ (d : CallNow). is_asked d && bytes_eq d.opened.txn txn) cs) (filter (λ (d : CallNow). is_asked d && bytes_eq d.opened.txn txn) cs)) ≤ length (cond a (c ∷ filter is_asked cs) (filter is_asked cs))
    by true true h = omega (arith, h)
    by true false h = omega (arith, h)
    by false b h = h

pub length_opened : (cs : List CallNow) → length (map (λ (c : CallNow). c.opened) cs) ≡ length cs
length_opened [] = refl
length_opened (c ∷ cs) = ap suc (length_opened cs)

-- there are numbers for the notices of a transaction's calls
pub room_for : (s : CoreState) (number : ℕ) (txn : List ℕ) (os : List Opened) → IsInOrder s → number ≡ next_notice (core_facts s) → os ≡ map (λ (c : CallNow). c.opened) (asked_of s.calls txn) → number + length os < 2 ^ 32
room_for s number txn os order next e =
    let same : length os ≡ length (asked_of s.calls txn) = ap (λ (xs : List Opened). length xs) e ∙ length_opened (asked_of s.calls txn) in
    let fewer = no_more s.calls txn in
    let left = order.notices in
    omega (arith, next, same, fewer, left)

pub little_of : (s : CoreState) (txn : List ℕ) (os : List Opened) → IsInOrder s → os ≡ map (λ (c : CallNow). c.opened) (asked_of s.calls txn) → list_all (λ (o : Opened). nat_lt o.amount (2 ^ 62)) os ≡ true
little_of s txn os order e = ap (λ (xs : List Opened). list_all (λ (o : Opened). nat_lt o.amount (2 ^ 62)) xs) e ∙ all_little s.calls txn order.amounts

-- calls as they were opened are abandoned as calls are
pub by_calls : (number : ℕ) (t : Txn) (why : Reason) (cs : List CallNow) → abandoned_entries number t why (map (λ (c : CallNow). c.opened) cs) ≡ abandoned_calls_entries number t why cs
by_calls number t why [] = refl
by_calls number t why (c ∷ cs) = ap (λ (es : List Entry). abandoned_call_entries number t why c.opened ++ es) (by_calls (number + 1) t why cs)

-- entries that were added, by another word for them
pub added_as : {A E : Type 0} (r : Result A E) (old new xs ys : List Entry) → OnOk r (new ≡ old ++ xs) → xs ≡ ys → OnOk r (new ≡ old ++ ys)
added_as (Ok x) old new xs ys h e = h ∙ ap (λ (es : List Entry). old ++ es) e
added_as (Err x) old new xs ys h e = tt

-- what was added stands after what was there
pub sliced : (old own all : List Entry) (start : ℕ) → all ≡ old ++ own → start ≡ length old → take (length all - start) (drop start all) ≡ own
sliced old own all start e at =
    ap (λ (n : ℕ). take n (drop start all)) (sym (length-drop start all)) ∙ take-length (drop start all)
    ∙ ap₂ (λ (n : ℕ) (es : List Entry). drop n es) at e ∙ drop-append_seam old own

-- a test of calls as they were opened
pub any_opened : (p : Opened → Bool) (cs : List CallNow) → list_any p (map (λ (c : CallNow). c.opened) cs) ≡ list_any (λ (c : CallNow). p c.opened) cs
any_opened p [] = refl
any_opened p (c ∷ cs) = ap (λ (b : Bool). p c.opened || b) (any_opened p cs)

-- ---- products

found_times : (ps : List ProductNow) (name : List ℕ) (p : Product) → list_all are_times ps ≡ true → product_named name (map (λ (q : ProductNow). q.product) ps) ≡ Some p → (is_timeout p.timeout_ms && is_hold_time p.hold_ms) ≡ true
found_times [] name p all found = cc
found_times (q ∷ qs) name p all found =
    let both = and_parts (are_times q) (list_all are_times qs) all in
    by (bytes_eq q.product.name name) found both.0 (λ later. found_times qs name p both.1 later)
  where
    by : (b : Bool) → cond b (Some q.product) (product_named name (map (λ (r : ProductNow). r.product) qs)) ≡ Some p → are_times q ≡ true
        → (product_named name (map (λ (r : ProductNow). r.product) qs) ≡ Some p → (is_timeout p.timeout_ms && is_hold_time p.hold_ms) ≡ true) → (is_timeout p.timeout_ms && is_hold_time p.hold_ms) ≡ true
    by true found times rest = let same : q.product ≡ p = cc in subst (λ (x : Product). (is_timeout x.timeout_ms && is_hold_time x.hold_ms) ≡ true) same times
    by false found times rest = rest found

-- a product that stands has its times in form
pub its_timeout : (s : CoreState) (name : List ℕ) (p : Product) → IsInOrder s → Some p ≡ product_named name (core_facts s).products → is_timeout p.timeout_ms ≡ true
its_timeout s name p order found = (and_parts (is_timeout p.timeout_ms) (is_hold_time p.hold_ms) (found_times s.products name p order.forms.products (sym found))).0

pub its_hold_time : (s : CoreState) (name : List ℕ) (p : Product) → IsInOrder s → Some p ≡ product_named name (core_facts s).products → is_hold_time p.hold_ms ≡ true
its_hold_time s name p order found = (and_parts (is_timeout p.timeout_ms) (is_hold_time p.hold_ms) (found_times s.products name p order.forms.products (sym found))).1

pub is_none_of : {A : Type 0} (o : Option A) → is_some o ≡ false → is_none o ≡ true
is_none_of None h = refl
is_none_of (Some x) h = cc
