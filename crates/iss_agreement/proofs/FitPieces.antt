-- The pieces of acts are entries that fit: they name what stands, and make the next notices.
use Rattle.std.proofs.Common.{◌≡◌, ℕ, ◌+◌, ◌<◌, ◌≤◌, Bool, true, false, cond, ◌&&◌, ◌||◌, nat_le, nat_eq, List, [], ◌∷◌, ◌++◌, length, filter, refl, sym, ap, subst, ◌∙◌, arith}
use Rattle.std.specs.List.{list_all}
use Rattle.std.specs.Str.{bytes_eq}
use Rattle.std.proofs.lemmas.Bool.{and_parts}
use Rattle.iss_model.specs.declared.account.Account.{Account}
use Rattle.iss_model.specs.declared.account.Part.{Part}
use Rattle.iss_model.specs.declared.call.Opened.{Opened}
use Rattle.iss_model.specs.declared.decision.Reason.{Reason}
use Rattle.iss_model.specs.declared.entry.Entry.{Entry}
use Rattle.iss_model.specs.declared.setting.Set.{Set}
use Rattle.iss_model.specs.declared.txn.Txn.{Txn}
use Rattle.iss_model.specs.rules.Settings.{is_named_in}
use Rattle.iss_model.specs.rules.Activity.{TxnNow, CallNow, is_asked}
use Rattle.iss_model.specs.rules.Asks.{Ask}
use Rattle.iss_model.specs.rules.Facts.{Facts, asked_calls_of}
use Rattle.iss_model.specs.rules.Pieces.{post_entries, hold_entries, unhold_entries, Parts, use_return_entries, release_entries, abandoned_call_entries, abandoned_calls_entries, declined_ask_entries, funded_ask_entries, part_funded_entries, set_stand_in_entries, clearing_money_entries, give_back_entries}
use Rattle.iss_model.proofs.Lists.{find_passes}
use Rattle.iss_acts.specs.Sources.{IsAskedCall, IsNewNotice, IsTxnOf}
use Rattle.iss_agreement.proofs.StayStanding.{true_le}
use Rattle.iss_agreement.proofs.Standing.{Bounds, IsFit, AreFit}

pub fit-nil : (b : Bounds) → AreFit b []
unfolding AreFit
fit-nil b = tt

pub fit-cons : (b : Bounds) (e : Entry) (es : List Entry) → IsFit b e → AreFit b es → AreFit b (e ∷ es)
unfolding AreFit
fit-cons b e es first rest = (first, rest)

pub fit-one : (b : Bounds) (e : Entry) → IsFit b e → AreFit b (e ∷ [])
fit-one b e first = fit-cons b e [] first (fit-nil b)

pub fit-append : (b : Bounds) (xs ys : List Entry) → AreFit b xs → AreFit b ys → AreFit b (xs ++ ys)
unfolding AreFit
fit-append b [] ys h k = k
fit-append b (e ∷ es) ys h k = (h.0, fit-append b es ys h.1 k)

pub fit-if : (b : Bounds) (c : Bool) (xs ys : List Entry) → AreFit b xs → AreFit b ys → AreFit b (cond c xs ys)
fit-if b true xs ys h k = h
fit-if b false xs ys h k = k

ruleset fits = (fit-nil, fit-cons, fit-append, fit-if)

-- a transaction that stands, by its record and its token
pub record IsKnown (b : Bounds) (t : Txn) : Type 0 where
  pub origin : t.origin ≤ b.count
  pub named : is_named_in b.txns t.token ≡ true

-- the bounds are those of the facts, and the facts hold no call and no transaction beyond them
pub record AreKnown (b : Bounds) (f : Facts) : Type 0 where
  pub count : b.count ≡ f.count
  pub calls : b.calls ≡ length f.calls
  pub notices : b.notices ≡ f.notices_made
  pub numbers : list_all (λ c. nat_le c.opened.call.0 b.calls) f.calls ≡ true
  pub txns : list_all (λ t. nat_le t.txn.origin b.count && is_named_in b.txns t.txn.token) f.txns ≡ true

fit-posted : (b : Bounds) (t : Txn) (from to : Account) (amount : ℕ) → AreFit b (post_entries t from to amount)
fit-posted b t from to amount = search fits depth 20

pub fit-held : (b : Bounds) (t : Txn) (p : Part) (amount : ℕ) → AreFit b (hold_entries t p amount)
fit-held b t p amount = search fits depth 20

fit-let_go : (b : Bounds) (t : Txn) (p : Part) (amount : ℕ) → AreFit b (unhold_entries t p amount)
fit-let_go b t p amount = search fits depth 20

fit-use_returned : (b : Bounds) (t : Txn) (amount : ℕ) → IsKnown b t → AreFit b (use_return_entries t amount)
fit-use_returned b t amount known = search fits depth 20

pub fit-released : (b : Bounds) (t : Txn) (parts : Parts) (amount : ℕ) → IsKnown b t → AreFit b (release_entries t parts amount)
fit-released b t parts amount known = search (fits, fit-let_go, fit-posted, fit-use_returned) depth 20

fit-abandoned_call : (b : Bounds) (number : ℕ) (t : Txn) (why : Reason) (o : Opened) → b.notices < number → o.call.0 ≤ b.calls → IsKnown b t → AreFit b (abandoned_call_entries number t why o)
fit-abandoned_call b number t why o next call known = search fits depth 20

fit-abandoned_calls : (b : Bounds) (number : ℕ) (t : Txn) (why : Reason) (cs : List CallNow) → b.notices < number → list_all (λ c. nat_le c.opened.call.0 b.calls) cs ≡ true → IsKnown b t
    → AreFit b (abandoned_calls_entries number t why cs)
fit-abandoned_calls b number t why [] next numbers known = fit-nil b
fit-abandoned_calls b number t why (c ∷ cs) next numbers known =
    let parts = and_parts (nat_le c.opened.call.0 b.calls) (list_all (λ (c : CallNow). nat_le c.opened.call.0 b.calls) cs) numbers in
    fit-append b (abandoned_call_entries number t why c.opened) (abandoned_calls_entries (number + 1) t why cs)
    (fit-abandoned_call b number t why c.opened next (true_le c.opened.call.0 b.calls parts.0) known)
    (fit-abandoned_calls b (number + 1) t why cs (omega (arith, next)) parts.1 known)

all-filter : {A : Type 0} (p q : A → Bool) (xs : List A) → list_all p xs ≡ true → list_all p (filter q xs) ≡ true
all-filter p q [] h = refl
all-filter {A} p q (x ∷ xs) h =
    let parts = and_parts (p x) (list_all p xs) h in
    by (q x) parts.0 (all-filter p q xs parts.1)
  where
    by : (b : Bool) → p x ≡ true → list_all p (filter q xs) ≡ true → list_all p (cond b (x ∷ filter q xs) (filter q xs)) ≡ true
    by true h k = ap (λ (b : Bool). b && list_all p (filter q xs)) h ∙ k
    by false h k = k

pub fit-abandoned : (b : Bounds) (number : ℕ) (f : Facts) (t : Txn) (why : Reason) (calls : List CallNow) → AreKnown b f → b.notices < number → IsKnown b t → calls ≡ asked_calls_of f t.token
    → AreFit b (abandoned_calls_entries number t why calls)
fit-abandoned b number f t why calls all next known same =
    fit-abandoned_calls b number t why calls next
    (subst (λ (calls : List CallNow). list_all (λ c. nat_le c.opened.call.0 b.calls) calls ≡ true) (sym same)
    (all-filter (λ (c : CallNow). nat_le c.opened.call.0 b.calls) (λ (c : CallNow). is_asked c && bytes_eq c.opened.txn t.token) f.calls all.numbers)) known

pub fit-declined : (b : Bounds) (ask : Ask) (why : Reason) → IsKnown b ask.txn → AreFit b (declined_ask_entries ask why)
fit-declined b ask why known = search fits depth 20

pub fit-funded : (b : Bounds) (ask : Ask) (from : Account) (p : Part) → AreFit b (funded_ask_entries ask from p)
fit-funded b ask from p = search (fits, fit-posted, fit-held) depth 20

pub fit-part_funded : (b : Bounds) (o : Opened) (t : Txn) (amount : ℕ) → IsKnown b t → AreFit b (part_funded_entries o t amount)
fit-part_funded b o t amount known = search (fits, fit-posted, fit-held) depth 20

pub fit-stood : (b : Bounds) (number : ℕ) (ask : Ask) (at : ℕ) (s : Set) → b.notices < number → AreFit b (set_stand_in_entries number ask at s)
fit-stood b number ask at s next = search (fits, fit-posted, fit-held) depth 20

pub fit-cleared : (b : Bounds) (t : Txn) (taken : Parts) (amount at : ℕ) → IsKnown b t → AreFit b (clearing_money_entries t taken amount at)
fit-cleared b t taken amount at known = search (fits, fit-let_go, fit-posted) depth 20

pub fit-refunded : (b : Bounds) (t : Txn) (amount programme : ℕ) → AreFit b (give_back_entries t amount programme)
fit-refunded b t amount programme = search (fits, fit-posted) depth 20

-- what acts are made of is within the bounds ----

pub named_later : (token other : List ℕ) (names : List (List ℕ)) → is_named_in names token ≡ true → is_named_in (other ∷ names) token ≡ true
named_later token other names h =
    by (bytes_eq other token) h
  where
    by : (b : Bool) → is_named_in names token ≡ true → (b || is_named_in names token) ≡ true
    by true h = refl
    by false h = h

pub known_txn : (b : Bounds) (f : Facts) (t : Txn) → AreKnown b f → IsTxnOf f t → IsKnown b t
known_txn b f t all its =
    let now : TxnNow = its.now in
    let parts = and_parts (nat_le now.txn.origin b.count) (is_named_in b.txns now.txn.token)
    (find_passes (λ (t : TxnNow). bytes_eq t.txn.token its.token) (λ (t : TxnNow). nat_le t.txn.origin b.count && is_named_in b.txns t.txn.token) f.txns now all.txns its.stands) in
    subst (IsKnown b) its.same (record { origin = true_le now.txn.origin b.count parts.0; named = parts.1 })

pub known_call : (b : Bounds) (f : Facts) (o : Opened) (t : Txn) → AreKnown b f → IsAskedCall f o t → o.call.0 ≤ b.calls
known_call b f o t all asked =
    subst (λ (o : Opened). o.call.0 ≤ b.calls) asked.opened
    (true_le asked.its.opened.call.0 b.calls
    (find_passes (λ (c : CallNow). nat_eq c.opened.call.0 asked.number) (λ (c : CallNow). nat_le c.opened.call.0 b.calls) f.calls asked.its all.numbers asked.stands))

pub new_notice : (b : Bounds) (f : Facts) (number : ℕ) → AreKnown b f → IsNewNotice f number → b.notices < number
new_notice b f number all new = omega (arith, all.notices, new)
