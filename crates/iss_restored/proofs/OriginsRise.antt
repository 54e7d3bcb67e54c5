-- Transactions that are made again of events in order began with records whose numbers rise.
use Rattle.std.proofs.Common.{◌≡◌, ◌++◌, ◌∷◌, ◌&&◌, ◌||◌, ◌==◌, ◌<◌, ◌≤◌, ℕ, append-nil, arith, Bool, cond, false, fold, List, [], nat_le, nat_lt, refl, subst, sym, true}
use Rattle.std.specs.Prelude.{Option, Some, None, option_map, unwrap_or}
use Rattle.std.specs.List.{list_any}
use Rattle.std.proofs.lemmas.Bool.{and_parts}
use Rattle.std.proofs.lemmas.Bool.Decides.{nat_tests}
use Rattle.iss_model.specs.declared.input.Input.{Input}
use Rattle.iss_model.specs.declared.state.Carried.{Carried}
use Rattle.iss_model.specs.declared.state.Seen.{Seen}
use Rattle.iss_model.specs.declared.state.State.{State}
use Rattle.iss_model.specs.rules.Activity.{TxnNow}
use Rattle.iss_model.specs.rules.Asks.{Ask}
use Rattle.iss_model.specs.rules.Facts.{Facts}
use Rattle.iss_model.specs.state.Cores.{CoreState, after_setting, core_facts, no_core}
use Rattle.iss_states.specs.Order.{AreInOrder, do_numbers_rise}
use Rattle.iss_states.specs.Rebuilding.{ask_of_event, carried_named, is_done, rebuilt, txns_begun, with_event, with_seen}
use Rattle.iss_well_formed.proofs.GrownAgain.{settled_txns}
use Rattle.iss_least.proofs.AskedAgain.{IsAskOf, ask_is}
use Rattle.iss_least.proofs.FormsAgain.{settled_count}

-- Transactions began with records whose numbers rise from above one number, up to another.
abbrev pub Rise : ℕ → ℕ → List TxnNow → Type 0
Rise first last [] = first ≤ last
Rise first last (t ∷ ts) = (first < t.txn.origin) × Rise t.txn.origin last ts

pub rise_up : (first last : ℕ) (ts : List TxnNow) → Rise first last ts → first ≤ last
rise_up first last [] h = h
rise_up first last (t ∷ ts) h = omega (arith, h.0, rise_up t.txn.origin last ts h.1)

rise_further : (first last more : ℕ) (ts : List TxnNow) → last ≤ more → Rise first last ts → Rise first more ts
rise_further first last more [] le h = omega (arith, le, h)
rise_further first last more (t ∷ ts) le h = (h.0, rise_further t.txn.origin last more ts le h.1)

pub rise_last : (first last : ℕ) (ts : List TxnNow) (t : TxnNow) → Rise first last ts → last < t.txn.origin
    → Rise first t.txn.origin (ts ++ t ∷ [])
rise_last first last [] t h later = (omega (arith, h, later), itself t.txn.origin)
  where
    itself : (n : ℕ) → n ≤ n
    itself n = omega arith
rise_last first last (x ∷ ts) t h later = (h.0, rise_last x.txn.origin last ts t h.1 later)

-- a record with a higher number began none of them
pub none_began : (first last n : ℕ) (ts : List TxnNow) → Rise first last ts → last < n
    → list_any (λ (x : TxnNow). n == x.txn.origin) ts ≡ false
none_began first last n [] h later = refl
none_began first last n (t ∷ ts) h later =
    by (n == t.txn.origin) (list_any (λ (x : TxnNow). n == x.txn.origin) ts)
    (other n t.txn.origin (omega (arith, rise_up t.txn.origin last ts h.1, later)))
    (none_began t.txn.origin last n ts h.1 later)
  where
    other : (n m : ℕ) → m < n → (n == m) ≡ false
    other n m h = grind (arith, nat_tests)

    by : (a b : Bool) → a ≡ false → b ≡ false → (a || b) ≡ false
    by true b h k = cc
    by false b h k = k

-- with what an ask begins
begun_rise : (f : Facts) (ts : List Carried) (at : ℕ) (i : Input) (last : ℕ) (xs : List TxnNow) → last < f.count → Rise 0 last xs
    → Rise 0 f.count (xs ++ txns_begun ts (ask_of_event f at i))
begun_rise f ts at i last xs later h = by (ask_of_event f at i) refl
  where
    none : Rise 0 f.count (xs ++ [])
    none = subst (Rise 0 f.count) (sym (append-nil xs)) (rise_further 0 last f.count xs (omega (arith, later)) h)

    carried : (x : Ask) → x.txn.origin ≡ f.count → (o : Option Carried)
        → Rise 0 f.count (xs ++ unwrap_or (option_map (λ (t : Carried). record { txn = x.txn; live = t.sums.live } ∷ []) o) [])
    carried x its None = none
    carried x its (Some t) =
        subst (λ (n : ℕ). Rise 0 n (xs ++ record { txn = x.txn; live = t.sums.live } ∷ [])) its
        (rise_last 0 last xs (record { txn = x.txn; live = t.sums.live }) h (omega (arith, later, its)))

    begins : (x : Ask) → IsAskOf f at i x → (b : Bool) → x.is_first ≡ b
        → Rise 0 f.count (xs ++ cond b (unwrap_or
        (option_map (λ (t : Carried). record { txn = x.txn; live = t.sums.live } ∷ []) (carried_named x.txn.token ts)) []) [])
    begins x its false first = none
    begins x its true first = carried x (its.origin first) (carried_named x.txn.token ts)

    by : (o : Option Ask) → ask_of_event f at i ≡ o → Rise 0 f.count (xs ++ txns_begun ts o)
    by None e = none
    by (Some x) e = begins x (ask_is f at i x e) x.is_first refl

seen_rise : (ts : List Carried) (c : CoreState) (e : Seen) (last : ℕ) → last < e.number → Rise 0 last c.holdings.txns
    → Rise 0 e.number (with_seen ts c e).holdings.txns
seen_rise ts c e last later h =
    let settled : CoreState = cond (is_done e.verdict) (after_setting (with_event c e) e.body.input) (with_event c e) in
    let f : Facts = core_facts settled in
    let count : f.count ≡ e.number = settled_count (is_done e.verdict) (with_event c e) e.body.input in
    subst (λ (n : ℕ). Rise 0 n (with_seen ts c e).holdings.txns) count
    (begun_rise f ts e.body.at e.body.input last settled.holdings.txns (omega (arith, later, count))
    (subst (Rise 0 last) (sym (settled_txns (is_done e.verdict) (with_event c e) e.body.input)) h))

all_rise : (last records : ℕ) (ts : List Carried) (c : CoreState) (es : List Seen) → do_numbers_rise last records es ≡ true
    → last ≤ records → Rise 0 last c.holdings.txns → Rise 0 records (fold (with_seen ts) c es).holdings.txns
all_rise last records ts c [] rise le h = rise_further 0 last records c.holdings.txns le h
all_rise last records ts c (e ∷ es) rise le h =
    let parts = and_parts (nat_lt last e.number && nat_le e.number records) (do_numbers_rise e.number records es) rise in
    let numbers = and_parts (nat_lt last e.number) (nat_le e.number records) parts.0 in
    all_rise e.number records ts (with_seen ts c e) es parts.1 (up_to e.number records numbers.1)
    (seen_rise ts c e last (below last e.number numbers.0) h)
  where
    up_to : (n m : ℕ) → nat_le n m ≡ true → n ≤ m
    up_to n m h = grind (arith, nat_tests)

    below : (n m : ℕ) → nat_lt n m ≡ true → n < m
    below n m h = grind (arith, nat_tests)

pub origins_rise : (s : State) → AreInOrder s → Rise 0 s.records (rebuilt s).holdings.txns
origins_rise s order = all_rise 0 s.records s.txns no_core s.events order.numbers (least s.records) (least 0)
  where
    least : (n : ℕ) → 0 ≤ n
    least n = omega arith
