-- How many events and transactions a state in order has: no more than its records.
use Rattle.std.proofs.Common.{◌≡◌, ◌∙◌, ◌++◌, ◌∷◌, ◌&&◌, ◌+◌, ◌≤◌, ℕ, ap, arith, Bool, cond, false, fold, length, length-append, List, [], nat_le, nat_lt, suc, sym, true}
use Rattle.std.specs.Prelude.{Option, Some, None, option_map, unwrap_or}
use Rattle.std.proofs.lemmas.Bool.{and_parts}
use Rattle.std.proofs.lemmas.Bool.Decides.{nat_tests}
use Rattle.iss_model.specs.declared.state.Carried.{Carried}
use Rattle.iss_model.specs.declared.state.Seen.{Seen}
use Rattle.iss_model.specs.declared.state.State.{State}
use Rattle.iss_model.specs.rules.Activity.{TxnNow}
use Rattle.iss_model.specs.rules.Asks.{Ask}
use Rattle.iss_model.specs.state.Cores.{CoreState, after_setting, core_facts, no_core}
use Rattle.iss_states.specs.Order.{AreInOrder, do_numbers_rise}
use Rattle.iss_states.specs.Rebuilding.{ask_of_event, carried_named, is_done, rebuilt, txns_begun, with_event, with_seen}
use Rattle.iss_rebuilt.proofs.Made.{length_map}
use Rattle.iss_well_formed.specs.Again.{AreOfTheirEvents, listed, standing}
use Rattle.iss_well_formed.proofs.GrownAgain.{settled_txns}

-- numbers ----

pub up_to : (n m : ℕ) → nat_le n m ≡ true → n ≤ m
up_to n m h = grind (arith, nat_tests)

pub next_to : (n m : ℕ) → nat_lt n m ≡ true → n + 1 ≤ m
next_to n m h = grind (arith, nat_tests)

events_above : (last records : ℕ) (es : List Seen) → do_numbers_rise last records es ≡ true → last ≤ records → length es + last ≤ records
events_above last records [] rise le = omega (arith, le)
events_above last records (e ∷ es) rise le =
    let parts = and_parts (nat_lt last e.number && nat_le e.number records) (do_numbers_rise e.number records es) rise in
    let numbers = and_parts (nat_lt last e.number) (nat_le e.number records) parts.0 in
    one_more (length es) last e.number records (next_to last e.number numbers.0) (events_above e.number records es parts.1 (up_to e.number records numbers.1))
  where
    one_more : (n last number records : ℕ) → last + 1 ≤ number → n + number ≤ records → suc n + last ≤ records
    one_more n last number records h k = omega (arith, h, k)

-- numbers of events rise, so there are no more than records
pub events_few : (records : ℕ) (es : List Seen) → do_numbers_rise 0 records es ≡ true → length es ≤ records
events_few records es rise = so (length es) records (events_above 0 records es rise (none records))
  where
    none : (n : ℕ) → 0 ≤ n
    none n = omega arith

    so : (n m : ℕ) → n + 0 ≤ m → n ≤ m
    so n m h = omega (arith, h)

-- transactions ----

-- an ask begins at most one
begun_few : (ts : List Carried) (ask : Option Ask) → length (txns_begun ts ask) ≤ 1
begun_few ts None = omega arith
begun_few ts (Some ask) = by ask.is_first (carried_named ask.txn.token ts)
  where
    by : (b : Bool) (o : Option Carried)
        → length {A = TxnNow} (cond b (unwrap_or (option_map (λ t. record { txn = ask.txn; live = t.sums.live } ∷ []) o) []) []) ≤ 1
    by true None = omega arith
    by true (Some t) = omega arith
    by false o = omega arith

seen_few : (ts : List Carried) (c : CoreState) (e : Seen) → length (with_seen ts c e).holdings.txns ≤ length c.holdings.txns + 1
seen_few ts c e =
    let settled : CoreState = cond (is_done e.verdict) (after_setting (with_event c e) e.body.input) (with_event c e) in
    let more : List TxnNow = txns_begun ts (ask_of_event (core_facts settled) e.body.at e.body.input) in
    so (length (settled.holdings.txns ++ more)) (length settled.holdings.txns) (length more) (length c.holdings.txns)
    (length-append settled.holdings.txns more) (ap length (settled_txns (is_done e.verdict) (with_event c e) e.body.input))
    (begun_few ts (ask_of_event (core_facts settled) e.body.at e.body.input))
  where
    so : (n a b d : ℕ) → n ≡ a + b → a ≡ d → b ≤ 1 → n ≤ d + 1
    so n a b d e f h = omega (arith, e, f, h)

all_few : (ts : List Carried) (c : CoreState) (es : List Seen) → length (fold (with_seen ts) c es).holdings.txns ≤ length c.holdings.txns + length es
all_few ts c [] = least (length c.holdings.txns)
  where
    least : (n : ℕ) → n ≤ n + 0
    least n = omega arith
all_few ts c (e ∷ es) =
    so (length (fold (with_seen ts) (with_seen ts c e) es).holdings.txns) (length (with_seen ts c e).holdings.txns) (length es) (length c.holdings.txns)
    (all_few ts (with_seen ts c e) es) (seen_few ts c e)
  where
    so : (n a m d : ℕ) → n ≤ a + m → a ≤ d + 1 → n ≤ d + suc m
    so n a m d h k = omega (arith, h, k)

-- a state's transactions are no more than its records
pub txns_few : (s : State) → AreInOrder s → AreOfTheirEvents s → length s.txns ≤ s.records
txns_few s order own =
    so (length s.txns) (length (rebuilt s).holdings.txns) (length s.events) s.records
    (sym (length_map listed s.txns) ∙ ap length (sym own.begun) ∙ length_map standing (rebuilt s).holdings.txns)
    (all_few s.txns no_core s.events) (events_few s.records s.events order.numbers)
  where
    so : (n a m records : ℕ) → n ≡ a → a ≤ 0 + m → m ≤ records → n ≤ records
    so n a m records e h k = omega (arith, e, h, k)
