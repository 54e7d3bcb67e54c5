-- A state has no more calls and transactions than events, and no more events than records.
use Rattle.std.proofs.Common.{◌≡◌, ◌≤◌, ◌<◌, ◌∙◌, ◌+◌, ◌++◌, ◌∷◌, ◌&&◌, ap, arith, Bool, cond, false, fold, length, List, [], map, nat_le, nat_lt, refl, sym, true, ℕ}
use Rattle.std.specs.Prelude.{Option, Some, None, option_map, unwrap_or}
use Rattle.std.proofs.lemmas.Bool.{and_parts}
use Rattle.std.proofs.lemmas.Bool.Decides.{nat_tests}
use Rattle.std.proofs.lemmas.List.{length-append, length-map}
use Rattle.iss_model.specs.declared.call.CallState.{CallState}
use Rattle.iss_model.specs.declared.limits.TheConstants.{MOST_RECORDS}
use Rattle.iss_model.specs.declared.setting.Product.{Product}
use Rattle.iss_model.specs.declared.state.Carried.{Carried}
use Rattle.iss_model.specs.declared.state.Seen.{Seen}
use Rattle.iss_model.specs.declared.state.State.{State}
use Rattle.iss_model.specs.rules.Activity.{CallNow, TxnNow}
use Rattle.iss_model.specs.rules.Asks.{Ask}
use Rattle.iss_model.specs.rules.Facts.{Facts}
use Rattle.iss_model.specs.rules.Pieces.{call_for}
use Rattle.iss_model.specs.rules.Settings.{product_named}
use Rattle.iss_model.specs.state.Cores.{CoreState, after_setting, core_facts, no_core}
use Rattle.iss_states.specs.Order.{AreInOrder, do_numbers_rise}
use Rattle.iss_states.specs.Rebuilding.{ask_of_event, calls_marked, carried_named, how_of_mark, is_done, rebuilt, txns_begun, with_event, with_seen}
use Rattle.iss_well_formed.specs.Again.{listed, standing}
use Rattle.iss_well_formed.proofs.GrownAgain.{settled_calls, settled_txns}
use Rattle.iss_bounded.specs.Many.{live_number}
use Rattle.iss_known.specs.Known.{IsReadAgain}
use Rattle.iss_sound_parts.specs.Totals.{live_carried}

-- the core with an event, and its setting if it is done
abbrev pub settled_by : CoreState → Seen → CoreState
settled_by c e = cond (is_done e.verdict) (after_setting (with_event c e) e.body.input) (with_event c e)

-- what an event asks
abbrev pub asked_by : CoreState → Seen → Option Ask
asked_by c e = ask_of_event (core_facts (settled_by c e)) e.body.at e.body.input

-- calls ----

one_call : (f : Facts) (mark : Option CallState) (ask : Option Ask) → length (calls_marked f mark ask) ≤ 1
one_call f None ask = omega arith
one_call f (Some mark) None = omega arith
one_call f (Some mark) (Some ask) = by (product_named ask.txn.product f.products)
  where
    by : (o : Option Product) → length {A = CallNow} (unwrap_or (option_map (λ product. record { opened = call_for f product ask; how = how_of_mark mark } ∷ []) o) []) ≤ 1
    by None = omega arith
    by (Some product) = omega arith

longer : {A : Type 0} (xs ys zs : List A) → xs ≡ zs → length ys ≤ 1 → length (xs ++ ys) ≤ length zs + 1
longer xs ys zs same h =
    let whole : length (xs ++ ys) ≡ length xs + length ys = length-append xs ys in
    let old : length xs ≡ length zs = ap length same in
    omega (arith, whole, old, h)

calls_grow : (ts : List Carried) (c : CoreState) (es : List Seen) → length (fold (with_seen ts) c es).calls ≤ length c.calls + length es
calls_grow ts c [] = omega arith
calls_grow ts c (e ∷ es) =
    let next : CoreState = with_seen ts c e in
    let one : length next.calls ≤ length c.calls + 1 =
    longer (settled_by c e).calls (calls_marked (core_facts (settled_by c e)) e.mark (asked_by c e)) c.calls (settled_calls (is_done e.verdict) (with_event c e) e.body.input)
    (one_call (core_facts (settled_by c e)) e.mark (asked_by c e))
    in
    let rest : length (fold (with_seen ts) next es).calls ≤ length next.calls + length es = calls_grow ts next es in
    omega (arith, one, rest)

-- transactions ----

one_txn : (ts : List Carried) (ask : Option Ask) → length (txns_begun ts ask) ≤ 1
one_txn ts None = omega arith
one_txn ts (Some ask) = by ask.is_first (carried_named ask.txn.token ts)
  where
    by : (b : Bool) (o : Option Carried) → length {A = TxnNow} (cond b (unwrap_or (option_map (λ (t : Carried). record { txn = ask.txn; live = t.sums.live } ∷ []) o) []) []) ≤ 1
    by true None = omega arith
    by true (Some t) = omega arith
    by false o = omega arith

txns_grow : (ts : List Carried) (c : CoreState) (es : List Seen) → length (fold (with_seen ts) c es).holdings.txns ≤ length c.holdings.txns + length es
txns_grow ts c [] = omega arith
txns_grow ts c (e ∷ es) =
    let next : CoreState = with_seen ts c e in
    let one : length next.holdings.txns ≤ length c.holdings.txns + 1 =
    longer (settled_by c e).holdings.txns (txns_begun ts (asked_by c e)) c.holdings.txns (settled_txns (is_done e.verdict) (with_event c e) e.body.input)
    (one_txn ts (asked_by c e))
    in
    let rest : length (fold (with_seen ts) next es).holdings.txns ≤ length next.holdings.txns + length es = txns_grow ts next es in
    omega (arith, one, rest)

-- events ----

below : (a b : ℕ) → nat_lt a b ≡ true → a < b
below a b h = grind (arith, nat_tests)

at_most : (a b : ℕ) → nat_le a b ≡ true → a ≤ b
at_most a b h = grind (arith, nat_tests)

events_few : (last records : ℕ) (es : List Seen) → last ≤ records → do_numbers_rise last records es ≡ true → last + length es ≤ records
events_few last records [] few h = omega (arith, few)
events_few last records (e ∷ es) few h =
    let parts = and_parts (nat_lt last e.number && nat_le e.number records) (do_numbers_rise e.number records es) h in
    let own = and_parts (nat_lt last e.number) (nat_le e.number records) parts.0 in
    let rest : e.number + length es ≤ records = events_few e.number records es (at_most e.number records own.1) parts.1 in
    let later : last < e.number = below last e.number own.0 in
    omega (arith, rest, later)

few_events : (s : State) → AreInOrder s → length s.events ≤ MOST_RECORDS
few_events s order =
    let records : s.records ≤ MOST_RECORDS = at_most s.records MOST_RECORDS order.few in
    let events : 0 + length s.events ≤ s.records = events_few 0 s.records s.events (omega arith) order.numbers in
    omega (arith, records, events)

-- a state ----

pub calls_fit : (s : State) → AreInOrder s → length (rebuilt s).calls < 4294967296
calls_fit s order =
    let calls : length (rebuilt s).calls ≤ 0 + length s.events = calls_grow s.txns no_core s.events in
    let events : length s.events ≤ 1073741823 = few_events s order in
    omega (arith, calls, events)

same_length : {A B C : Type 0} (f : A → C) (g : B → C) (xs : List A) (ys : List B) → map f xs ≡ map g ys → length xs ≡ length ys
same_length f g xs ys e = sym (length-map xs f) ∙ ap length e ∙ length-map ys g

pub listed_fit : (s : State) → AreInOrder s → IsReadAgain s → length s.txns < 4294967296
listed_fit s order again =
    let txns : length (rebuilt s).holdings.txns ≤ 0 + length s.events = txns_grow s.txns no_core s.events in
    let same : length (rebuilt s).holdings.txns ≡ length s.txns = same_length standing listed (rebuilt s).holdings.txns s.txns again.begun in
    let events : length s.events ≤ 1073741823 = few_events s order in
    omega (arith, txns, same, events)

-- how many of these are so
abbrev number_so : List (List ℕ × Bool) → ℕ
number_so [] = 0
number_so (p ∷ ps) = cond p.1 1 0 + number_so ps

live_standing : (txns : List TxnNow) → number_so (map standing txns) ≡ live_number txns
live_standing [] = refl
live_standing (t ∷ ts) = ap (λ (n : ℕ). cond t.live 1 0 + n) (live_standing ts)

live_listed : (ts : List Carried) → number_so (map listed ts) ≡ live_carried ts
live_listed [] = refl
live_listed (t ∷ ts) = ap (λ (n : ℕ). cond t.sums.live 1 0 + n) (live_listed ts)

pub live_again : (s : State) → IsReadAgain s → live_carried s.txns ≡ live_number (rebuilt s).holdings.txns
live_again s again = sym (live_listed s.txns) ∙ sym (ap number_so again.begun) ∙ live_standing (rebuilt s).holdings.txns
