-- What is shown by keys: balances, what stood in, and counters.
use Rattle.std.proofs.Common.{◌≡◌, ℕ, zero, suc, ℤ, pos, negsuc, Bool, true, List, [], ◌∷◌, ◌++◌, ◌&&◌, nat_lt, map, replicate, refl, sym, ap, ap₂, ◌∙◌, append_assoc, arith}
use Rattle.std.specs.Prelude.{Result, Ok, Err, IfOk}
use Rattle.std.specs.Cmp.Lexicographic.{slice_cmp}
use Rattle.std.specs.FinMap as finite
use Rattle.std.specs.List.{flat_map, list_all}
use Rattle.std.specs.Ordering.{nat_cmp}
use Rattle.std.proofs.lemmas.Bool.{and_parts}
use Rattle.std.proofs.lemmas.Bool.Decides.{nat_tests}
use Rattle.std.proofs.lemmas.List.{map-append}
use Rattle.std.proofs.lemmas.List.Sums.{fold-append}
use Rattle.iss_model.specs.declared.account.Account.{Account}
use Rattle.iss_model.specs.declared.account.Account.TheVariants as account
use Rattle.iss_model.specs.declared.counted.Counter.{Counter}
use Rattle.iss_model.specs.declared.counted.Stood.{Stood}
use Rattle.iss_model.specs.declared.counted.Span.TheVariants as span
use Rattle.iss_model.specs.declared.input.Record.{Record}
use Rattle.iss_model.specs.declared.setting.Window.TheVariants as window
use Rattle.iss_model.specs.declared.state.Saldo.{Saldo}
use Rattle.iss_model.specs.declared.state.State as model
use Rattle.iss_model.specs.Sums.{int_key}
use Rattle.iss_model.specs.rules.Activity.{TxnNow}
use Rattle.iss_model.specs.rules.Histories.{history_of}
use Rattle.iss_model.specs.state.Cores.{ControlKept, CoreState, core_of}
use Rattle.iss_model.proofs.Lists.{map-map}
use Rattle.iss_states.specs.Keys.{after_token, first_token, has_no_zero, int_of_key, is_above_zero, is_named_by_token}
use Rattle.iss_states.specs.OverBook.{state_of}
use Rattle.iss_states.specs.Showing.{counters_of, saldo_at, shown, span_at, stood_at}
use Rattle.iss_states.proofs.Keys.{account_again, number_again, user_again}
use Rattle.iss_states.proofs.AlikeShown.{shown_alike}
use Rattle.iss_states.proofs.StateOfBook.{state_shown}
use Rattle.iss_commando.specs.Sums as commando
use Rattle.iss_ledger.specs.Saldos as ledger
use Rattle.iss_ledger.specs.Keys.{user_of}
use Rattle.iss_velocity.specs.declared.counted.Counted.{Counted}
use Rattle.iss_velocity.specs.Keeping as velocity
use Rattle.iss_velocity.specs.Showing.{CounterEntry, counted_entry, entries_of_control, entry_of}
use Rattle.iss_core.specs.Showing.{counter_shown}
use Rattle.iss_core.specs.Values.{CoreNow, CoreStandsFor}

-- on the book ----

pub state_on_book : (c : CoreNow) (rs : List Record) → CoreStandsFor c rs → shown c.state ≡ state_of (history_of rs)
state_on_book c rs stands = shown_alike c.state (core_of rs) stands ∙ state_shown rs

pub state_told : {E : Type 0} (c : CoreNow) (s : CoreState) (rs : List Record) (result : Result model.State E) → s ≡ c.state → IfOk result (λ v. v ≡ shown s) → CoreStandsFor c rs
    → IfOk result (λ v. v ≡ state_of (history_of rs))
state_told c s rs (Ok v) is told stands = told ∙ ap shown is ∙ state_on_book c rs stands
state_told c s rs (Err e) is told stands = tt

-- keys ----

pub above : (b : ℕ) → nat_lt 0 b ≡ is_above_zero b
above zero = refl
above (suc n) = grind (arith, nat_tests)

pub plain : (text : List ℕ) → list_all (λ b. nat_lt 0 b) text ≡ has_no_zero text
plain [] = refl
plain (b ∷ bs) = ap₂ (λ (x y : Bool). x && y) (above b) (plain bs)

first_again : (text rest : List ℕ) → has_no_zero text ≡ true → first_token (text ++ 0 ∷ rest) ≡ text
first_again [] rest h = refl
first_again (zero ∷ text) rest h = cc
first_again (suc n ∷ text) rest h = ap (λ (t : List ℕ). suc n ∷ t) (first_again text rest h)

after_again : (text rest : List ℕ) → has_no_zero text ≡ true → after_token (text ++ 0 ∷ rest) ≡ rest
after_again [] rest h = refl
after_again (zero ∷ text) rest h = cc
after_again (suc n ∷ text) rest h = after_again text rest h

int_again : (z : ℤ) → int_of_key (int_key z) ≡ z
int_again (pos n) = refl
int_again (negsuc m) = ap negsuc (fold-append (λ last n. n) 0 (replicate m 0) (1 ∷ 0 ∷ m ∷ []))

-- lists of things that are read from their keys again
read_again : {A E : Type 0} (entry : A → E) (read : E → A) (fit : A → Bool) → ((x : A) → fit x ≡ true → read (entry x) ≡ x) → (xs : List A) → list_all fit xs ≡ true → xs ≡ map read (map entry xs)
read_again entry read fit back [] h = refl
read_again entry read fit back (x ∷ xs) h =
    let parts = and_parts (fit x) (list_all fit xs) h in
    ap₂ (λ y ys. y ∷ ys) (sym (back x parts.0)) (read_again entry read fit back xs parts.1)

-- balances ----

named_so : (a : Account) → has_no_zero (user_of a) ≡ true → is_named_by_token a ≡ true
named_so (account.Gateway c) h = refl
named_so (account.Network c) h = refl
named_so (account.Programme c) h = refl
named_so (account.User user c) h = h

saldo_again : (s : Saldo) → ledger.is_named s ≡ true → saldo_at (ledger.saldo_entry s) ≡ s
saldo_again s h =
    λ i. record s { account = account_again s.account (named_so s.account (sym (plain (user_of s.account)) ∙ h)) i }

balances_are : {A : Type 0} (items : A → List Saldo) (sums : finite.FinMap (slice_cmp nat_cmp) ℤ) (v : A) → map ledger.saldo_entry (items v) ≡ finite.entries sums → list_all ledger.is_named (items v) ≡ true
    → items v ≡ map saldo_at (finite.entries sums)
balances_are items sums v is named = read_again ledger.saldo_entry saldo_at ledger.is_named saldo_again (items v) named ∙ ap (map saldo_at) is

pub balances_told : {A E : Type 0} (items : A → List Saldo) (sums : finite.FinMap (slice_cmp nat_cmp) ℤ) (result : Result A E) → IfOk result (λ v. map ledger.saldo_entry (items v) ≡ finite.entries sums)
    → IfOk result (λ v. list_all ledger.is_named (items v) ≡ true) → IfOk result (λ v. items v ≡ map saldo_at (finite.entries sums))
balances_told items sums (Ok v) is named = balances_are items sums v is named
balances_told items sums (Err e) is named = tt

-- what stood in ----

stood_again : (s : Stood) → commando.is_plain s ≡ true → stood_at (commando.stood_entry s) ≡ s
stood_again s h =
    let parts = and_parts (commando.has_no_zero s.product) (commando.has_no_zero s.user) h in
    let product : has_no_zero s.product ≡ true = sym (plain s.product) ∙ parts.0 in
    let user : has_no_zero s.user ≡ true = sym (plain s.user) ∙ parts.1 in
    let rest : List ℕ = s.user ++ 0 ∷ int_key s.day in
    let apart : (commando.stood_entry s).0 ≡ s.product ++ 0 ∷ rest = append_assoc s.product (0 ∷ s.user) (0 ∷ int_key s.day) in
    let day : after_token (commando.stood_entry s).0 ≡ rest = ap after_token apart ∙ after_again s.product rest product in
    λ i. record {
      product = (ap first_token apart ∙ first_again s.product rest product) i;
      user = (ap first_token day ∙ first_again s.user (int_key s.day) user) i;
      day = (ap (λ (key : List ℕ). int_of_key (after_token key)) day ∙ ap int_of_key (after_again s.user (int_key s.day) user) ∙ int_again s.day) i;
      amount = s.amount;
    }

sums_are : {A : Type 0} (items : A → List Stood) (sums : finite.FinMap (slice_cmp nat_cmp) ℤ) (v : A) → map commando.stood_entry (items v) ≡ finite.entries sums → list_all commando.is_plain (items v) ≡ true
    → items v ≡ map stood_at (finite.entries sums)
sums_are items sums v is named = read_again commando.stood_entry stood_at commando.is_plain stood_again (items v) named ∙ ap (map stood_at) is

pub sums_told : {A E : Type 0} (items : A → List Stood) (sums : finite.FinMap (slice_cmp nat_cmp) ℤ) (result : Result A E) → IfOk result (λ v. map commando.stood_entry (items v) ≡ finite.entries sums)
    → IfOk result (λ v. list_all commando.is_plain (items v) ≡ true) → IfOk result (λ v. items v ≡ map stood_at (finite.entries sums))
sums_told items sums (Ok v) is named = sums_are items sums v is named
sums_told items sums (Err e) is named = tt

-- counters ----

-- a counter by its entry
abbrev counter_from : List TxnNow → CounterEntry → Counter
counter_from txns e =
    record {
      control = e.0;
      user = first_token e.1.1.0;
      span = span_at txns e.1.0 (int_of_key (after_token e.1.1.0));
      used = record { amount = e.1.1.1.0; count = e.1.1.1.1 };
    }

counter_again : (txns : List TxnNow) (c : Counted) → has_no_zero c.user ≡ true → counter_shown txns c ≡ counter_from txns (counted_entry c)
counter_again txns c h =
    λ i. record {
      control = c.control;
      user = sym (user_again c.user c.number h) i;
      span = span_at txns c.window (sym (number_again c.user c.number h) i);
      used = c.used;
    }

all_again : (txns : List TxnNow) (cs : List Counted) → list_all (λ (c : Counted). velocity.has_no_zero c.user) cs ≡ true → map (counter_shown txns) cs ≡ map (counter_from txns) (map counted_entry cs)
all_again txns [] h = refl
all_again txns (c ∷ cs) h =
    let parts = and_parts (velocity.has_no_zero c.user) (list_all (λ (x : Counted). velocity.has_no_zero x.user) cs) h in
    ap₂ (λ (x : Counter) (xs : List Counter). x ∷ xs) (counter_again txns c (sym (plain c.user) ∙ parts.0)) (all_again txns cs parts.1)

each_control : (txns : List TxnNow) (ks : List ControlKept) → map (counter_from txns) (flat_map entries_of_control ks) ≡ flat_map (counters_of txns) ks
each_control txns [] = refl
each_control txns (k ∷ ks) =
    map-append (counter_from txns) (entries_of_control k) (flat_map entries_of_control ks)
    ∙ ap₂ (λ (xs ys : List Counter). xs ++ ys) (map-map (entry_of k) (counter_from txns) (finite.entries k.amounts)) (each_control txns ks)

pub counters_are : (txns : List TxnNow) (ks : List ControlKept) (cs : List Counted) → map counted_entry cs ≡ flat_map entries_of_control ks → list_all (λ (c : Counted). velocity.has_no_zero c.user) cs ≡ true
    → map (counter_shown txns) cs ≡ flat_map (counters_of txns) ks
counters_are txns ks cs is named = all_again txns cs named ∙ ap (map (counter_from txns)) is ∙ each_control txns ks
