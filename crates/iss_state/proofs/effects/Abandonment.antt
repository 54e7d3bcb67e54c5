-- What abandoning the asked calls of a transaction does.
use Rattle.std.proofs.Common.{Bool, List, [], ap, ap₂, arith, cond, false, filter, fold, map, nat_abs, neg_ℤ, pos, refl, subst, suc, sym, true, zero, ℕ, ◌&&◌, ◌*◌, ◌+◌, ◌∷◌, ◌≡◌, ◌≤◌}
use Rattle.std.specs.List.{list_all}
use Rattle.std.specs.Str.{bytes_eq}
use Rattle.std.proofs.lemmas.Bool.{and_parts}
use Rattle.iss_model.specs.declared.call.How.TheVariants as how
use Rattle.iss_model.specs.declared.decision.Reason.{Reason}
use Rattle.iss_model.specs.declared.entry.Entry.TheVariants as entry
use Rattle.iss_model.specs.declared.txn.Txn.{Txn}
use Rattle.iss_model.specs.rules.Activity.{CallNow, TxnNow, is_asked}
use Rattle.iss_model.specs.rules.Asks.{Ask, ask_given_back, call_ask}
use Rattle.iss_model.specs.rules.Facts.{Facts, asked_calls_of}
use Rattle.iss_model.specs.rules.Pieces.{abandoned_call_entries, abandoned_calls_entries}
use Rattle.iss_model.specs.state.Cores.{CoreState, Holdings, after_entry}
use Rattle.iss_state.specs.Bounds.{moved_money, moved_use, total_of}
use Rattle.iss_state.specs.Effects.{Effect}
use Rattle.iss_state.specs.Needs.{AllFit, Stands}
use Rattle.iss_state.specs.Stakes.{IsOrderly, IsOrderlyState, asked_amount, at_least_one, total_asked, total_held, txn_tokens}
use Rattle.iss_state.proofs.effects.AskedCalls.{asked_after_closing_all, with_all_closed}
use Rattle.iss_state.proofs.effects.Effects.{down_size}

returned_count : (b : Bool) → nat_abs (neg_ℤ (cond b (pos 1) (pos 0))) ≤ 1
returned_count true = omega arith
returned_count false = omega arith

-- an amount and a count of one are at most twice that amount
pub one_more : (n : ℕ) → n + 1 ≤ 2 * at_least_one n
one_more zero = omega arith
one_more (suc n) = omega arith

pub least_one : (n : ℕ) → n ≤ at_least_one n
least_one zero = omega arith
least_one (suc n) = omega arith

-- what an ask gives back is at most twice what its call asked
pub given_back_size : (ask : Ask) → moved_use (entry.Usage (ask_given_back ask)) ≤ 2 * at_least_one ask.amount
given_back_size ask = omega (arith, down_size ask.amount, returned_count ask.is_first, one_more ask.amount)

abandonment_money : (number : ℕ) (t : Txn) (why : Reason) (cs : List CallNow) → total_of moved_money (abandoned_calls_entries number t why cs) ≡ 0
abandonment_money number t why [] = refl
abandonment_money number t why (c ∷ cs) = omega (arith, abandonment_money (number + 1) t why cs)

asked_at_least : (c : CallNow) → is_asked c ≡ true → asked_amount c ≡ at_least_one c.opened.amount
asked_at_least c h = ap (λ (b : Bool). cond b (at_least_one c.opened.amount) 0) h

abandonment_use : (number : ℕ) (t : Txn) (why : Reason) (cs : List CallNow) → list_all is_asked cs ≡ true → total_of moved_use (abandoned_calls_entries number t why cs) ≤ 2 * total_asked cs
abandonment_use number t why [] h = omega arith
abandonment_use number t why (c ∷ cs) h =
    let both = and_parts (is_asked c) (list_all is_asked cs) h in
    let first : moved_use (entry.Usage (ask_given_back (call_ask c.opened t))) ≤ 2 * at_least_one c.opened.amount = given_back_size (call_ask c.opened t) in
    omega (arith, first, asked_at_least c both.0, abandonment_use (number + 1) t why cs both.1)

abandonment_calls : (s : CoreState) (number : ℕ) (t : Txn) (why : Reason) (cs : List CallNow) → (fold after_entry s (abandoned_calls_entries number t why cs)).calls ≡ with_all_closed how.Abandoned cs s.calls
abandonment_calls s number t why [] = refl
abandonment_calls s number t why (c ∷ cs) = abandonment_calls (fold after_entry s (abandoned_call_entries number t why c.opened)) (number + 1) t why cs

pub abandonment_holdings : (s : CoreState) (number : ℕ) (t : Txn) (why : Reason) (cs : List CallNow) → (fold after_entry s (abandoned_calls_entries number t why cs)).holdings ≡ s.holdings
abandonment_holdings s number t why [] = refl
abandonment_holdings s number t why (c ∷ cs) = abandonment_holdings (fold after_entry s (abandoned_call_entries number t why c.opened)) (number + 1) t why cs

all_asked : (q : CallNow → Bool) (cs : List CallNow) → list_all is_asked (filter (λ c. is_asked c && q c) cs) ≡ true
all_asked q [] = refl
all_asked q (c ∷ cs) = by (is_asked c) (q c) refl (all_asked q cs)
  where
    by : (a b : Bool) → is_asked c ≡ a → list_all is_asked (filter (λ c. is_asked c && q c) cs) ≡ true
        → list_all is_asked (cond (a && b) (c ∷ filter (λ c. is_asked c && q c) cs) (filter (λ c. is_asked c && q c) cs)) ≡ true
    by true true e later = ap₂ (λ (a b : Bool). a && b) e later
    by true false e later = later
    by false b e later = later

abandonment_fit : (s : CoreState) (number : ℕ) (t : Txn) (why : Reason) (cs : List CallNow) → Stands s t → AllFit s (abandoned_calls_entries number t why cs)
abandonment_fit s number t why [] stands = tt
abandonment_fit s number t why (c ∷ cs) stands =
    let later = abandonment_fit (fold after_entry s (abandoned_call_entries number t why c.opened)) (number + 1) t why cs stands in
    (tt, (tt, (record { its = t; stands = stands; of_txn = refl; of_origin = refl; of_user = refl; of_product = refl; of_currency = refl }, (tt, later))))

-- calls that are abandoned use what they asked at most twice, and take that from what is at stake
abbrev Abandons : CoreState → ℕ → Txn → Reason → List CallNow → Type 0
Abandons s number t why cs = Effect s (abandoned_calls_entries number t why cs) 0 (2 * total_asked cs) 0 (2 * total_asked cs)

abandonment_of : (s : CoreState) (number : ℕ) (t : Txn) (why : Reason) (q : CallNow → Bool) → IsOrderlyState s → Stands s t
    → Abandons s number t why (filter (λ c. is_asked c && q c) s.calls)
abandonment_of s number t why q h stands =
    let cs = filter (λ (c : CallNow). is_asked c && q c) s.calls in
    let holdings = abandonment_holdings s number t why cs in
    record {
      money = omega (arith, abandonment_money number t why cs);
      usage = abandonment_use number t why cs (all_asked q s.calls);
      stake = omega (arith, ap total_asked (abandonment_calls s number t why cs), ap (λ (k : Holdings). total_held (txn_tokens k.txns) k.parts) holdings, asked_after_closing_all how.Abandoned (λ (c : CallNow). is_asked c && q c) s.calls);
      fit = abandonment_fit s number t why cs stands;
      txns = ap (λ (k : Holdings). map (λ (n : TxnNow). n.txn) k.txns) holdings;
      orderly = subst (λ (k : Holdings). IsOrderly (txn_tokens k.txns) k.parts) (sym holdings) h;
    }

-- the asked calls of a transaction are abandoned, by facts that know the calls as they stand
pub abandonment_effect : (s : CoreState) (number : ℕ) (f : Facts) (t : Txn) (why : Reason) → IsOrderlyState s → Stands s t → s.calls ≡ f.calls
    → Abandons s number t why (asked_calls_of f t.token)
abandonment_effect s number f t why h stands same =
    subst (λ (calls : List CallNow). Abandons s number t why (filter (λ c. is_asked c && bytes_eq c.opened.txn t.token) calls)) same
    (abandonment_of s number t why (λ (c : CallNow). bytes_eq c.opened.txn t.token) h stands)
