-- How many asked calls and live transactions a core has together, and what entries bring of them.
use Rattle.std.proofs.Common.{◌≡◌, ◌∙◌, ◌++◌, ◌+◌, ◌+ℤ◌, ◌∷◌, ◌≤◌, ℕ, ℤ, pos, neg_ℤ, ap, arith, Bool, cond, false, List, [], map, refl, true}
use Rattle.std.specs.Prelude.{Some, ◌≤ℤ◌}
use Rattle.std.specs.Str.{bytes_eq}
use Rattle.std.proofs.lemmas.Int.{ints}
use Rattle.iss_model.specs.declared.entry.Entry.{Entry}
use Rattle.iss_model.specs.declared.entry.Entry.TheVariants as entry
use Rattle.iss_model.specs.rules.Activity.{TxnNow, txn_named}
use Rattle.iss_model.specs.rules.Reasons.{is_some_with}
use Rattle.iss_model.specs.state.Cores.{CoreState, Holdings, after_entry, after_setting, is_live, txn_after_end}
use Rattle.iss_model.proofs.Names.{name-sym}
use Rattle.iss_state.specs.Well.{has_live}
use Rattle.iss_state.proofs.effects.Effects.{all_calm_holdings, setting_calls}
use Rattle.iss_bounded.specs.Bounds.{asked_number}
use Rattle.iss_bounded.specs.Many.{live_number}
use Rattle.iss_bounded.proofs.AskedWorth.{worth_after_close, worth_with_opened}
use Rattle.iss_bounded.proofs.Prices.{MayCome}

-- live transactions ----

live_more : (ts : List TxnNow) (x : TxnNow) → live_number (ts ++ x ∷ []) ≤ live_number ts + 1
live_more [] x = by x.live
  where
    by : (b : Bool) → cond b 1 0 + 0 ≤ 0 + 1
    by true = omega arith
    by false = omega arith
live_more (t ∷ ts) x = omega (arith, live_more ts x)

ended_lower : (token : List ℕ) (t : TxnNow) → cond (txn_after_end token t).live 1 0 ≤ cond t.live 1 0
ended_lower token t = by (bytes_eq token t.txn.token)
  where
    by : (b : Bool) → cond (cond b (record t { live = false }) t).live 1 0 ≤ cond t.live 1 0
    by true = omega arith
    by false = omega arith

live_lower : (token : List ℕ) (ts : List TxnNow) → live_number (map (txn_after_end token) ts) ≤ live_number ts
live_lower token [] = omega arith
live_lower token (t ∷ ts) = omega (arith, ended_lower token t, live_lower token ts)

live_less : (token : List ℕ) (ts : List TxnNow) → has_live ts token ≡ true → live_number (map (txn_after_end token) ts) + 1 ≤ live_number ts
live_less token [] h = cc
live_less token (t ∷ ts) h = by (bytes_eq t.txn.token token) refl h (live_less token ts)
  where
    by : (b : Bool) → bytes_eq t.txn.token token ≡ b → is_some_with (λ (t : TxnNow). t.live) (cond b (Some t) (txn_named token ts)) ≡ true
        → (has_live ts token ≡ true → live_number (map (txn_after_end token) ts) + 1 ≤ live_number ts) → live_number (map (txn_after_end token) (t ∷ ts)) + 1 ≤ live_number (t ∷ ts)
    by true e live rest =
        let gone : ◌≡◌ {A = ℕ} (cond (txn_after_end token t).live 1 0) 0 = ap (λ (b : Bool). cond {A = ℕ} (cond b (record t { live = false }) t).live 1 0) (name-sym token t.txn.token ∙ e) in
        let there : ◌≡◌ {A = ℕ} (cond t.live 1 0) 1 = ap (λ (b : Bool). cond {A = ℕ} b 1 0) live in
        omega (arith, gone, there, live_lower token ts)
    by false e live rest = omega (arith, rest live, ended_lower token t)

-- both together ----

abbrev pub number_load : CoreState → ℕ
number_load s = asked_number s.calls + live_number s.holdings.txns

-- what an entry brings of both at most
abbrev pub load_brought : Entry → ℤ
load_brought (entry.Began t) = pos 1
load_brought (entry.Opened o) = pos 1
load_brought (entry.Closed call how) = neg_ℤ (pos 1)
load_brought (entry.Ended txn) = neg_ℤ (pos 1)
load_brought _ = pos 0

as_before : (a b c d : ℕ) → c ≡ a → d ≡ b → pos (c + d) ≤ℤ (pos (a + b) +ℤ pos 0)
as_before a b c d e f = omega (arith, ints, e, f)

pub load_moves : (s : CoreState) (e : Entry) → MayCome s e → pos (number_load (after_entry s e)) ≤ℤ (pos (number_load s) +ℤ load_brought e)
load_moves s (entry.Conf i) may =
    as_before (asked_number s.calls) (live_number s.holdings.txns) (asked_number (after_setting s i).calls) (live_number (after_setting s i).holdings.txns)
    (ap asked_number (setting_calls s i)) (ap (λ (k : Holdings). live_number k.txns) (all_calm_holdings s (entry.Conf i ∷ []) refl))
load_moves s (entry.Began t) may =
    begun (asked_number s.calls) (live_number s.holdings.txns) (live_number (after_entry s (entry.Began t)).holdings.txns) (live_more s.holdings.txns (record { txn = t; live = is_live s.holdings.txns t.token }))
  where
    begun : (a b c : ℕ) → c ≤ b + 1 → pos (a + c) ≤ℤ (pos (a + b) +ℤ pos 1)
    begun a b c h = omega (arith, ints, h)
load_moves s (entry.Opened o) may =
    opens (asked_number s.calls) (live_number s.holdings.txns) (asked_number (after_entry s (entry.Opened o)).calls) (worth_with_opened (λ o. 1) s.calls o)
  where
    opens : (a b c : ℕ) → c ≡ a + 1 → pos (c + b) ≤ℤ (pos (a + b) +ℤ pos 1)
    opens a b c h = omega (arith, ints, h)
load_moves s (entry.Closed call how) may =
    closes (asked_number s.calls) (live_number s.holdings.txns) (asked_number (after_entry s (entry.Closed call how)).calls) (worth_after_close (λ o. 1) call.0 how s.calls may.its may.asked.stands may.asked.asked)
  where
    closes : (a b c : ℕ) → c + 1 ≤ a → pos (c + b) ≤ℤ (pos (a + b) +ℤ neg_ℤ (pos 1))
    closes a b c h = omega (arith, ints, h)
load_moves s (entry.Ended txn) may =
    ends (asked_number s.calls) (live_number s.holdings.txns) (live_number (after_entry s (entry.Ended txn)).holdings.txns) (live_less txn s.holdings.txns may.its_live)
  where
    ends : (a b c : ℕ) → c + 1 ≤ b → pos (a + c) ≤ℤ (pos (a + b) +ℤ neg_ℤ (pos 1))
    ends a b c h = omega (arith, ints, h)
load_moves s e may = as_before (asked_number s.calls) (live_number s.holdings.txns) (asked_number s.calls) (live_number s.holdings.txns) refl refl

-- what is left of a bound beside a load that an entry has moved
pub lower : (n : ℤ) (a b : ℕ) (p : ℤ) → pos b ≤ℤ (pos a +ℤ p) → (n +ℤ neg_ℤ (pos a)) ≤ℤ ((n +ℤ p) +ℤ neg_ℤ (pos b))
lower n a b p h = omega (arith, ints, h)

-- a row that costs this much moves a bound by no more
pub less_within : (n z : ℤ) (up : ℕ) → (z +ℤ pos 0) ≤ℤ pos up → (n +ℤ z) ≤ℤ (n +ℤ pos up)
less_within n z up h = omega (arith, ints, h)
