-- Effects of lists that follow each other, of lists that leave holdings and calls alone, and of single entries.
use Rattle.std.specs.Prelude.{None, Some}
use Rattle.std.proofs.Common.{Bool, List, [], ap, ap₂, arith, cond, false, find, fold, length, map, nat_abs, neg_ℤ, pos, refl, subst, suc, sym, true, zero, ℕ, ◌*◌, ◌++◌, ◌+◌, ◌||◌, ◌∙◌, ◌∷◌, ◌≡◌, ◌≤◌}
use Rattle.std.specs.List.{list_all}
use Rattle.std.specs.Str.{bytes_eq}
use Rattle.std.proofs.lemmas.Bool.{and_parts}
use Rattle.std.proofs.lemmas.List.Sums.{fold-append}
use Rattle.iss_model.specs.declared.account.Part.{Part}
use Rattle.iss_model.specs.declared.call.CallId.{CallId}
use Rattle.iss_model.specs.declared.call.How.{How}
use Rattle.iss_model.specs.declared.call.Opened.{Opened}
use Rattle.iss_model.specs.declared.entry.Entry.{Entry}
use Rattle.iss_model.specs.declared.entry.Entry.TheVariants as entry
use Rattle.iss_model.specs.declared.input.Input.{Input}
use Rattle.iss_model.specs.declared.input.Input.TheVariants as input
use Rattle.iss_model.specs.declared.setting.Moved.TheVariants as moved
use Rattle.iss_model.specs.declared.txn.Txn.{Txn}
use Rattle.iss_model.specs.rules.Activity.{CallNow, TxnNow, call_numbered, is_asked}
use Rattle.iss_model.specs.rules.Settings.{is_named_in}
use Rattle.iss_model.specs.state.Cores.{CoreState, Holdings, after_entry, after_setting}
use Rattle.iss_model.proofs.Lists.{map-map}
use Rattle.iss_state.specs.Bounds.{moved_money, moved_use, total_of}
use Rattle.iss_state.specs.Effects.{Effect}
use Rattle.iss_state.specs.Needs.{AllFit, IsCovered, Stands, begun_txns}
use Rattle.iss_state.specs.Stakes.{IsOrderly, IsOrderlyState, at_least_one, at_stake, part_held, total_asked, total_held, txn_tokens}
use Rattle.iss_state.proofs.effects.AskedCalls.{asked_after_close}
use Rattle.iss_state.proofs.effects.TransactionsHeld.{held_less, held_more, orderly_after_hold, tokens_after_end, txns_after_end}

total-append : (f : Entry → ℕ) (xs ys : List Entry) → total_of f (xs ++ ys) ≡ total_of f xs + total_of f ys
total-append f [] ys = omega arith
total-append f (x ∷ xs) ys = omega (arith, total-append f xs ys)

found_is_named : (txns : List TxnNow) (t : Txn) → find (λ x. bytes_eq x.token t.token) (map (λ (n : TxnNow). n.txn) txns) ≡ Some t → is_named_in (txn_tokens txns) t.token ≡ true
found_is_named [] t e = cc
found_is_named (n ∷ ns) t e = by (bytes_eq n.txn.token t.token) e (λ later. found_is_named ns t later)
  where
    by : (b : Bool) → cond b (Some n.txn) (find (λ x. bytes_eq x.token t.token) (map (λ (n : TxnNow). n.txn) ns)) ≡ Some t
        → (find (λ x. bytes_eq x.token t.token) (map (λ (n : TxnNow). n.txn) ns) ≡ Some t → is_named_in (txn_tokens ns) t.token ≡ true) → (b || is_named_in (txn_tokens ns) t.token) ≡ true
    by true e later = refl
    by false e later = later e

pub stands_is_named : (s : CoreState) (t : Txn) → Stands s t → is_named_in (txn_tokens s.holdings.txns) t.token ≡ true
stands_is_named s t h = found_is_named s.holdings.txns t h

pub fit_append : (s : CoreState) (xs ys : List Entry) → AllFit s xs → AllFit (fold after_entry s xs) ys → AllFit s (xs ++ ys)
fit_append s [] ys h k = k
fit_append s (x ∷ xs) ys h k = (h.0, fit_append (after_entry s x) xs ys h.1 k)

-- the tokens are those of the transactions as they began
pub same_names : (s t : CoreState) → begun_txns t ≡ begun_txns s → txn_tokens t.holdings.txns ≡ txn_tokens s.holdings.txns
same_names s t same =
    sym (map-map (λ (n : TxnNow). n.txn) (λ (x : Txn). x.token) t.holdings.txns)
    ∙ ap (map (λ (x : Txn). x.token)) same
    ∙ map-map (λ (n : TxnNow). n.txn) (λ (x : Txn). x.token) s.holdings.txns

-- ---- lists

-- no entries have no effect
pub no_effect : (s : CoreState) → IsOrderlyState s → Effect s [] 0 0 0 0
no_effect s h = record { money = omega arith; usage = omega arith; stake = omega arith; fit = tt; txns = refl; orderly = h }

-- one list and then another have both effects
pub and_then : {s : CoreState} {xs ys : List Entry} {m u a b n v c d : ℕ} → Effect s xs m u a b → Effect (fold after_entry s xs) ys n v c d → Effect s (xs ++ ys) (m + n) (u + v) (a + c) (b + d)
and_then {s} {xs} {ys} h k =
    let same : fold after_entry s (xs ++ ys) ≡ fold after_entry (fold after_entry s xs) ys = fold-append after_entry s xs ys in
    record {
      money = omega (arith, total-append moved_money xs ys, h.money, k.money);
      usage = omega (arith, total-append moved_use xs ys, h.usage, k.usage);
      stake = omega (arith, h.stake, k.stake, ap at_stake same);
      fit = fit_append s xs ys h.fit k.fit;
      txns = ap begun_txns same ∙ k.txns ∙ h.txns;
      orderly = subst IsOrderlyState (sym same) k.orderly;
    }

-- an effect within these numbers is within wider ones
pub comes_to : {s : CoreState} {es : List Entry} {m u a b : ℕ} (n v c d : ℕ) → Effect s es m u a b → m ≤ n → u ≤ v → a + d ≤ b + c → Effect s es n v c d
comes_to n v c d h le also stake =
    record {
      money = omega (arith, h.money, le);
      usage = omega (arith, h.usage, also);
      stake = omega (arith, h.stake, stake);
      fit = h.fit;
      txns = h.txns;
      orderly = h.orderly;
    }

-- a transaction that stood stands after an effect
pub stands_then : {s : CoreState} {es : List Entry} {m u a b : ℕ} (t : Txn) → Effect s es m u a b → Stands s t → Stands (fold after_entry s es) t
stands_then t h stands = ap (λ (ts : List Txn). find (λ (x : Txn). bytes_eq x.token t.token) ts) h.txns ∙ stands

-- ---- what leaves holdings and calls alone

-- an entry leaves holdings and calls alone
abbrev pub is_calm : Entry → Bool
is_calm (entry.Began t) = false
is_calm (entry.Opened o) = false
is_calm (entry.Closed call how) = false
is_calm (entry.Hold txn user currency p amount) = false
is_calm (entry.Ended txn) = false
is_calm _ = true

setting_holdings : (s : CoreState) (i : Input) → (after_setting s i).holdings ≡ s.holdings
setting_holdings s (input.Move token (moved.Card card to)) = refl
setting_holdings s (input.Move token (moved.User user to)) = refl
setting_holdings s _ = refl

pub setting_calls : (s : CoreState) (i : Input) → (after_setting s i).calls ≡ s.calls
setting_calls s (input.Move token (moved.Card card to)) = refl
setting_calls s (input.Move token (moved.User user to)) = refl
setting_calls s _ = refl

calm_holdings : (s : CoreState) (e : Entry) → is_calm e ≡ true → (after_entry s e).holdings ≡ s.holdings
calm_holdings s (entry.Conf i) h = setting_holdings s i
calm_holdings s (entry.Began t) h = cc
calm_holdings s (entry.Opened o) h = cc
calm_holdings s (entry.Closed call how) h = cc
calm_holdings s (entry.Hold txn user currency p amount) h = cc
calm_holdings s (entry.Ended txn) h = cc
calm_holdings s _ h = refl

calm_calls : (s : CoreState) (e : Entry) → is_calm e ≡ true → (after_entry s e).calls ≡ s.calls
calm_calls s (entry.Conf i) h = setting_calls s i
calm_calls s (entry.Began t) h = cc
calm_calls s (entry.Opened o) h = cc
calm_calls s (entry.Closed call how) h = cc
calm_calls s (entry.Hold txn user currency p amount) h = cc
calm_calls s (entry.Ended txn) h = cc
calm_calls s _ h = refl

pub all_calm_holdings : (s : CoreState) (es : List Entry) → list_all is_calm es ≡ true → (fold after_entry s es).holdings ≡ s.holdings
all_calm_holdings s [] h = refl
all_calm_holdings s (e ∷ es) h =
    let both = and_parts (is_calm e) (list_all is_calm es) h in
    all_calm_holdings (after_entry s e) es both.1 ∙ calm_holdings s e both.0

pub all_calm_calls : (s : CoreState) (es : List Entry) → list_all is_calm es ≡ true → (fold after_entry s es).calls ≡ s.calls
all_calm_calls s [] h = refl
all_calm_calls s (e ∷ es) h =
    let both = and_parts (is_calm e) (list_all is_calm es) h in
    all_calm_calls (after_entry s e) es both.1 ∙ calm_calls s e both.0

-- what is at stake, from holdings and calls
abbrev stake_of : Holdings → List CallNow → ℕ
stake_of h calls = total_held (txn_tokens h.txns) h.parts + 2 * total_asked calls

-- calm entries leave what is at stake as it is
pub calm_effect : (s : CoreState) (es : List Entry) → IsOrderlyState s → AllFit s es → list_all is_calm es ≡ true → Effect s es (total_of moved_money es) (total_of moved_use es) 0 0
calm_effect s es h fit all =
    let holdings = all_calm_holdings s es all in
    let same : at_stake (fold after_entry s es) ≡ at_stake s = ap₂ stake_of holdings (all_calm_calls s es all) in
    record {
      money = omega arith;
      usage = omega arith;
      stake = omega (arith, same);
      fit = fit;
      txns = ap (λ (k : Holdings). map (λ (t : TxnNow). t.txn) k.txns) holdings;
      orderly = subst (λ (k : Holdings). IsOrderly (txn_tokens k.txns) k.parts) (sym holdings) h;
    }

-- ---- single entries

-- a hold of more puts its amount at stake
pub more_held_effect : (s : CoreState) (t : Txn) (p : Part) (m : ℕ) → IsOrderlyState s → Stands s t → Effect s (entry.Hold t.token t.user t.currency p (pos m) ∷ []) m 0 m 0
more_held_effect s t p m h stands =
    record {
      money = omega arith;
      usage = omega arith;
      stake = omega (arith, held_more (txn_tokens s.holdings.txns) s.holdings.parts t.token p m h.distinct (stands_is_named s t stands));
      fit = (record { its = t; stands = stands; of_txn = refl; of_user = refl; of_currency = refl; covered = tt }, tt);
      txns = refl;
      orderly = orderly_after_hold (txn_tokens s.holdings.txns) s.holdings.parts t.token p (pos m) (stands_is_named s t stands) h;
    }

pub down_size : (m : ℕ) → nat_abs (neg_ℤ (pos m)) ≡ m
down_size zero = refl
down_size (suc m) = refl

is_covered : (m there : ℕ) → m ≤ there → IsCovered (neg_ℤ (pos m)) there
is_covered zero there le = tt
is_covered (suc m) there le = le

-- a hold of less takes its amount from what is at stake
pub less_held_effect : (s : CoreState) (t : Txn) (p : Part) (m : ℕ) → IsOrderlyState s → Stands s t → m ≤ part_held s.holdings.parts t.token p → Effect s (entry.Hold t.token t.user t.currency p (neg_ℤ (pos m)) ∷ []) m 0 0 m
less_held_effect s t p m h stands le =
    record {
      money = omega (arith, down_size m);
      usage = omega arith;
      stake = omega (arith, held_less (txn_tokens s.holdings.txns) s.holdings.parts t.token p m h.distinct (stands_is_named s t stands) le);
      fit = (record { its = t; stands = stands; of_txn = refl; of_user = refl; of_currency = refl; covered = is_covered m (part_held s.holdings.parts t.token p) le }, tt);
      txns = refl;
      orderly = orderly_after_hold (txn_tokens s.holdings.txns) s.holdings.parts t.token p (neg_ℤ (pos m)) (stands_is_named s t stands) h;
    }

-- an end changes nothing that is at stake
pub end_effect : (s : CoreState) (t : Txn) → IsOrderlyState s → Stands s t → Effect s (entry.Ended t.token ∷ []) 0 0 0 0
end_effect s t h stands =
    let same = tokens_after_end t.token s.holdings.txns in
    record {
      money = omega arith;
      usage = omega arith;
      stake = omega (arith, ap (λ (ts : List (List ℕ)). total_held ts s.holdings.parts) same);
      fit = (stands_is_named s t stands, tt);
      txns = txns_after_end t.token s.holdings.txns;
      orderly = subst (λ (ts : List (List ℕ)). IsOrderly ts s.holdings.parts) (sym same) h;
    }

-- a closing takes what its call asked from what is at stake
pub close_effect : (s : CoreState) (call : CallId) (how : How) (c : CallNow) → IsOrderlyState s → call_numbered call.0 s.calls ≡ Some c → is_asked c ≡ true
    → Effect s (entry.Closed call how ∷ []) 0 0 0 (2 * at_least_one c.opened.amount)
close_effect s call how c h found asked =
    record {
      money = omega arith;
      usage = omega arith;
      stake = omega (arith, asked_after_close call.0 how s.calls c found asked);
      fit = (tt, tt);
      txns = refl;
      orderly = h;
    }

asked_with_opened : (calls : List CallNow) (o : Opened) → total_asked (calls ++ record { opened = o; how = None } ∷ []) ≡ total_asked calls + at_least_one o.amount
asked_with_opened [] o = omega arith
asked_with_opened (c ∷ cs) o = omega (arith, asked_with_opened cs o)

-- an opening puts what its call asks at stake
pub open_effect : (s : CoreState) (o : Opened) → IsOrderlyState s → o.call.0 ≡ length s.calls + 1 → Effect s (entry.Opened o ∷ []) 0 0 (2 * at_least_one o.amount) 0
open_effect s o h number =
    record {
      money = omega arith;
      usage = omega arith;
      stake = omega (arith, asked_with_opened s.calls o);
      fit = (number, tt);
      txns = refl;
      orderly = h;
    }

-- ---- what moves, uses and holds nothing

-- an entry decides an event, makes a notice or acknowledges one
abbrev pub is_still : Entry → Bool
is_still (entry.Decided event verdict) = true
is_still (entry.Notice notice) = true
is_still (entry.Acked notice) = true
is_still _ = false

still_entry : (s : CoreState) (e : Entry) → IsOrderlyState s → is_still e ≡ true → Effect s (e ∷ []) 0 0 0 0
still_entry s (entry.Decided event verdict) h is = record { money = omega arith; usage = omega arith; stake = omega arith; fit = (tt, tt); txns = refl; orderly = h }
still_entry s (entry.Notice notice) h is = record { money = omega arith; usage = omega arith; stake = omega arith; fit = (tt, tt); txns = refl; orderly = h }
still_entry s (entry.Acked notice) h is = record { money = omega arith; usage = omega arith; stake = omega arith; fit = (tt, tt); txns = refl; orderly = h }
still_entry s _ h is = absurd (let bad : false ≡ true = is in cc)

-- such entries have no effect
pub still_effect : (s : CoreState) (es : List Entry) → IsOrderlyState s → list_all is_still es ≡ true → Effect s es 0 0 0 0
still_effect s [] h all = no_effect s h
still_effect s (e ∷ es) h all =
    let both = and_parts (is_still e) (list_all is_still es) all in
    let first = still_entry s e h both.0 in
    and_then first (still_effect (after_entry s e) es first.orderly both.1)
