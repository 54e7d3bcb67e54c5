-- Effects of the pieces that entries are made of.
use Rattle.std.specs.Prelude.{Some}
use Rattle.std.proofs.Common.{Bool, List, [], arith, cond, false, fold, nat_abs, nat_eq, neg_ℤ, pos, refl, true, ℕ, ℤ, ◌+◌, ◌∷◌, ◌≡◌, ◌≤◌}
use Rattle.std.specs.List.{list_all}
use Rattle.std.specs.Str.{bytes_eq}
use Rattle.iss_model.specs.declared.account.Account.{Account}
use Rattle.iss_model.specs.declared.account.Part.{Part}
use Rattle.iss_model.specs.declared.entry.Entry.{Entry}
use Rattle.iss_model.specs.declared.entry.Entry.TheVariants as entry
use Rattle.iss_model.specs.declared.txn.Txn.{Txn}
use Rattle.iss_model.specs.Sums.{part_key}
use Rattle.iss_model.specs.rules.Asks.{usage_of}
use Rattle.iss_model.specs.rules.CardReasons.{is_account_funded}
use Rattle.iss_model.specs.rules.Pieces.{hold_entries, only_gateway, only_where, post_entries, unhold_entries, use_return_entries}
use Rattle.iss_model.specs.state.Cores.{CoreState, after_entry}
use Rattle.iss_state.specs.Effects.{Effect}
use Rattle.iss_state.specs.Needs.{Stands, UsageNeeds}
use Rattle.iss_state.specs.Stakes.{IsOrderlyState, part_held}
use Rattle.iss_state.proofs.effects.Effects.{calm_effect, comes_to, down_size, is_calm, less_held_effect, more_held_effect, no_effect, stands_is_named}
use Rattle.iss_state.proofs.effects.Finds.{number_is}
use Rattle.iss_state.proofs.effects.Parts.{part_less, part_same}

-- ---- what is left out if it comes to nothing

-- Entries that are left out if an amount is 0 have their effect anyway. At 0 no more may be taken from what is at stake than is put there.
pub only_where_effect : {s : CoreState} {es : List Entry} {m u a b : ℕ} (amount : ℕ) → IsOrderlyState s → (amount ≡ 0 → b ≤ a) → Effect s es m u a b → Effect s (only_where amount es) m u a b
only_where_effect {s} {es} {m} {u} {a} {b} amount h none effect = by (nat_eq amount 0) refl
  where
    by : (c : Bool) → nat_eq amount 0 ≡ c → Effect s (cond c [] es) m u a b
    by true e = comes_to m u a b (no_effect s h) (omega arith) (omega arith) (omega (arith, none (number_is amount 0 e)))
    by false e = effect

-- Entries that are made only for a gateway product have their effect anyway, if they take nothing from what is at stake.
pub only_gateway_effect : {s : CoreState} {es : List Entry} {m u a : ℕ} (t : Txn) → IsOrderlyState s → Effect s es m u a 0 → Effect s (only_gateway t es) m u a 0
only_gateway_effect {s} {es} {m} {u} {a} t h effect = by (is_account_funded t.funding)
  where
    by : (b : Bool) → Effect s (cond b [] es) m u a 0
    by true = comes_to m u a 0 (no_effect s h) (omega arith) (omega arith) (omega arith)
    by false = effect

-- entries under a test are calm if the entries are
pub calm_where : (b : Bool) (es : List Entry) → list_all is_calm es ≡ true → list_all is_calm (cond b [] es) ≡ true
calm_where true es h = refl
calm_where false es h = h

-- ---- posts, use and holds

pub post_calm : (t : Txn) (from to : Account) (m : ℕ) → list_all is_calm (post_entries t from to m) ≡ true
post_calm t from to m = calm_where (nat_eq m 0) (entry.Post from to m (Some t.token) ∷ []) refl

-- use of a transaction that stands fits
pub usage_fits : (s : CoreState) (t : Txn) (amount count : ℤ) (at : ℕ) → Stands s t → UsageNeeds s (usage_of t amount count at)
usage_fits s t amount count at stands = record { its = t; stands = stands; of_txn = refl; of_origin = refl; of_user = refl; of_product = refl; of_currency = refl }

-- use takes the sums of use as far as it is
pub usage_effect : (s : CoreState) (t : Txn) (amount count : ℤ) (at : ℕ) → IsOrderlyState s → Stands s t → Effect s (entry.Usage (usage_of t amount count at) ∷ []) 0 (nat_abs amount + nat_abs count) 0 0
usage_effect s t amount count at h stands =
    comes_to 0 (nat_abs amount + nat_abs count) 0 0
    (calm_effect s (entry.Usage (usage_of t amount count at) ∷ []) h (usage_fits s t amount count at stands, tt) refl) (omega arith) (omega arith) (omega arith)

pub post_effect : (s : CoreState) (t : Txn) (from to : Account) (m : ℕ) → IsOrderlyState s → Stands s t → Effect s (post_entries t from to m) m 0 0 0
post_effect s t from to m h stands =
    only_where_effect m h (λ none. omega arith)
    (comes_to m 0 0 0 (calm_effect s (entry.Post from to m (Some t.token) ∷ []) h (stands_is_named s t stands, tt) refl) (omega arith) (omega arith) (omega arith))

pub use_return_effect : (s : CoreState) (t : Txn) (m : ℕ) → IsOrderlyState s → Stands s t → Effect s (use_return_entries t m) 0 m 0 0
use_return_effect s t m h stands =
    only_where_effect m h (λ none. omega arith)
    (comes_to 0 m 0 0 (usage_effect s t (neg_ℤ (pos m)) (pos 0) t.at h stands) (omega arith) (omega (arith, down_size m)) (omega arith))

pub hold_effect : (s : CoreState) (t : Txn) (p : Part) (m : ℕ) → IsOrderlyState s → Stands s t → Effect s (hold_entries t p m) m 0 m 0
hold_effect s t p m h stands = only_where_effect m h (λ none. omega arith) (more_held_effect s t p m h stands)

pub unhold_effect : (s : CoreState) (t : Txn) (p : Part) (m : ℕ) → IsOrderlyState s → Stands s t → m ≤ part_held s.holdings.parts t.token p → Effect s (unhold_entries t p m) m 0 0 m
unhold_effect s t p m h stands le = only_where_effect m h (λ none. omega (arith, none)) (less_held_effect s t p m h stands le)

-- a hold of less leaves the other parts as they are
pub unhold_other : (s : CoreState) (t : Txn) (p q : Part) (m : ℕ) → bytes_eq (part_key t.token p) (part_key t.token q) ≡ false
    → part_held (fold after_entry s (unhold_entries t p m)).holdings.parts t.token q ≡ part_held s.holdings.parts t.token q
unhold_other s t p q m other = by (nat_eq m 0)
  where
    by : (b : Bool) → part_held (fold after_entry s (cond b [] (entry.Hold t.token t.user t.currency p (neg_ℤ (pos m)) ∷ []))).holdings.parts t.token q ≡ part_held s.holdings.parts t.token q
    by true = refl
    by false = part_same s.holdings.parts (part_key t.token p) (neg_ℤ (pos m)) t.token q other

-- a hold of less takes its amount from its part
pub unhold_same : (s : CoreState) (t : Txn) (p : Part) (m : ℕ) → bytes_eq (part_key t.token p) (part_key t.token p) ≡ true → m ≤ part_held s.holdings.parts t.token p
    → part_held (fold after_entry s (unhold_entries t p m)).holdings.parts t.token p + m ≡ part_held s.holdings.parts t.token p
unhold_same s t p m same le = by (nat_eq m 0) refl
  where
    by : (b : Bool) → nat_eq m 0 ≡ b → part_held (fold after_entry s (cond b [] (entry.Hold t.token t.user t.currency p (neg_ℤ (pos m)) ∷ []))).holdings.parts t.token p + m ≡ part_held s.holdings.parts t.token p
    by true e = omega (arith, number_is m 0 e)
    by false e = part_less s.holdings.parts (part_key t.token p) m t.token p same le

-- a hold of less leaves the calls as they are
pub unhold_calls : (s : CoreState) (t : Txn) (p : Part) (m : ℕ) → (fold after_entry s (unhold_entries t p m)).calls ≡ s.calls
unhold_calls s t p m = by (nat_eq m 0)
  where
    by : (b : Bool) → (fold after_entry s (cond b [] (entry.Hold t.token t.user t.currency p (neg_ℤ (pos m)) ∷ []))).calls ≡ s.calls
    by true = refl
    by false = refl
