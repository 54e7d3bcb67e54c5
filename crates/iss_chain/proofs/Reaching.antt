-- How far an amount reaches if the sums stay small.
use Rattle.std.proofs.Common.{◌≡◌, ℕ, ◌-◌, ◌<◌, ◌^◌, ◌==◌, ℤ, pos, neg_ℤ, ◌+ℤ◌, Bool, true, false, cond, List, [], ◌∷◌, ◌++◌, refl, sym, ◌∙◌, subst, arith}
use Rattle.std.proofs.lemmas.Int.{ints}
use Rattle.std.proofs.lemmas.Bool.Decides.{nat_tests}
use Rattle.std.specs.Prelude.{Some}
use Rattle.std.specs.Str.{bytes_eq}
use Rattle.iss_model.specs.declared.account.Account.TheVariants as account
use Rattle.iss_model.specs.declared.account.Part.{Part}
use Rattle.iss_model.specs.declared.account.Part.TheVariants as part
use Rattle.iss_model.specs.declared.txn.Txn.{Txn}
use Rattle.iss_model.specs.declared.entry.Entry.{Entry}
use Rattle.iss_model.specs.declared.entry.Entry.TheVariants as entry
use Rattle.iss_model.specs.Sums.{Change, changed_at, account_key, user_key}
use Rattle.iss_model.specs.state.Kept.{Kept, IsSmall, AreSmall, kept_at, after_changes}
use Rattle.iss_model.specs.rules.Asks.{usage_of}
use Rattle.iss_model.specs.rules.Pieces.{only_where, only_gateway, post_entries, hold_entries, unhold_entries, user_account, Parts, in_all, clearing_money_entries}
use Rattle.iss_model.specs.state.Cores.{begun_held_changes}
use Rattle.iss_model.proofs.Names.{its_name}
use Rattle.iss_model.proofs.KeptSums.{kept_at-after_changes}
use Rattle.iss_chain.specs.Values.{ChainNow, chain_after_entry}
use Rattle.iss_chain.specs.Calls.{fund_money_entries}
use Rattle.iss_chain.specs.Entering.{IsChainSmall, StaysSmall}
use Rattle.iss_chain.proofs.FitPieces.{after}

-- a first list of two leaves small sums, and so does each entry of the second
pub record GoesOn (c : ChainNow) (xs ys : List Entry) : Type 0 where
  pub first : IsChainSmall (after c xs)
  pub rest : StaysSmall (after c xs) ys

pub goes_on : (c : ChainNow) (xs ys : List Entry) → IsChainSmall c → StaysSmall c (xs ++ ys) → GoesOn c xs ys
goes_on c [] ys small stays = record { first = small; rest = stays }
goes_on c (x ∷ xs) ys small stays = let later = goes_on (chain_after_entry c x) xs ys stays.0 stays.1 in record { first = later.first; rest = later.rest }

reaches : (z w : ℤ) (amount : ℕ) → IsSmall z → IsSmall (z +ℤ w) → w ≡ pos amount → amount < 2 ^ 63
reaches z w amount before small e = omega (arith, ints, before.low, before.high, small.low, small.high, e)

-- what changes a sum by an amount, before and after which it is small, changes it by less than 2^63
moved_within : (m : Kept) (cs : List Change) (key : List ℕ) (amount : ℕ) → AreSmall m → AreSmall (after_changes m cs) → changed_at key cs ≡ pos amount → amount < 2 ^ 63
moved_within m cs key amount before small e =
    reaches (kept_at m key) (changed_at key cs) amount (before key) (subst (λ (z : ℤ). IsSmall z) (kept_at-after_changes m cs key) (small key)) e

zero_small : (n : ℕ) → (n == 0) ≡ true → n < 2 ^ 63
zero_small n e = let none : n ≡ 0 = is_zero n e in omega arith
  where
    is_zero : (n : ℕ) → (n == 0) ≡ true → n ≡ 0
    is_zero n e = grind (arith, nat_tests)

own_change : (b : Bool) (amount : ℕ) → b ≡ true → cond b (pos amount) (pos 0) +ℤ pos 0 ≡ pos amount
own_change true amount e = omega (arith, ints)
own_change false amount e = cc

hold_reaches : (c : ChainNow) (t : Txn) (p : Part) (amount : ℕ) → IsChainSmall c → StaysSmall c (hold_entries t p amount) → amount < 2 ^ 63
hold_reaches c t p amount small stays = by (amount == 0) refl stays
  where
    by : (b : Bool) → (amount == 0) ≡ b → StaysSmall c (cond b [] (entry.Hold t.token t.user t.currency p (pos amount) ∷ [])) → amount < 2 ^ 63
    by true e stays = zero_small amount e
    by false e stays =
        moved_within c.holdings.held (record { key = user_key t.user t.currency; by = pos amount } ∷ []) (user_key t.user t.currency) amount small.held stays.0.held
        (own_change (bytes_eq (user_key t.user t.currency) (user_key t.user t.currency)) amount (its_name (user_key t.user t.currency)))

-- an amount that is paid in and held
pub fund_reaches : (c : ChainNow) (t : Txn) (p : Part) (amount : ℕ) → IsChainSmall c → StaysSmall c (fund_money_entries t p amount) → amount < 2 ^ 63
fund_reaches c t part.G amount small stays =
    let later = goes_on c (post_entries t (account.Gateway t.currency) (user_account t) amount) (hold_entries t part.G amount) small stays in
    hold_reaches (after c (post_entries t (account.Gateway t.currency) (user_account t) amount)) t part.G amount later.first later.rest
fund_reaches c t part.P amount small stays =
    let later = goes_on c (post_entries t (account.Programme t.currency) (user_account t) amount) (hold_entries t part.P amount) small stays in
    hold_reaches (after c (post_entries t (account.Programme t.currency) (user_account t) amount)) t part.P amount later.first later.rest
fund_reaches c t part.S amount small stays = hold_reaches c t part.S amount small stays

network_change : (b d : Bool) (amount : ℕ) → b ≡ true → d ≡ false → cond b (pos amount) (pos 0) +ℤ (cond d (neg_ℤ (pos amount)) (pos 0) +ℤ pos 0) ≡ pos amount
network_change true false amount e f = omega (arith, ints)
network_change true true amount e f = cc
network_change false d amount e f = cc

paid_reaches : (c : ChainNow) (t : Txn) (amount : ℕ) → IsChainSmall c → StaysSmall c (post_entries t (user_account t) (account.Network t.currency) amount) → amount < 2 ^ 63
paid_reaches c t amount small stays = by (amount == 0) refl stays
  where
    by : (b : Bool) → (amount == 0) ≡ b → StaysSmall c (cond b [] (entry.Post (user_account t) (account.Network t.currency) amount (Some t.token) ∷ [])) → amount < 2 ^ 63
    by true e stays = zero_small amount e
    by false e stays =
        let network = account_key (account.Network t.currency) in
        let own = account_key (user_account t) in
        moved_within c.balances (record { key = network; by = pos amount } ∷ record { key = own; by = neg_ℤ (pos amount) } ∷ []) network amount small.balances stays.0.balances
        (network_change (bytes_eq network network) (bytes_eq own network) amount (its_name network) refl)

-- an amount that is cleared
pub clear_reaches : (c : ChainNow) (t : Txn) (taken : Parts) (amount at : ℕ) (more : List Entry) → IsChainSmall c → StaysSmall c (clearing_money_entries t taken amount at ++ more) → amount < 2 ^ 63
clear_reaches c t taken amount at more small stays =
    let excess = amount - in_all taken in
    let before = unhold_entries t part.G taken.g ++ unhold_entries t part.P taken.p ++ unhold_entries t part.S taken.s ++ only_gateway t (post_entries t (account.Programme t.currency) (user_account t) excess) in
    let paid = post_entries t (user_account t) (account.Network t.currency) amount in
    let use_more = only_where excess (entry.Usage (usage_of t (pos excess) (pos 0) at) ∷ []) in
    let a = first_of c (before ++ paid ++ use_more) more small stays in
    let b = first_of c (before ++ paid) use_more small a in
    let d = goes_on c before paid small b in
    paid_reaches (after c before) t amount d.first d.rest
  where
    first_of : (c : ChainNow) (xs ys : List Entry) → IsChainSmall c → StaysSmall c (xs ++ ys) → StaysSmall c xs
    first_of c [] ys small stays = tt
    first_of c (x ∷ xs) ys small stays = (stays.0, first_of (chain_after_entry c x) xs ys stays.0 stays.1)

no_change : (b : Bool) → cond b (pos 0) (pos 0) +ℤ pos 0 ≡ pos 0
no_change true = refl
no_change false = refl

same_sum : (z w : ℤ) → w ≡ pos 0 → z ≡ z +ℤ w
same_sum z w e = omega (arith, ints, e)

-- a transaction that begins leaves all sums as they were
pub begun_small : (c : ChainNow) (t : Txn) → IsChainSmall c → IsChainSmall (chain_after_entry c (entry.Began t))
begun_small c t small =
    record {
      balances = small.balances;
      held = λ key.
          subst (λ (z : ℤ). IsSmall z)
          (same_sum (kept_at c.holdings.held key) (changed_at key (begun_held_changes t)) (no_change (bytes_eq (user_key t.user t.currency) key))
          ∙ sym (kept_at-after_changes c.holdings.held (begun_held_changes t) key)) (small.held key);
      txn_sums = small.txn_sums;
    }
