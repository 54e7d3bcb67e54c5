-- How far the sums of a core that is made again reach: those of its transactions and of its accounts.
use Rattle.std.proofs.Common.{◌≡◌, ◌∷◌, ◌&&◌, ◌+◌, ◌*◌, ◌≤◌, ◌+ℤ◌, ◌-ℤ◌, ℕ, ℤ, pos, neg_ℤ, arith, Bool, cond, false, List, [], map, nat_le, refl, true}
use Rattle.std.specs.Prelude.{Option, Some, None, option_map, unwrap_or}
use Rattle.std.specs.List.{flat_map, list_all}
use Rattle.std.specs.Cmp.Lexicographic.{slice_cmp}
use Rattle.std.specs.FinMap.Entries.{find}
use Rattle.std.specs.Ordering.{is_eq, nat_cmp}
use Rattle.std.specs.Str.{bytes_eq}
use Rattle.std.proofs.lemmas.Bool.{and_parts}
use Rattle.std.proofs.lemmas.Bool.Decides.{nat_tests}
use Rattle.std.proofs.lemmas.Int.{ints}
use Rattle.iss_model.specs.declared.account.Account.{Account}
use Rattle.iss_model.specs.declared.account.Account.TheVariants as account
use Rattle.iss_model.specs.declared.currency.Currency.{Currency}
use Rattle.iss_model.specs.declared.input.Input.{Input}
use Rattle.iss_model.specs.declared.input.Input.TheVariants as input
use Rattle.iss_model.specs.declared.state.Carried.{Carried}
use Rattle.iss_model.specs.declared.state.Seen.{Seen}
use Rattle.iss_model.specs.declared.state.TxnSums.{TxnSums}
use Rattle.iss_model.specs.declared.txn.Txn.{Txn}
use Rattle.iss_model.specs.Currencies.{same_currency}
use Rattle.iss_model.specs.Sums.{changed_at}
use Rattle.iss_model.specs.rules.Activity.{TxnNow, txn_named}
use Rattle.iss_model.specs.rules.CardReasons.{is_account_funded}
use Rattle.iss_state.specs.Bounds.{IsWithin}
use Rattle.iss_state.proofs.docket.Lists.{Each}
use Rattle.iss_states.specs.Rebuilding.{held_sums, holder_key, part_sums}
use Rattle.iss_well_formed.specs.Txns.{AreWhatWasDone, cleared_amount, done_total, is_fair, refunded_amount}
use Rattle.iss_well_formed.proofs.FairAgain.{found_at}
use Rattle.iss_balanced.specs.Owed.{amount_if, loaded_in, loaded_to, loads_give, share_of, txns_total}
use Rattle.iss_decided.specs.Approved.{AreWithinApproved, approved_amount, approved_total, is_ask_of}
use Rattle.iss_noticed.specs.Commitments.{held_together}
use Rattle.iss_least.proofs.EventWeights.{approved_by, done_by, done_most, moved_amount, total_by}
use Rattle.iss_restored.proofs.Regrouped.{over_tokens}

-- bounds ----

within_sum : (n m : ℕ) (x y : ℤ) → IsWithin n x → IsWithin m y → IsWithin (n + m) (x +ℤ y)
within_sum n m x y h k = record { low = omega (arith, ints, h.low, k.low); high = omega (arith, ints, h.high, k.high) }

pub pos_within : (n m : ℕ) → n ≤ m → IsWithin m (pos n)
pos_within n m h = record { low = omega (arith, ints, h); high = omega (arith, ints, h) }

pub zero_within : (m : ℕ) → IsWithin m (pos 0)
zero_within m = record { low = omega (arith, ints); high = omega (arith, ints) }

pub within_more : (n m : ℕ) (z : ℤ) → n ≤ m → IsWithin n z → IsWithin m z
within_more n m z h w = record { low = omega (arith, ints, h, w.low); high = omega (arith, ints, h, w.high) }

-- what a list of sums has at a key is one of them, or nothing
pub found_within : (m : ℕ) (es : List (List ℕ × ℤ)) (key : List ℕ) → Each (λ e. IsWithin m (e.1)) es → IsWithin m (found_at key es)
found_within m [] key h = zero_within m
found_within m (e ∷ es) key h = by (is_eq (slice_cmp nat_cmp key (e.0))) (found_within m es key h.1)
  where
    by : (b : Bool) → IsWithin m (found_at key es) → IsWithin m (unwrap_or (cond b (Some (e.1)) (find (slice_cmp nat_cmp) key es)) (pos 0))
    by true rest = h.0
    by false rest = rest

-- one transaction ----

-- What the sums of a transaction are at most, by what events were approved for and have moved.
pub record AreSumsSmall (approved done : ℕ) (t : Carried) : Type 0 where
  pub held : t.sums.g + t.sums.p + t.sums.s ≤ approved
  pub cleared : t.sums.cleared ≤ done
  pub refunded : t.sums.refunded ≤ done
  pub paid : t.sums.paid ≤ approved + done

one_approved : (token : List ℕ) (es : List Seen) → approved_total token es ≤ total_by approved_by es
one_approved token [] = omega arith
one_approved token (e ∷ es) = by (is_ask_of token e.body.input) (approved_amount e.verdict e.body.input) (approved_total token es) (total_by approved_by es) (one_approved token es)
  where
    by : (b : Bool) (n ms ns : ℕ) → ms ≤ ns → cond b n 0 + ms ≤ n + ns
    by true n ms ns h = omega (arith, h)
    by false n ms ns h = omega (arith, h)

if_most : (b : Bool) (n : ℕ) → cond b n 0 ≤ n
if_most true n = omega arith
if_most false n = omega arith

cleared_part : (token : List ℕ) (i : Input) → cleared_amount token i ≤ moved_amount i
cleared_part token (input.Clearing event txn currency amount last) = if_most (bytes_eq txn token) amount
cleared_part token i = least (moved_amount i)
  where
    least : (n : ℕ) → 0 ≤ n
    least n = omega arith

refunded_part : (token : List ℕ) (i : Input) → refunded_amount token i ≤ moved_amount i
refunded_part token (input.Refund event txn currency amount) = if_most (bytes_eq txn token) amount
refunded_part token i = least (moved_amount i)
  where
    least : (n : ℕ) → 0 ≤ n
    least n = omega arith

loaded_in_part : (c : Currency) (i : Input) → loaded_in c i ≤ moved_amount i
loaded_in_part c (input.Load token user currency amount) = if_most (same_currency currency c) amount
loaded_in_part c i = least (moved_amount i)
  where
    least : (n : ℕ) → 0 ≤ n
    least n = omega arith

loaded_to_part : (name : List ℕ) (c : Currency) (i : Input) → loaded_to name c i ≤ moved_amount i
loaded_to_part name c (input.Load token user currency amount) = if_most (bytes_eq user name && same_currency currency c) amount
loaded_to_part name c i = least (moved_amount i)
  where
    least : (n : ℕ) → 0 ≤ n
    least n = omega arith

pub sums_small : (es : List Seen) (ts : List Carried) → AreWithinApproved es ts → AreWhatWasDone es ts → Each (AreSumsSmall (total_by approved_by es) (total_by done_by es)) ts
sums_small es [] h k = tt
sums_small es (t ∷ ts) h k =
    let approved = one_approved t.txn es in
    let cleared = done_most (cleared_amount t.txn) (cleared_part t.txn) es in
    let refunded = done_most (refunded_amount t.txn) (refunded_part t.txn) es in (
      record {
        held = omega (arith, h.0.held, approved);
        cleared = omega (arith, k.0.cleared, cleared);
        refunded = omega (arith, k.0.refunded, refunded);
        paid = omega (arith, h.0.paid, k.0.cleared, approved, cleared);
      },
      sums_small es ts h.1 k.1,
    )

-- sums by transaction ----

pub parts_within : (m n k : ℕ) (ts : List Carried) → n ≤ m → Each (AreSumsSmall n k) ts → Each (λ (e : List ℕ × ℤ). IsWithin m (e.1)) (flat_map part_sums ts)
parts_within m n k [] le h = tt
parts_within m n k (t ∷ ts) le h = (
  pos_within t.sums.g m (omega (arith, le, h.0.held)),
  (pos_within t.sums.p m (omega (arith, le, h.0.held)), (pos_within t.sums.s m (omega (arith, le, h.0.held)), parts_within m n k ts le h.1)),
)

pub amounts_within : (m n k : ℕ) (amount : Carried → ℕ) → ((t : Carried) → AreSumsSmall n k t → amount t ≤ m) → (ts : List Carried) → Each (AreSumsSmall n k) ts
    → Each (λ (e : List ℕ × ℤ). IsWithin m (e.1)) (map (λ (t : Carried). (t.txn, pos (amount t))) ts)
amounts_within m n k amount small [] h = tt
amounts_within m n k amount small (t ∷ ts) h = (pos_within (amount t) m (small t h.0), amounts_within m n k amount small ts h.1)

-- what users' transactions hold is part of what all hold
pub held_within : (txns : List TxnNow) (ts : List Carried) (key : List ℕ) → IsWithin (held_together ts) (changed_at key (held_sums txns ts))
held_within txns [] key = zero_within 0
held_within txns (t ∷ ts) key = by (bytes_eq (holder_key txns t) key) (t.sums.g + t.sums.p + t.sums.s) (held_together ts) (changed_at key (held_sums txns ts)) (held_within txns ts key)
  where
    by : (b : Bool) (n m : ℕ) (z : ℤ) → IsWithin m z → IsWithin (n + m) (cond b (pos n) (pos 0) +ℤ z)
    by true n m z h = record { low = omega (arith, ints, h.low); high = omega (arith, ints, h.high) }
    by false n m z h = record { low = omega (arith, ints, h.low); high = omega (arith, ints, h.high) }

-- shares of accounts ----

-- The sums of a transaction are fair, for what it was approved for and what was cleared.
pub record AreSumsFair (approved cleared : ℕ) (x : TxnSums) : Type 0 where
  pub held : x.g + x.p + x.s ≤ approved
  pub paid : x.paid ≤ approved + cleared
  pub done : x.cleared ≡ cleared
  pub refunds : x.refunded ≤ x.cleared
  pub holds : x.p ≤ x.paid

-- twice what a transaction was approved for, and twice what was cleared
abbrev pub share_size : ℕ → ℕ → ℕ
share_size approved cleared = 2 * approved + 2 * cleared

network_within : (b : Bool) (n m cleared refunded : ℕ) → cleared ≡ m → refunded ≤ cleared → IsWithin (2 * n + 2 * m) (amount_if b (pos cleared -ℤ pos refunded))
network_within true n m cleared refunded e h = record { low = omega (arith, ints, e, h); high = omega (arith, ints, e, h) }
network_within false n m cleared refunded e h = zero_within (2 * n + 2 * m)

programme_within : (b : Bool) (n m paid : ℕ) → paid ≤ n + m → IsWithin (2 * n + 2 * m) (amount_if b (neg_ℤ (pos paid)))
programme_within true n m paid h = record { low = omega (arith, ints, h); high = omega (arith, ints, h) }
programme_within false n m paid h = zero_within (2 * n + 2 * m)

user_within : (b own : Bool) (n m cleared refunded g p : ℕ) → cleared ≡ m → refunded ≤ cleared → g + p ≤ n → IsWithin (2 * n + 2 * m) (amount_if b (cond own (pos refunded -ℤ pos cleared) (pos g +ℤ pos p)))
user_within true true n m cleared refunded g p e h k = record { low = omega (arith, ints, e, h); high = omega (arith, ints, e, h) }
user_within true false n m cleared refunded g p e h k = record { low = omega (arith, ints, k); high = omega (arith, ints, k) }
user_within false own n m cleared refunded g p e h k = zero_within (2 * n + 2 * m)

gateway_within : (b own : Bool) (n m cleared refunded paid g p : ℕ) → cleared ≡ m → refunded ≤ cleared → paid ≤ n + m → g + p ≤ n
    → IsWithin (2 * n + 2 * m) (amount_if b (neg_ℤ ((pos cleared -ℤ pos refunded) +ℤ (neg_ℤ (pos paid) +ℤ cond own (pos refunded -ℤ pos cleared) (pos g +ℤ pos p)))))
gateway_within true true n m cleared refunded paid g p e h k l = record { low = omega (arith, ints, e, h, k); high = omega (arith, ints, e, h, k) }
gateway_within true false n m cleared refunded paid g p e h k l = record { low = omega (arith, ints, e, h, k, l); high = omega (arith, ints, e, h, k, l) }
gateway_within false own n m cleared refunded paid g p e h k l = zero_within (2 * n + 2 * m)

share_within : (a : Account) (t : Txn) (x : TxnSums) (n m : ℕ) → AreSumsFair n m x → IsWithin (share_size n m) (share_of a t x)
share_within (account.Network c) t x n m h = network_within (same_currency t.currency c) n m x.cleared x.refunded h.done h.refunds
share_within (account.Programme c) t x n m h = programme_within (same_currency t.currency c) n m x.paid h.paid
share_within (account.User user c) t x n m h =
    user_within (bytes_eq t.user user && same_currency t.currency c) (is_account_funded t.funding) n m x.cleared x.refunded x.g x.p h.done h.refunds (omega (arith, h.held))
share_within (account.Gateway c) t x n m h =
    gateway_within (same_currency t.currency c) (is_account_funded t.funding) n m x.cleared x.refunded x.paid x.g x.p h.done h.refunds h.paid (omega (arith, h.held))

-- what all transactions of these events share out
abbrev pub shares_size : List Seen → List Carried → ℕ
shares_size es [] = 0
shares_size es (t ∷ ts) = share_size (approved_total t.txn es) (done_total (cleared_amount t.txn) es) + shares_size es ts

sums_fair : (es : List Seen) (ts : List Carried) → AreWithinApproved es ts → AreWhatWasDone es ts → list_all is_fair ts ≡ true
    → Each (λ t. AreSumsFair (approved_total t.txn es) (done_total (cleared_amount t.txn) es) t.sums) ts
sums_fair es [] h k fair = tt
sums_fair es (t ∷ ts) h k fair =
    let both = and_parts (is_fair t) (list_all is_fair ts) fair in
    let its = and_parts (nat_le t.sums.refunded t.sums.cleared) (nat_le t.sums.p t.sums.paid) both.0 in (
      record {
        held = h.0.held;
        paid = omega (arith, h.0.paid, k.0.cleared);
        done = k.0.cleared;
        refunds = up_to t.sums.refunded t.sums.cleared its.0;
        holds = up_to t.sums.p t.sums.paid its.1;
      },
      sums_fair es ts h.1 k.1 both.1,
    )
  where
    up_to : (n m : ℕ) → nat_le n m ≡ true → n ≤ m
    up_to n m h = grind (arith, nat_tests)

shares_within : (a : Account) (txns : List TxnNow) (es : List Seen) (ts : List Carried) → Each (λ t. AreSumsFair (approved_total t.txn es) (done_total (cleared_amount t.txn) es) t.sums) ts
    → IsWithin (shares_size es ts) (txns_total (share_of a) txns ts)
shares_within a txns es [] h = zero_within 0
shares_within a txns es (t ∷ ts) h =
    let n : ℕ = share_size (approved_total t.txn es) (done_total (cleared_amount t.txn) es) in
    within_sum n (shares_size es ts) (unwrap_or (option_map (λ (now : TxnNow). share_of a now.txn t.sums) (txn_named t.txn txns)) (pos 0)) (txns_total (share_of a) txns ts)
    (by (txn_named t.txn txns)) (shares_within a txns es ts h.1)
  where
    by : (o : Option TxnNow) → IsWithin (share_size (approved_total t.txn es) (done_total (cleared_amount t.txn) es)) (unwrap_or (option_map (λ (now : TxnNow). share_of a now.txn t.sums) o) (pos 0))
    by None = zero_within (share_size (approved_total t.txn es) (done_total (cleared_amount t.txn) es))
    by (Some now) = share_within a now.txn t.sums (approved_total t.txn es) (done_total (cleared_amount t.txn) es) h.0

loads_within : (es : List Seen) (a : Account) → IsWithin (total_by done_by es) (loads_give es a)
loads_within es (account.Programme c) = turned (done_total (loaded_in c) es) (total_by done_by es) (done_most (loaded_in c) (loaded_in_part c) es)
  where
    turned : (n m : ℕ) → n ≤ m → IsWithin m (neg_ℤ (pos n))
    turned n m h = record { low = omega (arith, ints, h); high = omega (arith, ints, h) }
loads_within es (account.User user c) = pos_within (done_total (loaded_to user c) es) (total_by done_by es) (done_most (loaded_to user c) (loaded_to_part user c) es)
loads_within es (account.Network c) = zero_within (total_by done_by es)
loads_within es (account.Gateway c) = zero_within (total_by done_by es)

-- what an account is owed
pub owed_within : (a : Account) (txns : List TxnNow) (es : List Seen) (ts : List Carried) → AreWithinApproved es ts → AreWhatWasDone es ts → list_all is_fair ts ≡ true
    → IsWithin (total_by done_by es + shares_size es ts) (loads_give es a +ℤ txns_total (share_of a) txns ts)
owed_within a txns es ts h k fair =
    within_sum (total_by done_by es) (shares_size es ts) (loads_give es a) (txns_total (share_of a) txns ts) (loads_within es a) (shares_within a txns es ts (sums_fair es ts h k fair))

-- by token ----

pub shares_regrouped : (es : List Seen) (ts : List Carried)
    → shares_size es ts ≡ 2 * over_tokens (λ t. approved_total t es) (map (λ (t : Carried). t.txn) ts) + 2 * over_tokens (λ t. done_total (cleared_amount t) es) (map (λ (t : Carried). t.txn) ts)
shares_regrouped es [] = refl
shares_regrouped es (t ∷ ts) = omega (arith, shares_regrouped es ts)

pub held_by_approved : (es : List Seen) (ts : List Carried) → AreWithinApproved es ts → held_together ts ≤ over_tokens (λ t. approved_total t es) (map (λ (t : Carried). t.txn) ts)
held_by_approved es [] h = omega arith
held_by_approved es (t ∷ ts) h = omega (arith, h.0.held, held_by_approved es ts h.1)
