-- What transactions hold and calls ask, as a load on a core.
use Rattle.std.proofs.Common.{◌≡◌, ◌∙◌, ◌++◌, ◌+◌, ◌+ℤ◌, ◌∷◌, ◌||◌, ◌≤◌, ℕ, ℤ, pos, negsuc, neg_ℤ, ap, arith, Bool, cond, false, List, [], not, refl, subst, suc, sym, true}
use Rattle.std.specs.Prelude.{Some, None, is_some, ◌≤ℤ◌}
use Rattle.std.specs.Str.{bytes_eq}
use Rattle.std.proofs.lemmas.Int.{ints}
use Rattle.iss_model.specs.declared.account.Part.{Part}
use Rattle.iss_model.specs.declared.account.Part.TheVariants as part
use Rattle.iss_model.specs.declared.entry.Entry.{Entry}
use Rattle.iss_model.specs.declared.entry.Entry.TheVariants as entry
use Rattle.iss_model.specs.declared.input.Input.{Input}
use Rattle.iss_model.specs.declared.txn.UsageRow.{UsageRow}
use Rattle.iss_model.specs.rules.Activity.{TxnNow, txn_named}
use Rattle.iss_model.specs.rules.Due.{thing_entries}
use Rattle.iss_model.specs.rules.Facts.{not_below}
use Rattle.iss_model.specs.rules.Reasons.{is_some_with}
use Rattle.iss_model.specs.rules.Settings.{is_named_in}
use Rattle.iss_model.specs.rules.Stepping.{entries_of}
use Rattle.iss_model.specs.state.Cores.{CoreState, Holdings, after_entry, after_setting, core_facts, is_live}
use Rattle.iss_state.specs.Holdings.{AllKeepHeld, IsHeldWell, KeepsHeld, MayChange, part_sum}
use Rattle.iss_state.specs.Pending.{AreAllowed, HasTakenUp}
use Rattle.iss_state.specs.Stakes.{IsOrderly, IsOrderlyState, are_distinct, part_held, total_held, txn_tokens}
use Rattle.iss_state.specs.Well.{HaveOwnTokens, has_live}
use Rattle.iss_state.proofs.calls.Steps.{due_allowed, own_allowed, ready_settled}
use Rattle.iss_state.proofs.docket.Lists.{both_so, not_both}
use Rattle.iss_state.proofs.effects.Effects.{all_calm_holdings, setting_calls}
use Rattle.iss_state.proofs.effects.FoundByName.{named_found, unnamed_missed}
use Rattle.iss_state.proofs.effects.TransactionsHeld.{held_after_begin, held_less, held_more, orderly_after_begin, orderly_after_hold, tokens_after_end}
use Rattle.iss_state.proofs.held.Changes.{entry_held}
use Rattle.iss_state.proofs.held.Inputs.{own_keeps, thing_keeps}
use Rattle.iss_state.proofs.held.Steps.{thing_held}
use Rattle.iss_state.proofs.held.Times.{entries_now}
use Rattle.iss_bounded.specs.Bounds.{asked_amounts}
use Rattle.iss_bounded.proofs.AskedWorth.{Knows, worth_after_close, worth_with_opened}
use Rattle.iss_bounded.proofs.Prices.{AllFitting, MayCome}
use Rattle.iss_bounded.proofs.UseBounds.{Bears, Runs, load_price}

-- names ----

live_named : (s : CoreState) (token : List ℕ) → has_live s.holdings.txns token ≡ true → is_named_in (txn_tokens s.holdings.txns) token ≡ true
live_named s token live = by (is_named_in (txn_tokens s.holdings.txns) token) refl
  where
    by : (b : Bool) → is_named_in (txn_tokens s.holdings.txns) token ≡ b → b ≡ true
    by true e = refl
    by false e = not_both (has_live s.holdings.txns token) live (ap (is_some_with (λ (t : TxnNow). t.live)) (unnamed_missed s token e))

missed_unnamed : (s : CoreState) (token : List ℕ) → txn_named token s.holdings.txns ≡ None → is_named_in (txn_tokens s.holdings.txns) token ≡ false
missed_unnamed s token none = by (is_named_in (txn_tokens s.holdings.txns) token) refl
  where
    by : (b : Bool) → is_named_in (txn_tokens s.holdings.txns) token ≡ b → b ≡ false
    by false e = refl
    by true e = not_both (is_some (txn_named token s.holdings.txns)) (named_found s token e) (ap is_some none)

none_named : (ts : List TxnNow) (token : List ℕ) → txn_named token ts ≡ None → is_named_in (txn_tokens ts) token ≡ false
none_named [] token none = refl
none_named (t ∷ ts) token none = by (bytes_eq t.txn.token token) none (none_named ts token)
  where
    by : (b : Bool) → cond b (Some t) (txn_named token ts) ≡ None → (txn_named token ts ≡ None → is_named_in (txn_tokens ts) token ≡ false) → (b || is_named_in (txn_tokens ts) token) ≡ false
    by true e rest = cc
    by false e rest = rest e

-- tokens of their own are distinct
pub tokens_distinct : (ts : List TxnNow) → HaveOwnTokens ts → are_distinct (txn_tokens ts) ≡ true
tokens_distinct [] h = refl
tokens_distinct (t ∷ ts) h = both_so (not (is_named_in (txn_tokens ts) t.txn.token)) (are_distinct (txn_tokens ts)) (ap not (none_named ts t.txn.token h.0)) (tokens_distinct ts h.1)

-- transactions of their own tokens that hold well are orderly
pub orderly_of : (s : CoreState) → HaveOwnTokens s.holdings.txns → IsHeldWell s → IsOrderlyState s
orderly_of s own held =
    record {
      distinct = tokens_distinct s.holdings.txns own;
      unbegun = λ token none.
          let nothing = held.ended token (ap (is_some_with (λ (t : TxnNow). t.live)) (unnamed_missed s token none)) in
          zero (part_held s.holdings.parts token part.G) (part_held s.holdings.parts token part.P) (part_held s.holdings.parts token part.S) (ap not_below (nothing part.G)) (ap not_below (nothing part.P)) (ap not_below (nothing part.S));
    }
  where
    zero : (g p s : ℕ) → g ≡ 0 → p ≡ 0 → s ≡ 0 → g + p + s ≡ 0
    zero g p s e f h = omega (arith, e, f, h)

-- a hold is of a transaction that stands
hold_named : (s : CoreState) (txn : List ℕ) (p : Part) (amount : ℤ) → MayChange s txn p amount → IsHeldWell s → is_named_in (txn_tokens s.holdings.txns) txn ≡ true
hold_named s txn p (pos n) may held = live_named s txn may.0.its_live
hold_named s txn p (negsuc n) may held = by (has_live s.holdings.txns txn) refl
  where
    none : {Q : Type 0} (z : ℤ) → pos (suc n) ≤ℤ z → z ≡ pos 0 → Q
    none z h e = absurd (omega (arith, ints, h, e))

    by : (b : Bool) → has_live s.holdings.txns txn ≡ b → is_named_in (txn_tokens s.holdings.txns) txn ≡ true
    by true e = live_named s txn e
    by false e = none (part_sum s.holdings.parts txn p) may (held.ended txn e p)

-- entries that fit ----

-- An entry may come next and finds what it needs to hold well. What stands is held well, and orderly.
pub record HoldsOn (s : CoreState) (e : Entry) : Type 0 where
  pub may : MayCome s e
  pub keeps : KeepsHeld s e
  pub held : IsHeldWell s
  pub orderly : IsOrderlyState s

tokens_with : (ts : List TxnNow) (x : TxnNow) → txn_tokens (ts ++ x ∷ []) ≡ txn_tokens ts ++ x.txn.token ∷ []
tokens_with [] x = refl
tokens_with (t ∷ ts) x = ap (λ (ks : List (List ℕ)). t.txn.token ∷ ks) (tokens_with ts x)

orderly_after : (s : CoreState) (e : Entry) → HoldsOn s e → IsOrderlyState (after_entry s e)
orderly_after s (entry.Conf i) h = subst (λ (k : Holdings). IsOrderly (txn_tokens k.txns) k.parts) (sym (all_calm_holdings s (entry.Conf i ∷ []) refl)) h.orderly
orderly_after s (entry.Began t) h =
    subst (λ (ks : List (List ℕ)). IsOrderly ks (after_entry s (entry.Began t)).holdings.parts) (sym (tokens_with s.holdings.txns (record { txn = t; live = is_live s.holdings.txns t.token })))
    (orderly_after_begin (txn_tokens s.holdings.txns) s.holdings.parts t (missed_unnamed s t.token h.may) h.orderly)
orderly_after s (entry.Hold txn user currency p amount) h =
    orderly_after_hold (txn_tokens s.holdings.txns) s.holdings.parts txn p amount (hold_named s txn p amount h.keeps h.held) h.orderly
orderly_after s (entry.Ended txn) h = subst (λ (ks : List (List ℕ)). IsOrderly ks s.holdings.parts) (sym (tokens_after_end txn s.holdings.txns)) h.orderly
orderly_after s e h = h.orderly

all_hold : (s : CoreState) (es : List Entry) → AreAllowed s es → AllKeepHeld s es → IsHeldWell s → IsOrderlyState s → AllFitting HoldsOn s es
all_hold s [] allowed keeps held orderly = tt
all_hold s (e ∷ es) allowed keeps held orderly =
    let first : HoldsOn s e = record { may = allowed.0; keeps = keeps.0; held = held; orderly = orderly } in
    (first, all_hold (after_entry s e) es allowed.1 keeps.1 (entry_held s e keeps.0 held) (orderly_after s e first))

-- the load ----

-- what all transactions hold, and what all asked calls ask
abbrev pub open_load : CoreState → ℕ
open_load s = total_held (txn_tokens s.holdings.txns) s.holdings.parts + asked_amounts s.calls

abbrev held_load : CoreState → ℕ
held_load s = total_held (txn_tokens s.holdings.txns) s.holdings.parts

pub open_bears : (over : UsageRow → ℕ) (closed : ℕ → ℕ) → Bears open_load HoldsOn (record { size = λ n. n; closed = closed; hold = λ z. z; over = over })
open_bears over closed = record { lighter = lighter }
  where
    same : (h g a b : ℕ) → g ≡ h → b ≡ a → pos (g + b) ≤ℤ (pos (h + a) +ℤ pos 0)
    same h g a b e f = omega (arith, ints, e, f)

    opens : (h a b w : ℕ) → b ≡ a + w → pos (h + b) ≤ℤ (pos (h + a) +ℤ pos w)
    opens h a b w e = omega (arith, ints, e)

    closes : (h a b c w : ℕ) → c ≡ w → b + w ≤ a → pos (h + b) ≤ℤ (pos (h + a) +ℤ neg_ℤ (pos c))
    closes h a b c w e k = omega (arith, ints, e, k)

    more : (h g a n : ℕ) → g ≤ h + n → pos (g + a) ≤ℤ (pos (h + a) +ℤ pos n)
    more h g a n e = omega (arith, ints, e)

    less : (h g a n : ℕ) → g + suc n ≡ h → pos (g + a) ≤ℤ (pos (h + a) +ℤ negsuc n)
    less h g a n e = omega (arith, ints, e)

    there : (z : ℤ) (n : ℕ) → pos (suc n) ≤ℤ z → suc n ≤ not_below z
    there (pos m) n h = omega (arith, ints, h)
    there (negsuc m) n h = absurd (omega (arith, ints, h))

    held_change : (s : CoreState) (txn user : List ℕ) (currency : _) (p : Part) (amount : ℤ) → HoldsOn s (entry.Hold txn user currency p amount)
        → pos (open_load (after_entry s (entry.Hold txn user currency p amount))) ≤ℤ (pos (open_load s) +ℤ amount)
    held_change s txn user currency p (pos n) h =
        more (held_load s) (held_load (after_entry s (entry.Hold txn user currency p (pos n)))) (asked_amounts s.calls) n
        (held_more (txn_tokens s.holdings.txns) s.holdings.parts txn p n h.orderly.distinct (hold_named s txn p (pos n) h.keeps h.held))
    held_change s txn user currency p (negsuc n) h =
        less (held_load s) (held_load (after_entry s (entry.Hold txn user currency p (negsuc n)))) (asked_amounts s.calls) n
        (held_less (txn_tokens s.holdings.txns) s.holdings.parts txn p (suc n) h.orderly.distinct (hold_named s txn p (negsuc n) h.keeps h.held) (there (part_sum s.holdings.parts txn p) n h.keeps))

    lighter : (s : CoreState) (e : Entry) → HoldsOn s e → Knows (λ o. o.amount) closed s → pos (open_load (after_entry s e)) ≤ℤ (pos (open_load s) +ℤ load_price (record { size = λ n. n; closed = closed; hold = λ z. z; over = over }) e)
    lighter s (entry.Conf i) h known =
        same (held_load s) (held_load (after_setting s i)) (asked_amounts s.calls) (asked_amounts (after_setting s i).calls) (ap (λ (k : Holdings). total_held (txn_tokens k.txns) k.parts) (all_calm_holdings s (entry.Conf i ∷ []) refl))
        (ap asked_amounts (setting_calls s i))
    lighter s (entry.Began t) h known =
        same (held_load s) (held_load (after_entry s (entry.Began t))) (asked_amounts s.calls) (asked_amounts s.calls)
        (ap (λ (ks : List (List ℕ)). total_held ks (after_entry s (entry.Began t)).holdings.parts) (tokens_with s.holdings.txns (record { txn = t; live = is_live s.holdings.txns t.token }))
        ∙ held_after_begin (txn_tokens s.holdings.txns) s.holdings.parts t (missed_unnamed s t.token h.may) h.orderly) refl
    lighter s (entry.Opened o) h known = opens (held_load s) (asked_amounts s.calls) (asked_amounts (after_entry s (entry.Opened o)).calls) o.amount (worth_with_opened (λ o. o.amount) s.calls o)
    lighter s (entry.Closed call how) h known =
        closes (held_load s) (asked_amounts s.calls) (asked_amounts (after_entry s (entry.Closed call how)).calls) (closed call.0) h.may.its.opened.amount (known.its call.0 h.may.its h.may.asked.stands)
        (worth_after_close (λ o. o.amount) call.0 how s.calls h.may.its h.may.asked.stands h.may.asked.asked)
    lighter s (entry.Hold txn user currency p amount) h known = held_change s txn user currency p amount h
    lighter s (entry.Ended txn) h known =
        same (held_load s) (held_load (after_entry s (entry.Ended txn))) (asked_amounts s.calls) (asked_amounts s.calls) (ap (λ (ks : List (List ℕ)). total_held ks s.holdings.parts) (tokens_after_end txn s.holdings.txns)) refl
    lighter s e h known = same (held_load s) (held_load s) (asked_amounts s.calls) (asked_amounts s.calls) refl refl

-- records ----

-- a record was taken up at its stamp, and all is held well
pub record IsHeldReady (i : Input) (at : ℕ) (s : CoreState) : Type 0 where
  pub early : at ≤ s.now
  pub taken : HasTakenUp s i
  pub held : IsHeldWell s

pub open_runs : Runs IsHeldReady HoldsOn
open_runs =
    record {
      taken = λ i at s h. h.taken;
      due = λ i at s thing h. all_hold s (thing_entries thing at (core_facts s)) (due_allowed s i thing at h.taken) (thing_keeps h.taken.before s thing at h.taken.well h.held) h.held (orderly_of s h.taken.well.txns.tokens h.held);
      own = λ i at s h. all_hold s (entries_of i at (core_facts s)) (own_allowed s i at h.taken) (own_keeps s i at h.early h.taken h.held) h.held (orderly_of s h.taken.well.txns.tokens h.held);
      stays = λ i at s thing h. record {
        early = subst (λ (n : ℕ). at ≤ n) (sym (entries_now s (thing_entries thing at (core_facts s)))) h.early;
        taken = ready_settled s i thing at h.taken;
        held = thing_held s i thing at h.taken h.held;
      };
    }
