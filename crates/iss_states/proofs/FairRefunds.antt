-- A refund needs room, and finds it: what it gives back was cleared, and the programme gets no more than it is owed.
use Rattle.std.proofs.Common.{◌≡◌, ℕ, ◌-◌, min, ℤ, pos, negsuc, neg_ℤ, ◌+ℤ◌, ◌-ℤ◌, ◌≤ℤ◌, Bool, true, false, cond, not, nat_eq, List, [], ◌∷◌, ◌++◌, refl, sym, subst, arith}
use Rattle.std.proofs.lemmas.Int.{ints}
use Rattle.std.specs.Prelude.{Option, Some, None, int_lt}
use Rattle.std.specs.Str.{bytes_eq}
use Rattle.iss_model.specs.declared.account.Account.TheVariants as account
use Rattle.iss_model.specs.declared.account.Part.TheVariants as part
use Rattle.iss_model.specs.declared.currency.Currency.{Currency}
use Rattle.iss_model.specs.declared.decision.Reason.TheVariants as reason
use Rattle.iss_model.specs.declared.decision.Verdict.TheVariants as verdict
use Rattle.iss_model.specs.declared.entry.Entry.{Entry}
use Rattle.iss_model.specs.declared.entry.Entry.TheVariants as entry
use Rattle.iss_model.specs.declared.input.Input.{Input}
use Rattle.iss_model.specs.declared.input.Input.TheVariants as input
use Rattle.iss_model.specs.declared.txn.Txn.{Txn}
use Rattle.iss_model.specs.Currencies.{same_currency}
use Rattle.iss_model.specs.Sums.{cleared_by, paid_by, part_changes, part_key, refunded_by, txn_changes}
use Rattle.iss_model.specs.rules.Activity.{TxnNow}
use Rattle.iss_model.specs.rules.Acts.{Does, Tells, entries_of_acts, refunded}
use Rattle.iss_model.specs.rules.CardActs.{refund_acts}
use Rattle.iss_model.specs.rules.CardReasons.{is_account_funded, passes_cleared, refund_reason}
use Rattle.iss_model.specs.rules.Facts.{next_notice, not_below, txn_in}
use Rattle.iss_model.specs.rules.Pieces.{owed_to_programme, post_entries, user_account}
use Rattle.iss_model.specs.rules.Stepping.{acts_unless, entries_of}
use Rattle.iss_model.specs.state.Cores.{CoreState, core_facts}
use Rattle.iss_model.specs.state.Kept.{kept_at}
use Rattle.iss_model.proofs.Names.{one_name}
use Rattle.iss_acts.proofs.Walk.{own_holds}
use Rattle.iss_states.specs.Fairness.{AreFair, IsFair, changed_among}
use Rattle.iss_states.proofs.FairActs.{even, even_fair, fair_acts, post_even}
use Rattle.iss_states.proofs.FairSums.{LeavesFair, among_append, fair_leaves}

-- what is left of the room, one sentence at a time
abbrev RefundsLeft : CoreState → List ℕ → List Entry → Type 0
RefundsLeft s token es =
    (kept_at s.txn_sums.refunded token +ℤ changed_among (txn_changes refunded_by) token es) ≤ℤ (kept_at s.txn_sums.cleared token +ℤ changed_among (txn_changes cleared_by) token es)

abbrev HoldsLeft : CoreState → List ℕ → List Entry → Type 0
HoldsLeft s token es =
    (kept_at s.holdings.parts (part_key token part.P) +ℤ changed_among part_changes (part_key token part.P) es) ≤ℤ (kept_at s.txn_sums.paid token +ℤ changed_among (txn_changes paid_by) token es)

-- no more is refunded than cleared
abbrev NoneRefunded : List ℕ → List Entry → Type 0
NoneRefunded token es = changed_among (txn_changes refunded_by) token es ≤ℤ changed_among (txn_changes cleared_by) token es

none_then : (token : List ℕ) (xs ys : List Entry) → NoneRefunded token xs → NoneRefunded token ys → NoneRefunded token (xs ++ ys)
none_then token xs ys h k =
    sum (changed_among (txn_changes refunded_by) token (xs ++ ys)) (changed_among (txn_changes cleared_by) token (xs ++ ys)) (changed_among (txn_changes refunded_by) token xs) (changed_among (txn_changes refunded_by) token ys)
    (changed_among (txn_changes cleared_by) token xs) (changed_among (txn_changes cleared_by) token ys) (among_append (txn_changes refunded_by) token xs ys) (among_append (txn_changes cleared_by) token xs ys) h k
  where
    sum : (x y a b c d : ℤ) → x ≡ a +ℤ b → y ≡ c +ℤ d → a ≤ℤ c → b ≤ℤ d → x ≤ℤ y
    sum x y a b c d e f h k = omega (arith, ints, e, f, h, k)

left_then : (a b c d p q x y : ℤ) → x ≡ c +ℤ d → y ≡ p +ℤ q → (a +ℤ c) ≤ℤ (b +ℤ p) → d ≤ℤ q → (a +ℤ x) ≤ℤ (b +ℤ y)
left_then a b c d p q x y e f h k = omega (arith, ints, e, f, h, k)

left_after : (a b c d p q x y : ℤ) → x ≡ c +ℤ d → y ≡ p +ℤ q → c ≤ℤ p → (a +ℤ d) ≤ℤ (b +ℤ q) → (a +ℤ x) ≤ℤ (b +ℤ y)
left_after a b c d p q x y e f h k = omega (arith, ints, e, f, h, k)

module _ (s : CoreState) (token : List ℕ) (fair : IsFair s) where
  refunds_then : (xs ys : List Entry) → RefundsLeft s token xs → NoneRefunded token ys → RefundsLeft s token (xs ++ ys)
  refunds_then xs ys h k =
      left_then (kept_at s.txn_sums.refunded token) (kept_at s.txn_sums.cleared token) (changed_among (txn_changes refunded_by) token xs) (changed_among (txn_changes refunded_by) token ys)
      (changed_among (txn_changes cleared_by) token xs) (changed_among (txn_changes cleared_by) token ys) (changed_among (txn_changes refunded_by) token (xs ++ ys)) (changed_among (txn_changes cleared_by) token (xs ++ ys))
      (among_append (txn_changes refunded_by) token xs ys) (among_append (txn_changes cleared_by) token xs ys) h k

  holds_then : (xs ys : List Entry) → HoldsLeft s token xs → AreFair token ys → HoldsLeft s token (xs ++ ys)
  holds_then xs ys h k =
      left_then (kept_at s.holdings.parts (part_key token part.P)) (kept_at s.txn_sums.paid token) (changed_among part_changes (part_key token part.P) xs) (changed_among part_changes (part_key token part.P) ys)
      (changed_among (txn_changes paid_by) token xs) (changed_among (txn_changes paid_by) token ys) (changed_among part_changes (part_key token part.P) (xs ++ ys)) (changed_among (txn_changes paid_by) token (xs ++ ys))
      (among_append part_changes (part_key token part.P) xs ys) (among_append (txn_changes paid_by) token xs ys) h k.holds

  holds_after : (xs ys : List Entry) → (changed_among part_changes (part_key token part.P) xs ≤ℤ changed_among (txn_changes paid_by) token xs) → HoldsLeft s token ys → HoldsLeft s token (xs ++ ys)
  holds_after xs ys h k =
      left_after (kept_at s.holdings.parts (part_key token part.P)) (kept_at s.txn_sums.paid token) (changed_among part_changes (part_key token part.P) xs) (changed_among part_changes (part_key token part.P) ys)
      (changed_among (txn_changes paid_by) token xs) (changed_among (txn_changes paid_by) token ys) (changed_among part_changes (part_key token part.P) (xs ++ ys)) (changed_among (txn_changes paid_by) token (xs ++ ys))
      (among_append part_changes (part_key token part.P) xs ys) (among_append (txn_changes paid_by) token xs ys) h k

  nothing_left : (a b : ℤ) → a ≤ℤ b → (a +ℤ pos 0) ≤ℤ (b +ℤ pos 0)
  nothing_left a b h = omega (arith, ints, h)

  -- a refund: the room is that of its transaction, and no other one is touched
  refund_room : (t : Txn) (amount : ℕ) → int_lt (kept_at s.txn_sums.cleared t.token) (kept_at s.txn_sums.refunded t.token +ℤ pos amount) ≡ false
      → RefundsLeft s token (post_entries t (account.Network t.currency) (user_account t) amount)
  refund_room t amount room = by (nat_eq amount 0)
    where
      enough : (c r : ℤ) (n : ℕ) → int_lt c (r +ℤ pos n) ≡ false → (r +ℤ ((pos n +ℤ pos 0) +ℤ pos 0)) ≤ℤ (c +ℤ ((pos 0 +ℤ pos 0) +ℤ pos 0))
      enough c r n h = omega (arith, ints, h)

      still : (r c : ℤ) → r ≤ℤ c → (r +ℤ ((pos 0 +ℤ pos 0) +ℤ pos 0)) ≤ℤ (c +ℤ ((pos 0 +ℤ pos 0) +ℤ pos 0))
      still r c h = omega (arith, ints, h)

      at : (b : Bool) → bytes_eq t.token token ≡ b
          → (kept_at s.txn_sums.refunded token +ℤ ((cond b (pos amount) (pos 0) +ℤ pos 0) +ℤ pos 0)) ≤ℤ (kept_at s.txn_sums.cleared token +ℤ ((cond b (pos 0) (pos 0) +ℤ pos 0) +ℤ pos 0))
      at true e =
          enough (kept_at s.txn_sums.cleared token) (kept_at s.txn_sums.refunded token) amount
          (subst (λ (k : List ℕ). int_lt (kept_at s.txn_sums.cleared k) (kept_at s.txn_sums.refunded k +ℤ pos amount) ≡ false) (one_name t.token token e) room)
      at false e = still (kept_at s.txn_sums.refunded token) (kept_at s.txn_sums.cleared token) (fair.refunds token)

      by : (z : Bool) → RefundsLeft s token (cond z [] (entry.Post (account.Network t.currency) (user_account t) amount (Some t.token) ∷ []))
      by true = nothing_left (kept_at s.txn_sums.refunded token) (kept_at s.txn_sums.cleared token) (fair.refunds token)
      by false = at (bytes_eq t.token token) refl

  -- what the programme gets back is at most what it is owed
  owed_room : (pd p : ℤ) (amount : ℕ) → p ≤ℤ pd → (p +ℤ (pos 0 +ℤ pos 0)) ≤ℤ (pd +ℤ ((neg_ℤ (pos (min amount (not_below (pd -ℤ pos (not_below p))))) +ℤ pos 0) +ℤ pos 0))
  owed_room pd (pos k) amount h = by (pd -ℤ pos k) refl
    where
      by : (z : ℤ) → pd -ℤ pos k ≡ z → (pos k +ℤ (pos 0 +ℤ pos 0)) ≤ℤ (pd +ℤ ((neg_ℤ (pos (min amount (not_below z))) +ℤ pos 0) +ℤ pos 0))
      by (pos m) e = omega (arith, ints, e, h)
      by (negsuc m) e = omega (arith, ints, e, h)
  owed_room pd (negsuc k) amount h = by (pd -ℤ pos 0) refl
    where
      by : (z : ℤ) → pd -ℤ pos 0 ≡ z → (negsuc k +ℤ (pos 0 +ℤ pos 0)) ≤ℤ (pd +ℤ ((neg_ℤ (pos (min amount (not_below z))) +ℤ pos 0) +ℤ pos 0))
      by (pos m) e = omega (arith, ints, e, h)
      by (negsuc m) e = omega (arith, ints, e, h)

  given_back : (t : Txn) (amount : ℕ)
      → HoldsLeft s token (post_entries t (user_account t) (account.Programme t.currency) (min amount (owed_to_programme (core_facts s) t)))
  given_back t amount = by (nat_eq (min amount (owed_to_programme (core_facts s) t)) 0)
    where
      still : (p pd : ℤ) → p ≤ℤ pd → (p +ℤ (pos 0 +ℤ pos 0)) ≤ℤ (pd +ℤ ((pos 0 +ℤ pos 0) +ℤ pos 0))
      still p pd h = omega (arith, ints, h)

      paid : List ℕ → ℤ
      paid k = kept_at s.txn_sums.paid k

      held : List ℕ → ℤ
      held k = kept_at s.holdings.parts (part_key k part.P)

      at : (b : Bool) → bytes_eq t.token token ≡ b
          → (held token +ℤ (pos 0 +ℤ pos 0)) ≤ℤ (paid token +ℤ ((cond b (neg_ℤ (pos (min amount (not_below (paid t.token -ℤ pos (not_below (held t.token))))))) (pos 0) +ℤ pos 0) +ℤ pos 0))
      at true e =
          subst (λ (k : List ℕ). (held token +ℤ (pos 0 +ℤ pos 0)) ≤ℤ (paid token +ℤ ((neg_ℤ (pos (min amount (not_below (paid k -ℤ pos (not_below (held k)))))) +ℤ pos 0) +ℤ pos 0)))
          (sym (one_name t.token token e)) (owed_room (paid token) (held token) amount (fair.holds token))
      at false e = still (held token) (paid token) (fair.holds token)

      by : (z : Bool) → HoldsLeft s token (cond z [] (entry.Post (user_account t) (account.Programme t.currency) (min amount (owed_to_programme (core_facts s) t)) (Some t.token) ∷ []))
      by true = nothing_left (kept_at s.holdings.parts (part_key token part.P)) (kept_at s.txn_sums.paid token) (fair.holds token)
      by false = at (bytes_eq t.token token) refl

  -- the programme's post by itself refunds nothing
  back_refunds : (t : Txn) (n : ℕ) → changed_among (txn_changes refunded_by) token (post_entries t (user_account t) (account.Programme t.currency) n) ≤ℤ changed_among (txn_changes cleared_by) token (post_entries t (user_account t) (account.Programme t.currency) n)
  back_refunds t n = by (nat_eq n 0)
    where
      none : (b : Bool) → ((cond b (pos 0) (pos 0) +ℤ pos 0) +ℤ pos 0) ≤ℤ ((cond b (pos 0) (pos 0) +ℤ pos 0) +ℤ pos 0)
      none true = omega (arith, ints)
      none false = omega (arith, ints)

      zero_least : pos 0 ≤ℤ pos 0
      zero_least = omega (arith, ints)

      by : (z : Bool)
          → changed_among (txn_changes refunded_by) token (cond z [] (entry.Post (user_account t) (account.Programme t.currency) n (Some t.token) ∷ []))
          ≤ℤ changed_among (txn_changes cleared_by) token (cond z [] (entry.Post (user_account t) (account.Programme t.currency) n (Some t.token) ∷ []))
      by true = zero_least
      by false = none (bytes_eq t.token token)

  refunded_alone : (t : Txn) (n : ℕ)
      → changed_among part_changes (part_key token part.P) (post_entries t (account.Network t.currency) (user_account t) n) ≤ℤ changed_among (txn_changes paid_by) token (post_entries t (account.Network t.currency) (user_account t) n)
  refunded_alone t n = by (nat_eq n 0)
    where
      none : (b : Bool) → (pos 0 +ℤ pos 0) ≤ℤ ((cond b (pos 0) (pos 0) +ℤ pos 0) +ℤ pos 0)
      none true = omega (arith, ints)
      none false = omega (arith, ints)

      zero_least : pos 0 ≤ℤ pos 0
      zero_least = omega (arith, ints)

      by : (z : Bool)
          → changed_among part_changes (part_key token part.P) (cond z [] (entry.Post (account.Network t.currency) (user_account t) n (Some t.token) ∷ []))
          ≤ℤ changed_among (txn_changes paid_by) token (cond z [] (entry.Post (account.Network t.currency) (user_account t) n (Some t.token) ∷ []))
      by true = zero_least
      by false = none (bytes_eq t.token token)

  -- a refund for which there is room
  refund_leaves : (t : Txn) (event : List ℕ) (amount : ℕ) (live : Bool) → int_lt (kept_at s.txn_sums.cleared t.token) (kept_at s.txn_sums.refunded t.token +ℤ pos amount) ≡ false
      → LeavesFair s token (entries_of_acts (refund_acts (core_facts s) event amount (Some (record { txn = t; live = live }))))
  refund_leaves t event amount live room = by (is_account_funded t.funding)
    where
      n : ℕ
      n = min amount (owed_to_programme (core_facts s) t)

      first : List Entry
      first = post_entries t (account.Network t.currency) (user_account t) amount

      back : List Entry
      back = post_entries t (user_account t) (account.Programme t.currency) n

      rest : List Entry
      rest = post_entries t (user_account t) (account.Gateway t.currency) (amount - n)

      rest_fair : AreFair token rest
      rest_fair = even_fair (post_even t (user_account t) (account.Gateway t.currency) (amount - n) refl)

      by : (own : Bool)
          → LeavesFair s token
          ((first ++ cond own [] (back ++ rest)) ++ entries_of_acts (cond own [] (Tells (next_notice (core_facts s)) refunded t amount (amount - n) ∷ []) ++ Does event ∷ []))
      by true =
          let done : List Entry = entries_of_acts (Does event ∷ []) in
          let done_fair : AreFair token done = even refl in
          record {
            refunds = refunds_then (first ++ []) done (refunds_then first [] (refund_room t amount room) (even {token = token} {es = []} refl).refunds) done_fair.refunds;
            holds = holds_then (first ++ []) done (holds_after first [] (refunded_alone t amount) (nothing_left (kept_at s.holdings.parts (part_key token part.P)) (kept_at s.txn_sums.paid token) (fair.holds token))) done_fair;
          }
      by false =
          let told : List Entry = entries_of_acts (Tells (next_notice (core_facts s)) refunded t amount (amount - n) ∷ Does event ∷ []) in
          let told_fair : AreFair token told = even refl in
          record {
            refunds = refunds_then (first ++ (back ++ rest)) told (refunds_then first (back ++ rest) (refund_room t amount room) (none_then token back rest (back_refunds t n) rest_fair.refunds)) told_fair.refunds;
            holds = holds_then (first ++ (back ++ rest)) told (holds_after first (back ++ rest) (refunded_alone t amount) (holds_then back rest (given_back t amount) rest_fair)) told_fair;
          }

  refund_judged : (o : Option TxnNow) (event : List ℕ) (currency : Currency) (amount : ℕ)
      → LeavesFair s token (entries_of_acts (acts_unless (refund_reason (core_facts s) o currency amount) event (refund_acts (core_facts s) event amount o)))
  refund_judged None event currency amount = fair_leaves s token (entry.Decided event (verdict.Declined reason.TxnUnknown) ∷ []) fair (even refl)
  refund_judged (Some now) event currency amount = by (not (same_currency now.txn.currency currency)) (passes_cleared (core_facts s) amount now) refl
    where
      by : (other over : Bool) → passes_cleared (core_facts s) amount now ≡ over
          → LeavesFair s token (entries_of_acts (acts_unless (cond other (Some reason.Currency) (cond over (Some reason.RefundOver) None)) event (refund_acts (core_facts s) event amount (Some now))))
      by true over e = fair_leaves s token (entry.Decided event (verdict.Declined reason.Currency) ∷ []) fair (even refl)
      by false true e = fair_leaves s token (entry.Decided event (verdict.Declined reason.RefundOver) ∷ []) fair (even refl)
      by false false e = refund_leaves now.txn event amount now.live e

-- what an input makes leaves a fair state fair
pub own_leaves : (s : CoreState) (token : List ℕ) (i : Input) (at : ℕ) → IsFair s → LeavesFair s token (entries_of i at (core_facts s))
own_leaves s token (input.Refund event txn currency amount) at fair = refund_judged s token fair (txn_in (core_facts s) txn) event currency amount
own_leaves s token i at fair = fair_leaves s token (entries_of i at (core_facts s)) fair (own_holds (core_facts s) i at (fair_acts token (λ t amount. refl)))
