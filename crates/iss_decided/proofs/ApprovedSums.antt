-- What entries approve of a transaction, and hold and pay for it: if each list of them does no more than it approves, neither does a core.
use Rattle.std.proofs.Common.{◌≡◌, ◌∙◌, ◌++◌, ◌∷◌, ◌+◌, ◌+ℤ◌, ◌≤ℤ◌, ◌≤◌, ℕ, ℤ, pos, ap, arith, Bool, cond, false, fold, inl, inr, List, [], refl, subst, sym, true}
use Rattle.std.specs.Prelude.{Option, Some, None}
use Rattle.std.specs.Option.{option_or}
use Rattle.std.specs.Str.{bytes_eq}
use Rattle.std.proofs.lemmas.Int.{ints}
use Rattle.iss_model.specs.declared.account.Part.{Part}
use Rattle.iss_model.specs.declared.account.Part.TheVariants as part
use Rattle.iss_model.specs.declared.decision.Verdict.{Verdict}
use Rattle.iss_model.specs.declared.entry.Entry.{Entry}
use Rattle.iss_model.specs.declared.entry.Entry.TheVariants as entry
use Rattle.iss_model.specs.declared.input.Input.{Input}
use Rattle.iss_model.specs.declared.input.Input.TheVariants as input
use Rattle.iss_model.specs.declared.setting.Moved.TheVariants as moved
use Rattle.iss_model.specs.Sums.{changed_at, cleared_by, paid_by, part_changes, part_key, txn_changes}
use Rattle.iss_model.specs.rules.Facts.{Accepted, Decision, verdict_in}
use Rattle.iss_model.specs.state.Cores.{CoreState, after_entry, after_setting}
use Rattle.iss_model.specs.state.Kept.{Kept, kept_at}
use Rattle.iss_model.proofs.KeptSums.{kept_at-after_changes}
use Rattle.iss_model.proofs.Names.{one_name}
use Rattle.iss_state.specs.Allowed.{IsAllowed}
use Rattle.iss_state.specs.Dockets.{docket_of}
use Rattle.iss_state.specs.Holdings.{part_sum}
use Rattle.iss_state.specs.Pending.{AreAllowed}
use Rattle.iss_state.proofs.held.Changes.{begun_sum}
use Rattle.iss_state.proofs.invariants.Kept.{entries_accepted}
use Rattle.iss_states.specs.Again.{amount_of_event}
use Rattle.iss_states.specs.Fairness.{changed_among}
use Rattle.iss_states.specs.Showing.{token_of_event}
use Rattle.iss_states.proofs.Decided.{found_last, setting_decisions}
use Rattle.iss_states.proofs.FairSums.{among_append, entries_sum, entry_cleared, entry_paid}
use Rattle.iss_states.proofs.SetSteps.{undecided_verdict}
use Rattle.iss_decided.specs.Approved.{approved_amount, approved_for, is_ask_of}
use Rattle.iss_decided.proofs.AskedEvents.{WasAsked}
use Rattle.iss_decided.proofs.UnpaidActs.{paid_among}
use Rattle.iss_decided.proofs.UnpaidSteps.{paid_in}

-- what is approved ----

-- what these decisions approved of a transaction among accepted events
abbrev pub approved_in : List ℕ → List Decision → List Accepted → ℕ
approved_in token ds [] = 0
approved_in token ds (a ∷ xs) = approved_for token (verdict_in ds (token_of_event a)) a.input + approved_in token ds xs

-- what one verdict approves of it
abbrev pub approved_by : List ℕ → List ℕ → Verdict → List Accepted → ℕ
approved_by token event v [] = 0
approved_by token event v (a ∷ xs) = cond (bytes_eq event (token_of_event a)) (approved_for token (Some v) a.input) 0 + approved_by token event v xs

abbrev pub approved_more : List ℕ → List Accepted → Entry → ℕ
approved_more token xs (entry.Decided event v) = approved_by token event v xs
approved_more token xs _ = 0

-- what entries approve of it
abbrev pub approved_among : List ℕ → List Accepted → List Entry → ℕ
approved_among token xs [] = 0
approved_among token xs (e ∷ es) = approved_more token xs e + approved_among token xs es

pub approved_append : (token : List ℕ) (xs : List Accepted) (es fs : List Entry) → approved_among token xs (es ++ fs) ≡ approved_among token xs es + approved_among token xs fs
approved_append token xs [] fs = none (approved_among token xs fs)
  where
    none : (n : ℕ) → n ≡ 0 + n
    none n = omega arith
approved_append token xs (e ∷ es) fs = more (approved_more token xs e) (approved_among token xs es) (approved_among token xs fs) (approved_among token xs (es ++ fs)) (approved_append token xs es fs)
  where
    more : (m n k z : ℕ) → z ≡ n + k → m + z ≡ (m + n) + k
    more m n k z e = omega (arith, e)

nothing_more : (n : ℕ) → n ≡ n + 0
nothing_more n = omega arith

decided_more : (token event : List ℕ) (v : Verdict) (ds : List Decision) (xs : List Accepted) → verdict_in ds event ≡ None
    → approved_in token (ds ++ record { event = event; verdict = v } ∷ []) xs ≡ approved_in token ds xs + approved_by token event v xs
decided_more token event v ds [] fresh = refl
decided_more token event v ds (a ∷ xs) fresh =
    ap (λ (o : Option Verdict). approved_for token o a.input + approved_in token (ds ++ record { event = event; verdict = v } ∷ []) xs) (found_last ds (record { event = event; verdict = v }) (token_of_event a))
    ∙ sum (approved_for token (option_or (verdict_in ds (token_of_event a)) (cond (bytes_eq event (token_of_event a)) (Some v) None)) a.input) (approved_for token (verdict_in ds (token_of_event a)) a.input)
    (cond (bytes_eq event (token_of_event a)) (approved_for token (Some v) a.input) 0) (approved_in token (ds ++ record { event = event; verdict = v } ∷ []) xs) (approved_in token ds xs) (approved_by token event v xs)
    (one (bytes_eq event (token_of_event a)) refl) (decided_more token event v ds xs fresh)
  where
    sum : (x y z p q r : ℕ) → x ≡ y + z → p ≡ q + r → x + p ≡ (y + q) + (z + r)
    sum x y z p q r e f = omega (arith, e, f)

    no_verdict : (b : Bool) (n : ℕ) → n ≡ cond b 0 0 + n
    no_verdict true n = omega arith
    no_verdict false n = omega arith

    first : (o : Option Verdict) → o ≡ None → approved_for token (option_or o (Some v)) a.input ≡ approved_for token o a.input + approved_for token (Some v) a.input
    first None e = no_verdict (is_ask_of token a.input) (approved_for token (Some v) a.input)
    first (Some w) e = cc

    as_before : (o : Option Verdict) → approved_for token (option_or o None) a.input ≡ approved_for token o a.input + 0
    as_before None = nothing_more (approved_for token None a.input)
    as_before (Some w) = nothing_more (approved_for token (Some w) a.input)

    one : (b : Bool) → bytes_eq event (token_of_event a) ≡ b
        → approved_for token (option_or (verdict_in ds (token_of_event a)) (cond b (Some v) None)) a.input ≡ approved_for token (verdict_in ds (token_of_event a)) a.input + cond b (approved_for token (Some v) a.input) 0
    one true e = first (verdict_in ds (token_of_event a)) (ap (verdict_in ds) (sym (one_name event (token_of_event a) e)) ∙ fresh)
    one false e = as_before (verdict_in ds (token_of_event a))

entry_approved : (token : List ℕ) (s : CoreState) (e : Entry) (xs : List Accepted) → IsAllowed (docket_of s) e → approved_in token (after_entry s e).decisions xs ≡ approved_in token s.decisions xs + approved_more token xs e
entry_approved token s (entry.Conf i) xs may = ap (λ (ds : List Decision). approved_in token ds xs) (setting_decisions s i) ∙ nothing_more (approved_in token s.decisions xs)
entry_approved token s (entry.Decided event v) xs may = decided_more token event v s.decisions xs (undecided_verdict s.decisions event may.undecided)
entry_approved token s _ xs may = nothing_more (approved_in token s.decisions xs)

pub entries_approved : (token : List ℕ) (s : CoreState) (es : List Entry) (xs : List Accepted) → AreAllowed s es
    → approved_in token (fold after_entry s es).decisions xs ≡ approved_in token s.decisions xs + approved_among token xs es
entries_approved token s [] xs may = nothing_more (approved_in token s.decisions xs)
entries_approved token s (e ∷ es) xs may =
    sum (approved_in token (fold after_entry (after_entry s e) es).decisions xs) (approved_in token (after_entry s e).decisions xs) (approved_in token s.decisions xs) (approved_more token xs e) (approved_among token xs es)
    (entries_approved token (after_entry s e) es xs may.1) (entry_approved token s e xs may.0)
  where
    sum : (x y z p q : ℕ) → x ≡ y + q → y ≡ z + p → x ≡ z + (p + q)
    sum x y z p q e f = omega (arith, e, f)

-- more events approve no less
pub approved_grows : (token : List ℕ) (ds : List Decision) (xs ys : List Accepted) → approved_in token ds xs ≤ approved_in token ds (xs ++ ys)
approved_grows token ds [] ys = least (approved_in token ds ys)
  where
    least : (n : ℕ) → 0 ≤ n
    least n = omega arith
approved_grows token ds (a ∷ xs) ys = more (approved_for token (verdict_in ds (token_of_event a)) a.input) (approved_in token ds xs) (approved_in token ds (xs ++ ys)) (approved_grows token ds xs ys)
  where
    more : (m n k : ℕ) → n ≤ k → m + n ≤ m + k
    more m n k h = omega (arith, h)

-- what was asked for is approved by a verdict that says so
pub asked_approved : (token event txn : List ℕ) (amount n : ℕ) (v : Verdict) → ((i : Input) → amount_of_event i ≡ amount → approved_amount (Some v) i ≡ n) → (xs : List Accepted) → WasAsked xs event txn amount
    → cond (bytes_eq txn token) n 0 ≤ approved_by token event v xs
asked_approved token event txn amount n v worth [] h = absurd h
asked_approved token event txn amount n v worth (a ∷ xs) (inr h) = later (cond (bytes_eq event (token_of_event a)) (approved_for token (Some v) a.input) 0) (cond (bytes_eq txn token) n 0) (approved_by token event v xs) (asked_approved token event txn amount n v worth xs h)
  where
    later : (m k z : ℕ) → k ≤ z → k ≤ m + z
    later m k z h = omega (arith, h)
asked_approved token event txn amount n v worth (a ∷ xs) (inl h) =
    now (cond (bytes_eq event (token_of_event a)) (approved_for token (Some v) a.input) 0) (approved_for token (Some v) a.input) (cond (bytes_eq txn token) n 0) (approved_by token event v xs)
    (ap (λ (b : Bool). cond b (approved_for token (Some v) a.input) 0) h.its) (by (bytes_eq txn token) refl)
  where
    now : (x y k z : ℕ) → x ≡ y → k ≤ y → k ≤ x + z
    now x y k z e h = omega (arith, e, h)

    same : (k y : ℕ) → k ≡ y → y ≤ k
    same k y e = omega (arith, e)

    least : (n : ℕ) → 0 ≤ n
    least n = omega arith

    by : (b : Bool) → bytes_eq txn token ≡ b → cond b n 0 ≤ approved_for token (Some v) a.input
    by false e = least (approved_for token (Some v) a.input)
    by true e =
        same (approved_for token (Some v) a.input) n
        (ap (λ (b : Bool). cond b (approved_amount (Some v) a.input) 0) (subst (λ (k : List ℕ). is_ask_of k a.input ≡ true) (one_name txn token e) h.of_txn) ∙ worth a.input h.asks)

-- what is held and paid ----

-- what entries hold more for a transaction, in all parts
abbrev pub held_among : List ℕ → List Entry → ℤ
held_among token es = (changed_among part_changes (part_key token part.G) es +ℤ changed_among part_changes (part_key token part.P) es) +ℤ changed_among part_changes (part_key token part.S) es

-- what entries clear of it
abbrev pub cleared_among : List ℕ → List Entry → ℤ
cleared_among token es = changed_among (txn_changes cleared_by) token es

-- Entries hold no more for a transaction than they approve, and pay no more for it from the programme than they approve and clear.
pub record IsApproved (token : List ℕ) (xs : List Accepted) (es : List Entry) : Type 0 where
  pub held : held_among token es ≤ℤ pos (approved_among token xs es)
  pub paid : paid_among token es ≤ℤ (pos (approved_among token xs es) +ℤ cleared_among token es)

-- what entries hold more in a part
abbrev pub part_among : Part → List ℕ → List Entry → ℤ
part_among p token es = changed_among part_changes (part_key token p) es

held_sum : (g p s a b c d e f : ℤ) (n m k : ℕ) → g ≡ a +ℤ b → p ≡ c +ℤ d → s ≡ e +ℤ f → n ≡ m + k → ((a +ℤ c) +ℤ e) ≤ℤ pos m → ((b +ℤ d) +ℤ f) ≤ℤ pos k → ((g +ℤ p) +ℤ s) ≤ℤ pos n
held_sum g p s a b c d e f n m k e1 e2 e3 e4 h l = omega (arith, ints, e1, e2, e3, e4, h, l)

paid_sum : (x y a b c d : ℤ) (n m k : ℕ) → x ≡ a +ℤ b → y ≡ c +ℤ d → n ≡ m + k → a ≤ℤ (pos m +ℤ c) → b ≤ℤ (pos k +ℤ d) → x ≤ℤ (pos n +ℤ y)
paid_sum x y a b c d n m k e1 e2 e3 h l = omega (arith, ints, e1, e2, e3, h, l)

pub both_approved : {token : List ℕ} {xs : List Accepted} {es fs : List Entry} → IsApproved token xs es → IsApproved token xs fs → IsApproved token xs (es ++ fs)
both_approved {token} {xs} {es} {fs} h k =
    record {
      held =
          held_sum (part_among part.G token (es ++ fs)) (part_among part.P token (es ++ fs)) (part_among part.S token (es ++ fs))
          (part_among part.G token es) (part_among part.G token fs) (part_among part.P token es) (part_among part.P token fs) (part_among part.S token es) (part_among part.S token fs)
          (approved_among token xs (es ++ fs)) (approved_among token xs es) (approved_among token xs fs)
          (among_append part_changes (part_key token part.G) es fs) (among_append part_changes (part_key token part.P) es fs) (among_append part_changes (part_key token part.S) es fs)
          (approved_append token xs es fs) h.held k.held;
      paid =
          paid_sum (paid_among token (es ++ fs)) (cleared_among token (es ++ fs)) (paid_among token es) (paid_among token fs) (cleared_among token es) (cleared_among token fs)
          (approved_among token xs (es ++ fs)) (approved_among token xs es) (approved_among token xs fs)
          (among_append (txn_changes paid_by) token es fs) (among_append (txn_changes cleared_by) token es fs) (approved_append token xs es fs) h.paid k.paid;
    }

-- a core ----

-- what is held for a transaction, in all parts
abbrev pub held_in : CoreState → List ℕ → ℤ
held_in c token = (part_sum c.holdings.parts token part.G +ℤ part_sum c.holdings.parts token part.P) +ℤ part_sum c.holdings.parts token part.S

-- No transaction holds more than it was approved for. The programme has paid no more for it than that and what was cleared.
pub record HoldsApproved (c : CoreState) : Type 0 where
  pub held : (token : List ℕ) → held_in c token ≤ℤ pos (approved_in token c.decisions c.accepted)
  pub paid : (token : List ℕ) → paid_in c token ≤ℤ (pos (approved_in token c.decisions c.accepted) +ℤ kept_at c.txn_sums.cleared token)

unchanged : (z : ℤ) → z ≡ z +ℤ pos 0
unchanged z = omega (arith, ints)

setting_parts : (s : CoreState) (i : Input) → (after_setting s i).holdings.parts ≡ s.holdings.parts
setting_parts s (input.Move token (moved.Card card to)) = refl
setting_parts s (input.Move token (moved.User user to)) = refl
setting_parts s _ = refl

entry_part : (s : CoreState) (e : Entry) (key : List ℕ) → kept_at (after_entry s e).holdings.parts key ≡ kept_at s.holdings.parts key +ℤ changed_at key (part_changes e)
entry_part s (entry.Conf i) key = ap (λ (x : Kept). kept_at x key) (setting_parts s i) ∙ unchanged (kept_at s.holdings.parts key)
entry_part s (entry.Began t) key = begun_sum s.holdings.parts t key ∙ unchanged (kept_at s.holdings.parts key)
entry_part s (entry.Hold txn user currency p amount) key = kept_at-after_changes s.holdings.parts (part_changes (entry.Hold txn user currency p amount)) key
entry_part s _ key = unchanged (kept_at s.holdings.parts key)

pub entries_hold_approved : (s : CoreState) (es : List Entry) → AreAllowed s es → ((token : List ℕ) → IsApproved token s.accepted es) → HoldsApproved s → HoldsApproved (fold after_entry s es)
entries_hold_approved s es may more h =
    record {
      held = λ token.
          held_sum (part_sum w.holdings.parts token part.G) (part_sum w.holdings.parts token part.P) (part_sum w.holdings.parts token part.S)
          (part_sum s.holdings.parts token part.G) (part_among part.G token es) (part_sum s.holdings.parts token part.P) (part_among part.P token es) (part_sum s.holdings.parts token part.S) (part_among part.S token es)
          (approved_in token w.decisions w.accepted) (approved_in token s.decisions s.accepted) (approved_among token s.accepted es)
          (part_at token part.G) (part_at token part.P) (part_at token part.S) (approved token) (h.held token) (more token).held;
      paid = λ token.
          paid_sum (paid_in w token) (kept_at w.txn_sums.cleared token) (paid_in s token) (paid_among token es) (kept_at s.txn_sums.cleared token) (cleared_among token es)
          (approved_in token w.decisions w.accepted) (approved_in token s.decisions s.accepted) (approved_among token s.accepted es)
          (entries_sum paid_in (txn_changes paid_by) entry_paid s es token) (cleared_at token) (approved token) (h.paid token) (more token).paid;
    }
  where
    w : CoreState
    w = fold after_entry s es

    part_at : (token : List ℕ) (p : Part) → part_sum (fold after_entry s es).holdings.parts token p ≡ part_sum s.holdings.parts token p +ℤ changed_among part_changes (part_key token p) es
    part_at token p = entries_sum (λ (c : CoreState) (k : List ℕ). kept_at c.holdings.parts k) part_changes entry_part s es (part_key token p)

    cleared_at : (token : List ℕ) → kept_at (fold after_entry s es).txn_sums.cleared token ≡ kept_at s.txn_sums.cleared token +ℤ changed_among (txn_changes cleared_by) token es
    cleared_at token = entries_sum (λ (c : CoreState) (k : List ℕ). kept_at c.txn_sums.cleared k) (txn_changes cleared_by) entry_cleared s es token

    approved : (token : List ℕ) → approved_in token (fold after_entry s es).decisions (fold after_entry s es).accepted ≡ approved_in token s.decisions s.accepted + approved_among token s.accepted es
    approved token = ap (approved_in token (fold after_entry s es).decisions) (entries_accepted s es) ∙ entries_approved token s es s.accepted may
