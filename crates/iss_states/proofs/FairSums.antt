-- What entries change of kept sums, and that fair entries keep a fair state so.
use Rattle.std.proofs.Common.{◌≡◌, ℕ, ℤ, pos, ◌+ℤ◌, ◌≤ℤ◌, Bool, true, false, cond, List, [], ◌∷◌, ◌++◌, fold, refl, ap, ◌∙◌, arith}
use Rattle.std.proofs.lemmas.Int.{ints}
use Rattle.iss_model.specs.declared.account.Part.TheVariants as part
use Rattle.iss_model.specs.declared.entry.Entry.{Entry}
use Rattle.iss_model.specs.declared.entry.Entry.TheVariants as entry
use Rattle.iss_model.specs.declared.input.Input.{Input}
use Rattle.iss_model.specs.declared.input.Input.TheVariants as input
use Rattle.iss_model.specs.declared.setting.Moved.TheVariants as moved
use Rattle.iss_model.specs.declared.txn.Txn.{Txn}
use Rattle.std.specs.Str.{bytes_eq}
use Rattle.iss_model.specs.Sums.{Change, changed_at, part_key, part_changes, txn_changes, cleared_by, refunded_by, paid_by}
use Rattle.iss_model.specs.state.Cores.{CoreState, SumsByTxn, after_entry, after_setting, begun_part_changes}
use Rattle.iss_model.specs.state.Kept.{Kept, kept_at, after_changes}
use Rattle.iss_model.proofs.KeptSums.{kept_at-after_changes}
use Rattle.iss_states.specs.Fairness.{AreFair, IsFair, changed_among}

pub among_append : (f : Entry → List Change) (key : List ℕ) (xs ys : List Entry) → changed_among f key (xs ++ ys) ≡ changed_among f key xs +ℤ changed_among f key ys
among_append f key [] ys = omega (arith, ints)
among_append f key (x ∷ xs) ys =
    ap (λ (z : ℤ). changed_at key (f x) +ℤ z) (among_append f key xs ys) ∙ regroup (changed_at key (f x)) (changed_among f key xs) (changed_among f key ys)
  where
    regroup : (a b c : ℤ) → a +ℤ (b +ℤ c) ≡ (a +ℤ b) +ℤ c
    regroup a b c = omega (arith, ints)

-- fair lists in a row are fair
pub both_fair : {token : List ℕ} {xs ys : List Entry} → AreFair token xs → AreFair token ys → AreFair token (xs ++ ys)
both_fair {token} {xs} {ys} h k =
    record {
      refunds = sum (changed_among (txn_changes refunded_by) token (xs ++ ys)) (changed_among (txn_changes cleared_by) token (xs ++ ys)) (among_append (txn_changes refunded_by) token xs ys) (among_append (txn_changes cleared_by) token xs ys) h.refunds k.refunds;
      holds = sum (changed_among part_changes (part_key token part.P) (xs ++ ys)) (changed_among (txn_changes paid_by) token (xs ++ ys)) (among_append part_changes (part_key token part.P) xs ys) (among_append (txn_changes paid_by) token xs ys) h.holds k.holds;
    }
  where
    sum : (x y : ℤ) {a b c d : ℤ} → x ≡ a +ℤ b → y ≡ c +ℤ d → a ≤ℤ c → b ≤ℤ d → x ≤ℤ y
    sum x y e f h k = omega (arith, ints, e, f, h, k)

pub either_fair : {token : List ℕ} (b : Bool) {xs ys : List Entry} → AreFair token xs → AreFair token ys → AreFair token (cond b xs ys)
either_fair true h k = h
either_fair false h k = k

-- what one entry does to each sum is its change there ----

setting_sums : (s : CoreState) (i : Input) → (after_setting s i).txn_sums ≡ s.txn_sums
setting_sums s (input.Move token (moved.Card card to)) = refl
setting_sums s (input.Move token (moved.User user to)) = refl
setting_sums s _ = refl

setting_parts : (s : CoreState) (i : Input) → (after_setting s i).holdings.parts ≡ s.holdings.parts
setting_parts s (input.Move token (moved.Card card to)) = refl
setting_parts s (input.Move token (moved.User user to)) = refl
setting_parts s _ = refl

nothing_more : (z : ℤ) → z ≡ z +ℤ pos 0
nothing_more z = omega (arith, ints)

-- a transaction that begins changes no sum
begun_parts : (s : Kept) (t : Txn) (key : List ℕ) → kept_at (after_changes s (begun_part_changes t)) key ≡ kept_at s key +ℤ pos 0
begun_parts s t key =
    kept_at-after_changes s (begun_part_changes t) key
    ∙ ap (λ (z : ℤ). kept_at s key +ℤ z) (none (bytes_eq (part_key t.token part.G) key) (bytes_eq (part_key t.token part.P) key) (bytes_eq (part_key t.token part.S) key))
  where
    none : (a b c : Bool) → cond a (pos 0) (pos 0) +ℤ (cond b (pos 0) (pos 0) +ℤ (cond c (pos 0) (pos 0) +ℤ pos 0)) ≡ pos 0
    none true true true = refl
    none true true false = refl
    none true false true = refl
    none true false false = refl
    none false true true = refl
    none false true false = refl
    none false false true = refl
    none false false false = refl

pub entry_cleared : (s : CoreState) (e : Entry) (key : List ℕ) → kept_at (after_entry s e).txn_sums.cleared key ≡ kept_at s.txn_sums.cleared key +ℤ changed_at key (txn_changes cleared_by e)
entry_cleared s (entry.Conf i) key = ap (λ (x : SumsByTxn). kept_at x.cleared key) (setting_sums s i) ∙ nothing_more (kept_at s.txn_sums.cleared key)
entry_cleared s (entry.Post from to amount txn) key = kept_at-after_changes s.txn_sums.cleared (txn_changes cleared_by (entry.Post from to amount txn)) key
entry_cleared s _ key = nothing_more (kept_at s.txn_sums.cleared key)

pub entry_refunded : (s : CoreState) (e : Entry) (key : List ℕ) → kept_at (after_entry s e).txn_sums.refunded key ≡ kept_at s.txn_sums.refunded key +ℤ changed_at key (txn_changes refunded_by e)
entry_refunded s (entry.Conf i) key = ap (λ (x : SumsByTxn). kept_at x.refunded key) (setting_sums s i) ∙ nothing_more (kept_at s.txn_sums.refunded key)
entry_refunded s (entry.Post from to amount txn) key = kept_at-after_changes s.txn_sums.refunded (txn_changes refunded_by (entry.Post from to amount txn)) key
entry_refunded s _ key = nothing_more (kept_at s.txn_sums.refunded key)

pub entry_paid : (s : CoreState) (e : Entry) (key : List ℕ) → kept_at (after_entry s e).txn_sums.paid key ≡ kept_at s.txn_sums.paid key +ℤ changed_at key (txn_changes paid_by e)
entry_paid s (entry.Conf i) key = ap (λ (x : SumsByTxn). kept_at x.paid key) (setting_sums s i) ∙ nothing_more (kept_at s.txn_sums.paid key)
entry_paid s (entry.Post from to amount txn) key = kept_at-after_changes s.txn_sums.paid (txn_changes paid_by (entry.Post from to amount txn)) key
entry_paid s _ key = nothing_more (kept_at s.txn_sums.paid key)

entry_parts : (s : CoreState) (e : Entry) (key : List ℕ) → kept_at (after_entry s e).holdings.parts key ≡ kept_at s.holdings.parts key +ℤ changed_at key (part_changes e)
entry_parts s (entry.Conf i) key = ap (λ (x : Kept). kept_at x key) (setting_parts s i) ∙ nothing_more (kept_at s.holdings.parts key)
entry_parts s (entry.Began t) key = begun_parts s.holdings.parts t key
entry_parts s (entry.Hold txn user currency p amount) key = kept_at-after_changes s.holdings.parts (part_changes (entry.Hold txn user currency p amount)) key
entry_parts s _ key = nothing_more (kept_at s.holdings.parts key)

-- and so what entries do ----

module _ (sum : CoreState → List ℕ → ℤ) (changes : Entry → List Change) (each : (s : CoreState) (e : Entry) (key : List ℕ) → sum (after_entry s e) key ≡ sum s key +ℤ changed_at key (changes e)) where
  pub entries_sum : (s : CoreState) (es : List Entry) (key : List ℕ) → sum (fold after_entry s es) key ≡ sum s key +ℤ changed_among changes key es
  entries_sum s [] key = nothing_more (sum s key)
  entries_sum s (e ∷ es) key =
      entries_sum (after_entry s e) es key
      ∙ ap (λ (z : ℤ). z +ℤ changed_among changes key es) (each s e key)
      ∙ regroup (sum s key) (changed_at key (changes e)) (changed_among changes key es)
    where
      regroup : (a b c : ℤ) → (a +ℤ b) +ℤ c ≡ a +ℤ (b +ℤ c)
      regroup a b c = omega (arith, ints)

-- What a token's sums need of entries: they are fair, or a refund that is left room for.
pub record LeavesFair (s : CoreState) (token : List ℕ) (es : List Entry) : Type 0 where
  pub refunds : (kept_at s.txn_sums.refunded token +ℤ changed_among (txn_changes refunded_by) token es) ≤ℤ (kept_at s.txn_sums.cleared token +ℤ changed_among (txn_changes cleared_by) token es)
  pub holds : (kept_at s.holdings.parts (part_key token part.P) +ℤ changed_among part_changes (part_key token part.P) es) ≤ℤ (kept_at s.txn_sums.paid token +ℤ changed_among (txn_changes paid_by) token es)

pub fair_leaves : (s : CoreState) (token : List ℕ) (es : List Entry) → IsFair s → AreFair token es → LeavesFair s token es
fair_leaves s token es h k = record { refunds = add (h.refunds token) k.refunds; holds = add (h.holds token) k.holds }
  where
    add : {a b c d : ℤ} → a ≤ℤ b → c ≤ℤ d → (a +ℤ c) ≤ℤ (b +ℤ d)
    add h k = omega (arith, ints, h, k)

pub entries_fair : (s : CoreState) (es : List Entry) → ((token : List ℕ) → LeavesFair s token es) → IsFair (fold after_entry s es)
entries_fair s es leaves =
    record {
      refunds = λ token.
          at_most (entries_sum (λ (c : CoreState) (k : List ℕ). kept_at c.txn_sums.refunded k) (txn_changes refunded_by) entry_refunded s es token)
          (entries_sum (λ (c : CoreState) (k : List ℕ). kept_at c.txn_sums.cleared k) (txn_changes cleared_by) entry_cleared s es token) (leaves token).refunds;
      holds = λ token.
          at_most (entries_sum (λ (c : CoreState) (k : List ℕ). kept_at c.holdings.parts k) part_changes entry_parts s es (part_key token part.P))
          (entries_sum (λ (c : CoreState) (k : List ℕ). kept_at c.txn_sums.paid k) (txn_changes paid_by) entry_paid s es token) (leaves token).holds;
    }
  where
    at_most : {x y a b : ℤ} → x ≡ a → y ≡ b → a ≤ℤ b → x ≤ℤ y
    at_most e f h = omega (arith, ints, e, f, h)
