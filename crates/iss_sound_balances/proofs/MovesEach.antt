-- How much events and transactions move of an account, one by one and added up.
use Rattle.std.proofs.Common.{◌≡◌, ◌∙◌, ◌∷◌, ◌||◌, ◌+◌, ◌*◌, ◌<◌, ◌≤◌, ◌+ℤ◌, ℕ, ℤ, pos, neg_ℤ, ap, arith, Bool, cond, false, List, [], map, nat_le, not, refl, subst, true}
use Rattle.std.specs.Prelude.{Option, Some, None, ◌≤ℤ◌, option_map, unwrap_or, ◌^◌}
use Rattle.std.specs.List.{list_all}
use Rattle.std.specs.Ordering.{nat_cmp}
use Rattle.std.specs.Cmp.Lexicographic.{slice_cmp}
use Rattle.std.specs.FinMap as finite
use Rattle.std.specs.Str.{bytes_eq}
use Rattle.std.proofs.lemmas.Bool.{and_parts}
use Rattle.std.proofs.lemmas.Bool.Decides.{nat_tests}
use Rattle.std.proofs.lemmas.Int.{ints}
use Rattle.iss_model.specs.declared.decision.Verdict.{Verdict}
use Rattle.iss_model.specs.declared.decision.Verdict.TheVariants as verdict
use Rattle.iss_model.specs.declared.input.Input.{Input}
use Rattle.iss_model.specs.declared.input.Input.TheVariants as input
use Rattle.iss_model.specs.declared.state.Carried.{Carried}
use Rattle.iss_model.specs.declared.state.Seen.{Seen}
use Rattle.iss_model.specs.Sums.{account_key}
use Rattle.iss_model.specs.rules.Activity.{TxnNow, txn_named}
use Rattle.iss_model.specs.rules.CardReasons.{is_account_funded}
use Rattle.iss_model.specs.rules.Settings.{is_named_in}
use Rattle.iss_model.specs.state.Kept.{AreSmall, IsSmall, Kept, kept_at, nothing_kept}
use Rattle.iss_model.proofs.Names.{name-sym, one_name}
use Rattle.iss_state.specs.Stakes.{are_distinct}
use Rattle.iss_states.specs.Rebuilding.{is_done}
use Rattle.iss_well_formed.specs.Txns.{AreWhatWasDone, IsWhatWasDone, cleared_amount, done_total, is_fair}
use Rattle.iss_decided.specs.Approved.{AreWithinApproved, IsWithinApproved, approved_amount, approved_for, approved_total}
use Rattle.iss_sound_balances.specs.Moves.{AllStaySmall, Move, StaySmall, after_all, after_move, after_moves, listed_moves, txn_moves, txn_moves_by}
use Rattle.iss_sound_balances.proofs.Owing.{kept_move}

-- how much is moved ----

-- what moves come to together
abbrev pub moved_total : List Move → ℕ
moved_total [] = 0
moved_total (x ∷ xs) = x.amount + moved_total xs

-- what all these move together
abbrev pub all_total : {A : Type 0} → (A → List Move) → List A → ℕ
all_total moves [] = 0
all_total moves (x ∷ xs) = moved_total (moves x) + all_total moves xs

-- each balance is at most this, above 0 or below
pub record IsWithin (n : ℕ) (m : Kept) : Type 0 where
  pub low : (key : List ℕ) → neg_ℤ (pos n) ≤ℤ kept_at m key
  pub high : (key : List ℕ) → kept_at m key ≤ℤ pos n

within_small : (n : ℕ) (m : Kept) → IsWithin n m → n < 2 ^ 62 → AreSmall m
within_small n m h few key = one (kept_at m key) (h.low key) (h.high key)
  where
    one : (z : ℤ) → neg_ℤ (pos n) ≤ℤ z → z ≤ℤ pos n → IsSmall z
    one z low high = record { low = omega (arith, ints, few, low); high = omega (arith, ints, few, high) }

within_move : (n : ℕ) (m : Kept) (x : Move) → IsWithin n m → IsWithin (n + x.amount) (after_move m x)
within_move n m x h =
    record {
      low = λ key. let e = kept_move m key x in
          low (bytes_eq (account_key x.to) key) (bytes_eq (account_key x.from) key) (kept_at m key) x.amount (kept_at (after_move m x) key) e (h.low key);
      high = λ key. let e = kept_move m key x in
          high (bytes_eq (account_key x.to) key) (bytes_eq (account_key x.from) key) (kept_at m key) x.amount (kept_at (after_move m x) key) e (h.high key);
    }
  where
    low : (a b : Bool) (z : ℤ) (k : ℕ) (y : ℤ) → y ≡ z +ℤ (cond a (pos k) (pos 0) +ℤ (cond b (neg_ℤ (pos k)) (pos 0) +ℤ pos 0)) → neg_ℤ (pos n) ≤ℤ z → neg_ℤ (pos (n + k)) ≤ℤ y
    low true true z k y e h = omega (arith, ints, e, h)
    low true false z k y e h = omega (arith, ints, e, h)
    low false true z k y e h = omega (arith, ints, e, h)
    low false false z k y e h = omega (arith, ints, e, h)

    high : (a b : Bool) (z : ℤ) (k : ℕ) (y : ℤ) → y ≡ z +ℤ (cond a (pos k) (pos 0) +ℤ (cond b (neg_ℤ (pos k)) (pos 0) +ℤ pos 0)) → z ≤ℤ pos n → y ≤ℤ pos (n + k)
    high true true z k y e h = omega (arith, ints, e, h)
    high true false z k y e h = omega (arith, ints, e, h)
    high false true z k y e h = omega (arith, ints, e, h)
    high false false z k y e h = omega (arith, ints, e, h)

front_few : (n k j : ℕ) → n + (k + j) < 2 ^ 62 → n + k < 2 ^ 62
front_few n k j h = omega (arith, h)

grouped_few : (n k j : ℕ) → n + (k + j) < 2 ^ 62 → (n + k) + j < 2 ^ 62
grouped_few n k j h = omega (arith, h)

grouped : (n k j : ℕ) → (n + k) + j ≡ n + (k + j)
grouped n k j = omega arith

plus_none : (n : ℕ) → n ≡ n + 0
plus_none n = omega arith

small_moves : (n : ℕ) (m : Kept) (xs : List Move) → IsWithin n m → n + moved_total xs < 2 ^ 62 → StaySmall m xs × IsWithin (n + moved_total xs) (after_moves m xs)
small_moves n m [] h few = (tt, subst (λ (k : ℕ). IsWithin k m) (plus_none n) h)
small_moves n m (x ∷ xs) h few =
    let next : IsWithin (n + x.amount) (after_move m x) = within_move n m x h in
    let rest = small_moves (n + x.amount) (after_move m x) xs next (grouped_few n x.amount (moved_total xs) few) in (
      (within_small (n + x.amount) (after_move m x) next (front_few n x.amount (moved_total xs) few), rest.0),
      subst (λ (k : ℕ). IsWithin k (after_moves (after_move m x) xs)) (grouped n x.amount (moved_total xs)) rest.1,
    )

pub small_all : {A : Type 0} (moves : A → List Move) (n : ℕ) (m : Kept) (xs : List A) → IsWithin n m → n + all_total moves xs < 2 ^ 62
    → AllStaySmall moves m xs × IsWithin (n + all_total moves xs) (after_all moves m xs)
small_all moves n m [] h few = (tt, subst (λ (k : ℕ). IsWithin k m) (plus_none n) h)
small_all moves n m (x ∷ xs) h few =
    let own = small_moves n m (moves x) h (front_few n (moved_total (moves x)) (all_total moves xs) few) in
    let rest = small_all moves (n + moved_total (moves x)) (after_moves m (moves x)) xs own.1 (grouped_few n (moved_total (moves x)) (all_total moves xs) few) in (
      (own.0, rest.0),
      subst (λ (k : ℕ). IsWithin k (after_all moves (after_moves m (moves x)) xs)) (grouped n (moved_total (moves x)) (all_total moves xs)) rest.1,
    )

pub nothing_within : IsWithin 0 nothing_kept
nothing_within = record { low = λ key. low (kept_at nothing_kept key) (none key); high = λ key. high (kept_at nothing_kept key) (none key) }
  where
    none : (key : List ℕ) → kept_at nothing_kept key ≡ pos 0
    none key = ap (λ (o : Option ℤ). unwrap_or o (pos 0)) (finite.get-empty (slice_cmp nat_cmp) key)

    low : (z : ℤ) → z ≡ pos 0 → neg_ℤ (pos 0) ≤ℤ z
    low z e = omega (arith, ints, e)

    high : (z : ℤ) → z ≡ pos 0 → z ≤ℤ pos 0
    high z e = omega (arith, ints, e)

-- what one transaction moves ----

-- what an event clears of a transaction, or was approved for
abbrev pub weight : List ℕ → Seen → ℕ
weight token e = cond (is_done e.verdict) (cleared_amount token e.body.input) 0 + approved_for token e.verdict e.body.input

-- so all these events
abbrev pub weight_total : List ℕ → List Seen → ℕ
weight_total token [] = 0
weight_total token (e ∷ es) = weight token e + weight_total token es

weight_is : (token : List ℕ) (es : List Seen) → done_total (cleared_amount token) es + approved_total token es ≡ weight_total token es
weight_is token [] = refl
weight_is token (e ∷ es) =
    swapped (cond (is_done e.verdict) (cleared_amount token e.body.input) 0) (done_total (cleared_amount token) es) (approved_for token e.verdict e.body.input) (approved_total token es) (weight_total token es) (weight_is token es)
  where
    swapped : (a b c d w : ℕ) → b + d ≡ w → (a + b) + (c + d) ≡ (a + c) + w
    swapped a b c d w e = omega (arith, e)

pub le_true : (m n : ℕ) → nat_le m n ≡ true → m ≤ n
le_true m n h = grind (arith, nat_tests)

txn_within : (txns : List TxnNow) (es : List Seen) (t : Carried) → IsWhatWasDone es t → is_fair t ≡ true → IsWithinApproved es t → moved_total (listed_moves txns t) ≤ 3 * weight_total t.txn es
txn_within txns es t done fair within = by (txn_named t.txn txns)
  where
    own_few : (d a c r p w : ℕ) → c ≡ d → r ≤ c → p ≤ a + c → d + a ≡ w → c + (r + (p + 0)) ≤ 3 * w
    own_few d a c r p w e f g k = omega (arith, e, f, g, k)

    all_few : (d a c r p w g h s : ℕ) → c ≡ d → r ≤ c → p ≤ a + c → d + a ≡ w → g + h + s ≤ a → c + (r + (p + (g + (h + 0)))) ≤ 3 * w
    all_few d a c r p w g h s e f i k j = omega (arith, e, f, i, k, j)

    none_few : (w : ℕ) → 0 ≤ 3 * w
    none_few w = omega arith

    refunds : t.sums.refunded ≤ t.sums.cleared
    refunds = le_true t.sums.refunded t.sums.cleared (and_parts (nat_le t.sums.refunded t.sums.cleared) (nat_le t.sums.p t.sums.paid) fair).0

    one : (now : TxnNow) (own : Bool) → moved_total (txn_moves_by own now.txn t.sums) ≤ 3 * weight_total t.txn es
    one now true =
        own_few (done_total (cleared_amount t.txn) es) (approved_total t.txn es) t.sums.cleared t.sums.refunded t.sums.paid (weight_total t.txn es)
        done.cleared refunds within.paid (weight_is t.txn es)
    one now false =
        all_few (done_total (cleared_amount t.txn) es) (approved_total t.txn es) t.sums.cleared t.sums.refunded t.sums.paid (weight_total t.txn es) t.sums.g t.sums.p t.sums.s
        done.cleared refunds within.paid (weight_is t.txn es) within.held

    by : (o : Option TxnNow) → moved_total (unwrap_or (option_map (λ now. txn_moves now.txn t.sums) o) []) ≤ 3 * weight_total t.txn es
    by None = none_few (weight_total t.txn es)
    by (Some now) = one now (is_account_funded now.txn.funding)

-- what all transactions move ----

-- what the events clear of these transactions and approve for them, together
abbrev pub weights : List Carried → List Seen → ℕ
weights [] es = 0
weights (t ∷ ts) es = weight_total t.txn es + weights ts es

pub txns_within : (txns : List TxnNow) (es : List Seen) (ts : List Carried) → AreWhatWasDone es ts → list_all is_fair ts ≡ true → AreWithinApproved es ts → all_total (listed_moves txns) ts ≤ 3 * weights ts es
txns_within txns es [] done fair within = none
  where
    none : 0 ≤ 3 * 0
    none = omega arith
txns_within txns es (t ∷ ts) done fair within =
    let both = and_parts (is_fair t) (list_all is_fair ts) fair in
    more (moved_total (listed_moves txns t)) (all_total (listed_moves txns) ts) (weight_total t.txn es) (weights ts es)
    (txn_within txns es t done.0 both.0 within.0) (txns_within txns es ts done.1 both.1 within.1)
  where
    more : (a b c d : ℕ) → a ≤ 3 * c → b ≤ 3 * d → a + b ≤ 3 * (c + d)
    more a b c d h k = omega (arith, h, k)

-- what one event clears of these transactions and approves for them
abbrev pub weights_of : List Carried → Seen → ℕ
weights_of [] e = 0
weights_of (t ∷ ts) e = weight t.txn e + weights_of ts e

pub weights_none : (ts : List Carried) → weights ts [] ≡ 0
weights_none [] = refl
weights_none (t ∷ ts) = both (weights ts []) (weights_none ts)
  where
    both : (n : ℕ) → n ≡ 0 → 0 + n ≡ 0
    both n e = omega (arith, e)

pub weights_more : (ts : List Carried) (e : Seen) (es : List Seen) → weights ts (e ∷ es) ≡ weights_of ts e + weights ts es
weights_more [] e es = refl
weights_more (t ∷ ts) e es = swapped (weight t.txn e) (weight_total t.txn es) (weights_of ts e) (weights ts es) (weights ts (e ∷ es)) (weights_more ts e es)
  where
    swapped : (a b c d w : ℕ) → w ≡ c + d → (a + b) + w ≡ (a + c) + (b + d)
    swapped a b c d w e = omega (arith, e)

-- the transaction that an event clears, or asks for
abbrev txn_of : Input → List ℕ
txn_of (input.Authorization event card currency amount mcc mid partial) = event
txn_of (input.Increment event txn currency amount) = txn
txn_of (input.Clearing event txn currency amount last) = txn
txn_of _ = []

-- what it clears, or was approved for
abbrev pub worth : Option Verdict → Input → ℕ
worth v (input.Authorization event card currency amount mcc mid partial) = approved_amount v (input.Authorization event card currency amount mcc mid partial)
worth v (input.Increment event txn currency amount) = approved_amount v (input.Increment event txn currency amount)
worth v (input.Clearing event txn currency amount last) = cond (is_done v) amount 0
worth v _ = 0

none_either : (b : Bool) → ◌≡◌ {A = ℕ} (cond b 0 0) 0
none_either true = refl
none_either false = refl

weight_at : (token : List ℕ) (v : Option Verdict) (i : Input) → cond (is_done v) (cleared_amount token i) 0 + approved_for token v i ≡ cond (bytes_eq (txn_of i) token) (worth v i) 0
weight_at token v (input.Authorization event card currency amount mcc mid partial) =
    ap (λ (n : ℕ). n + cond (bytes_eq event token) (approved_amount v (input.Authorization event card currency amount mcc mid partial)) 0) (none_either (is_done v)) ∙ none _
  where
    none : (n : ℕ) → 0 + n ≡ n
    none n = omega arith
weight_at token v (input.Increment event txn currency amount) =
    ap (λ (n : ℕ). n + cond (bytes_eq txn token) (approved_amount v (input.Increment event txn currency amount)) 0) (none_either (is_done v)) ∙ none _
  where
    none : (n : ℕ) → 0 + n ≡ n
    none n = omega arith
weight_at token v (input.Clearing event txn currency amount last) = by (is_done v) (bytes_eq txn token)
  where
    by : (done same : Bool) → cond done (cond same amount 0) 0 + 0 ≡ cond same (cond done amount 0) 0
    by true true = omega arith
    by true false = refl
    by false true = refl
    by false false = refl
weight_at token v i = nothing (cond (is_done v) 0 0) (cond (bytes_eq [] token) 0 0) (none_either (is_done v)) (none_either (bytes_eq [] token))
  where
    nothing : (m n : ℕ) → m ≡ 0 → n ≡ 0 → m + 0 ≡ n
    nothing m n e f = omega (arith, e, f)

-- no transaction of another token is cleared or asked for
weights_apart : (ts : List Carried) (e : Seen) → is_named_in (map (λ t. t.txn) ts) (txn_of e.body.input) ≡ false → weights_of ts e ≡ 0
weights_apart [] e h = refl
weights_apart (t ∷ ts) e h = by (bytes_eq t.txn (txn_of e.body.input)) refl h (weights_apart ts e)
  where
    both : (m n : ℕ) → m ≡ 0 → n ≡ 0 → m + n ≡ 0
    both m n e f = omega (arith, e, f)

    by : (b : Bool) → bytes_eq t.txn (txn_of e.body.input) ≡ b → (b || is_named_in (map (λ t. t.txn) ts) (txn_of e.body.input)) ≡ false
        → (is_named_in (map (λ t. t.txn) ts) (txn_of e.body.input) ≡ false → weights_of ts e ≡ 0) → weights_of (t ∷ ts) e ≡ 0
    by true same k rest = cc
    by false same k rest =
        both (weight t.txn e) (weights_of ts e)
        (weight_at t.txn e.verdict e.body.input ∙ ap (λ (b : Bool). cond b (worth e.verdict e.body.input) 0) (name-sym (txn_of e.body.input) t.txn ∙ same)) (rest k)

-- tokens are distinct, so an event counts for one transaction at most
pub weights_within : (ts : List Carried) (e : Seen) → are_distinct (map (λ t. t.txn) ts) ≡ true → weights_of ts e ≤ worth e.verdict e.body.input
weights_within [] e h = least (worth e.verdict e.body.input)
  where
    least : (n : ℕ) → 0 ≤ n
    least n = omega arith
weights_within (t ∷ ts) e h =
    let parts = and_parts (not (is_named_in (map (λ t. t.txn) ts) t.txn)) (are_distinct (map (λ t. t.txn) ts)) h in
    by (bytes_eq (txn_of e.body.input) t.txn) refl parts.0 (weights_within ts e parts.1)
  where
    never : (b : Bool) → not b ≡ true → b ≡ false
    never true h = cc
    never false h = refl

    its : (b : Bool) → bytes_eq (txn_of e.body.input) t.txn ≡ b → weight t.txn e ≡ cond b (worth e.verdict e.body.input) 0
    its b same = weight_at t.txn e.verdict e.body.input ∙ ap (λ (b : Bool). cond b (worth e.verdict e.body.input) 0) same

    first : (m n w : ℕ) → m ≡ w → n ≡ 0 → m + n ≤ w
    first m n w e f = omega (arith, e, f)

    later : (m n w : ℕ) → m ≡ 0 → n ≤ w → m + n ≤ w
    later m n w e f = omega (arith, e, f)

    by : (b : Bool) → bytes_eq (txn_of e.body.input) t.txn ≡ b → not (is_named_in (map (λ t. t.txn) ts) t.txn) ≡ true → weights_of ts e ≤ worth e.verdict e.body.input
        → weights_of (t ∷ ts) e ≤ worth e.verdict e.body.input
    by true same own rest =
        first (weight t.txn e) (weights_of ts e) (worth e.verdict e.body.input) (its true same)
        (weights_apart ts e (ap (is_named_in (map (λ t. t.txn) ts)) (one_name (txn_of e.body.input) t.txn same) ∙ never (is_named_in (map (λ t. t.txn) ts) t.txn) own))
    by false same own rest = later (weight t.txn e) (weights_of ts e) (worth e.verdict e.body.input) (its false same) rest
