-- What a hold, a beginning and an end do to what all transactions hold.
use Rattle.std.proofs.Common.{Bool, List, [], ap, ap₂, arith, cond, false, map, neg_ℤ, not, pos, refl, sym, true, ℕ, ℤ, ◌&&◌, ◌++◌, ◌+ℤ◌, ◌+◌, ◌||◌, ◌∙◌, ◌∷◌, ◌≡◌, ◌≤◌}
use Rattle.std.specs.Str.{bytes_eq}
use Rattle.std.proofs.lemmas.Bool.{and_parts}
use Rattle.std.proofs.lemmas.Int.{ints}
use Rattle.std.proofs.lemmas.List.Folds.{list_any-append}
use Rattle.iss_model.specs.declared.account.Part.{Part}
use Rattle.iss_model.specs.declared.account.Part.TheVariants as part
use Rattle.iss_model.specs.declared.txn.Txn.{Txn}
use Rattle.iss_model.specs.Sums.{part_key}
use Rattle.iss_model.specs.rules.Activity.{TxnNow}
use Rattle.iss_model.specs.rules.Facts.{not_below}
use Rattle.iss_model.specs.rules.Settings.{is_named_in}
use Rattle.iss_model.specs.state.Cores.{begun_part_changes, txn_after_end}
use Rattle.iss_model.specs.state.Kept.{Kept, after_changes, kept_at}
use Rattle.iss_model.proofs.KeptSums.{kept_at-after_changes}
use Rattle.iss_model.proofs.Lists.{map-alike, map-map, neither}
use Rattle.iss_model.proofs.Names.{name-sym, one_name}
use Rattle.iss_state.specs.Stakes.{IsOrderly, are_distinct, part_held, total_held, txn_tokens, whole_held}
use Rattle.iss_state.proofs.effects.Parts.{change_of, whole_less, whole_more, whole_same}

-- ---- a hold

held_same : (ts : List (List ℕ)) (parts : Kept) (token : List ℕ) (p : Part) (x : ℤ) → is_named_in ts token ≡ false → total_held ts (after_changes parts (change_of (part_key token p) x)) ≡ total_held ts parts
held_same [] parts token p x h = refl
held_same (t ∷ ts) parts token p x h =
    let both = neither (bytes_eq t token) (is_named_in ts token) h in
    ap₂ (λ (a b : ℕ). a + b) (whole_same parts token p x t (name-sym token t ∙ both.0)) (held_same ts parts token p x both.1)

not_true : (b : Bool) → not b ≡ true → b ≡ false
not_true true e = cc
not_true false e = refl

-- what all hold changes as what the one of a hold's token holds
held_changes_with : (ts : List (List ℕ)) (parts : Kept) (token : List ℕ) (p : Part) (x : ℤ) → are_distinct ts ≡ true → is_named_in ts token ≡ true
    → total_held ts (after_changes parts (change_of (part_key token p) x)) + whole_held parts token ≡ total_held ts parts + whole_held (after_changes parts (change_of (part_key token p) x)) token
held_changes_with [] parts token p x h named = cc
held_changes_with (t ∷ ts) parts token p x h named =
    let both = and_parts (not (is_named_in ts t)) (are_distinct ts) h in
    by (bytes_eq t token) refl (not_true (is_named_in ts t) both.0) named (λ later. held_changes_with ts parts token p x both.1 later)
  where
    after : Kept
    after = after_changes parts (change_of (part_key token p) x)

    by : (b : Bool) → bytes_eq t token ≡ b → is_named_in ts t ≡ false → (b || is_named_in ts token) ≡ true
        → (is_named_in ts token ≡ true → total_held ts after + whole_held parts token ≡ total_held ts parts + whole_held after token)
        → total_held (t ∷ ts) after + whole_held parts token ≡ total_held (t ∷ ts) parts + whole_held after token
    by true e apart named later =
        let same : t ≡ token = one_name t token e in
        omega (arith, ap (whole_held after) same, ap (whole_held parts) same, held_same ts parts token p x (ap (is_named_in ts) (sym same) ∙ apart))
    by false e apart named later = omega (arith, later named, whole_same parts token p x t (name-sym token t ∙ e))

pub held_more : (ts : List (List ℕ)) (parts : Kept) (token : List ℕ) (p : Part) (m : ℕ) → are_distinct ts ≡ true → is_named_in ts token ≡ true
    → total_held ts (after_changes parts (change_of (part_key token p) (pos m))) ≤ total_held ts parts + m
held_more ts parts token p m h named = omega (arith, held_changes_with ts parts token p (pos m) h named, whole_more parts token p m)

pub held_less : (ts : List (List ℕ)) (parts : Kept) (token : List ℕ) (p : Part) (m : ℕ) → are_distinct ts ≡ true → is_named_in ts token ≡ true → m ≤ part_held parts token p
    → total_held ts (after_changes parts (change_of (part_key token p) (neg_ℤ (pos m)))) + m ≡ total_held ts parts
held_less ts parts token p m h named le = omega (arith, held_changes_with ts parts token p (neg_ℤ (pos m)) h named, whole_less parts token p m le)

-- a hold of a transaction that stands leaves all orderly
pub orderly_after_hold : (ts : List (List ℕ)) (parts : Kept) (token : List ℕ) (p : Part) (x : ℤ) → is_named_in ts token ≡ true → IsOrderly ts parts → IsOrderly ts (after_changes parts (change_of (part_key token p) x))
orderly_after_hold ts parts token p x named h =
    record {
      distinct = h.distinct;
      unbegun = λ t none. whole_same parts token p x t (apart t (bytes_eq token t) refl none) ∙ h.unbegun t none;
    }
  where
    apart : (t : List ℕ) (b : Bool) → bytes_eq token t ≡ b → is_named_in ts t ≡ false → b ≡ false
    apart t true e none = let same : token ≡ t = one_name token t e in absurd (let bad : true ≡ false = sym named ∙ ap (is_named_in ts) same ∙ none in cc)
    apart t false e none = refl

-- ---- a transaction begins

zero_three : (z : ℤ) (b c d : Bool) → z +ℤ (cond b (pos 0) (pos 0) +ℤ (cond c (pos 0) (pos 0) +ℤ (cond d (pos 0) (pos 0) +ℤ pos 0))) ≡ z
zero_three z b c d = rw (zero_is b, zero_is c, zero_is d) (omega (arith, ints))
  where
    zero_is : (b : Bool) → cond b (pos 0) (pos 0) ≡ pos 0
    zero_is true = refl
    zero_is false = refl

begun_part : (parts : Kept) (t : Txn) (token : List ℕ) (q : Part) → part_held (after_changes parts (begun_part_changes t)) token q ≡ part_held parts token q
begun_part parts t token q =
    ap not_below
    (kept_at-after_changes parts (begun_part_changes t) (part_key token q)
    ∙ zero_three (kept_at parts (part_key token q)) (bytes_eq (part_key t.token part.G) (part_key token q)) (bytes_eq (part_key t.token part.P) (part_key token q)) (bytes_eq (part_key t.token part.S) (part_key token q)))

begun_whole : (parts : Kept) (t : Txn) (token : List ℕ) → whole_held (after_changes parts (begun_part_changes t)) token ≡ whole_held parts token
begun_whole parts t token = λ i. begun_part parts t token part.G i + begun_part parts t token part.P i + begun_part parts t token part.S i

-- a transaction that begins holds nothing
held_with_begun : (ts : List (List ℕ)) (parts : Kept) (t : Txn) → whole_held parts t.token ≡ 0 → total_held (ts ++ t.token ∷ []) (after_changes parts (begun_part_changes t)) ≡ total_held ts parts
held_with_begun [] parts t none = omega (arith, begun_whole parts t t.token, none)
held_with_begun (x ∷ xs) parts t none = ap₂ (λ (a b : ℕ). a + b) (begun_whole parts t x) (held_with_begun xs parts t none)

named_last : (ts : List (List ℕ)) (token x : List ℕ) → is_named_in (ts ++ token ∷ []) x ≡ (is_named_in ts x || (bytes_eq token x || false))
named_last ts token x = list_any-append (λ t. bytes_eq t x) ts (token ∷ [])

still_distinct : (ts : List (List ℕ)) (token : List ℕ) → are_distinct ts ≡ true → is_named_in ts token ≡ false → are_distinct (ts ++ token ∷ []) ≡ true
still_distinct [] token h none = refl
still_distinct (t ∷ ts) token h none =
    let both = and_parts (not (is_named_in ts t)) (are_distinct ts) h in
    let apart = neither (bytes_eq t token) (is_named_in ts token) none in
    by (is_named_in (ts ++ token ∷ []) t) (named_last ts token t ∙ ap₂ (λ (a b : Bool). a || (b || false)) (not_true (is_named_in ts t) both.0) (name-sym token t ∙ apart.0)) (still_distinct ts token both.1 apart.1)
  where
    by : (b : Bool) → b ≡ false → are_distinct (ts ++ token ∷ []) ≡ true → (not b && are_distinct (ts ++ token ∷ [])) ≡ true
    by true e later = cc
    by false e later = later

pub orderly_after_begin : (ts : List (List ℕ)) (parts : Kept) (t : Txn) → is_named_in ts t.token ≡ false → IsOrderly ts parts → IsOrderly (ts ++ t.token ∷ []) (after_changes parts (begun_part_changes t))
orderly_after_begin ts parts t none h =
    record {
      distinct = still_distinct ts t.token h.distinct none;
      unbegun = λ x out. begun_whole parts t x ∙ h.unbegun x (neither (is_named_in ts x) (bytes_eq t.token x || false) (sym (named_last ts t.token x) ∙ out)).0;
    }

pub held_after_begin : (ts : List (List ℕ)) (parts : Kept) (t : Txn) → is_named_in ts t.token ≡ false → IsOrderly ts parts → total_held (ts ++ t.token ∷ []) (after_changes parts (begun_part_changes t)) ≡ total_held ts parts
held_after_begin ts parts t none h = held_with_begun ts parts t (h.unbegun t.token none)

-- ---- a transaction ends

same_txn : (token : List ℕ) (t : TxnNow) → (txn_after_end token t).txn ≡ t.txn
same_txn token t = by (bytes_eq token t.txn.token)
  where
    by : (b : Bool) → (cond b (record t { live = false }) t).txn ≡ t.txn
    by true = refl
    by false = refl

pub txns_after_end : (token : List ℕ) (txns : List TxnNow) → map (λ (t : TxnNow). t.txn) (map (txn_after_end token) txns) ≡ map (λ (t : TxnNow). t.txn) txns
txns_after_end token txns = map-map (txn_after_end token) (λ (t : TxnNow). t.txn) txns ∙ map-alike (λ (t : TxnNow). (txn_after_end token t).txn) (λ (t : TxnNow). t.txn) (same_txn token) txns

pub tokens_after_end : (token : List ℕ) (txns : List TxnNow) → txn_tokens (map (txn_after_end token) txns) ≡ txn_tokens txns
tokens_after_end token txns =
    map-map (txn_after_end token) (λ (t : TxnNow). t.txn.token) txns
    ∙ map-alike (λ (t : TxnNow). (txn_after_end token t).txn.token) (λ (t : TxnNow). t.txn.token) (λ t. ap (λ (x : Txn). x.token) (same_txn token t)) txns
