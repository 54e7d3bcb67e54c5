-- The rows of the transactions, and the sums by transaction that they come to.
use Rattle.std.proofs.Common.{◌≡◌, ℕ, zero, suc, ℤ, pos, ◌+ℤ◌, Bool, true, false, cond, List, [], ◌∷◌, ◌++◌, length, map, set, refl, sym, ap, ap₂, ◌∙◌, subst, arith}
use Rattle.std.proofs.lemmas.Int.{ints}
use Rattle.std.proofs.lemmas.Map.Keys.{IsDistinct-head, IsDistinct-tail}
use Rattle.std.specs.Prelude.{Option, Some, None, slice_get, unwrap_or}
use Rattle.std.specs.Option.{option_map}
use Rattle.std.specs.List.{IsDistinct, AllByRecursion}
use Rattle.std.specs.Str.{bytes_eq}
use Rattle.std.specs.Ordering.{nat_cmp}
use Rattle.std.specs.Cmp.Lexicographic.{slice_cmp}
use Rattle.std.specs.FinMap as finite
use Rattle.iss_model.specs.declared.account.Account.{Account}
use Rattle.iss_model.specs.declared.entry.Entry.TheVariants as entry
use Rattle.iss_model.specs.Sums.{Change, changed_at, cleared_by, refunded_by, paid_by}
use Rattle.iss_model.specs.state.Kept.{Kept, IsSmall, nothing_kept, kept_at, after_change, after_changes}
use Rattle.iss_model.specs.rules.Activity.{TxnNow}
use Rattle.iss_model.specs.state.Cores.{with_end, with_post, txn_after_end, Holdings}
use Rattle.iss_model.proofs.Names.{its_name, name-sym}
use Rattle.iss_model.proofs.KeptSums.{kept_at-after_change, kept_at-after_changes}
use Rattle.iss_hold.specs.Holdings.{tokens}
use Rattle.iss_hold.proofs.KeptChanges.{as_one, comes_last}
use Rattle.iss_chain.specs.declared.sums.PostSums.{PostSums}
use Rattle.iss_chain.specs.Entering.{AreSumsSmall}
use Rattle.iss_chain.specs.Rows.{no_sums, row_sums, sums_after, IsSmallRow, row_changes, txn_sums_of}

-- ---- a row that changes

same_item : {A : Type 0} {x y : A} → Some x ≡ Some y → x ≡ y
same_item e = cc

-- an amount is itself after nothing
pub from_nothing : (w : ℤ) → pos 0 +ℤ w ≡ w
from_nothing w = omega (arith, ints)

one_change : (m : Kept) (x n : List ℕ) (a w : ℤ) → x ≡ n → a ≡ w → after_change m (record { key = x; by = a }) ≡ after_change m (record { key = n; by = w })
one_change m x n a w e f = λ i. after_change m (record { key = e i; by = f i })

-- a row with other sums changes what all rows come to by as much
pub row_set : (sum : PostSums → ℤ) → sum no_sums ≡ pos 0 → (m : Kept) (ns : List (List ℕ)) (rows : List (Option PostSums)) (i : ℕ) (n : List ℕ) (s t : PostSums) (w : ℤ)
    → slice_get ns i ≡ Some n → option_map row_sums (slice_get rows i) ≡ Some s → sum s +ℤ w ≡ sum t
    → after_changes m (row_changes sum ns (set rows i (Some t))) ≡ after_change (after_changes m (row_changes sum ns rows)) (record { key = n; by = w })
row_set sum none m [] rows i n s t w e f g = cc
row_set sum none m (x ∷ ns) [] i n s t w e f g = cc
row_set sum none m (x ∷ ns) (None ∷ rows) zero n s t w e f g =
    let name : x ≡ n = same_item e in
    let nothing : no_sums ≡ s = same_item f in
    let by : sum t ≡ w = sym g ∙ ap (λ (z : ℤ). z +ℤ w) (ap sum (sym nothing) ∙ none) ∙ from_nothing w in
    ap (λ (k : Kept). after_changes k (row_changes sum ns rows)) (one_change m x n (sum t) w name by)
    ∙ comes_last m (record { key = n; by = w }) (row_changes sum ns rows)
row_set sum none m (x ∷ ns) (Some r ∷ rows) zero n s t w e f g =
    let name : x ≡ n = same_item e in
    let same : r ≡ s = same_item f in
    let by : sum r +ℤ w ≡ sum t = ap (λ (q : PostSums). sum q +ℤ w) same ∙ g in
    ap (λ (k : Kept). after_changes k (row_changes sum ns rows)) (sym (as_one m x (sum r) w (sum t) by) ∙ one_change (after_change m (record { key = x; by = sum r })) x n w w name refl)
    ∙ comes_last (after_change m (record { key = x; by = sum r })) (record { key = n; by = w }) (row_changes sum ns rows)
row_set sum none m (x ∷ ns) (None ∷ rows) (suc i) n s t w e f g = row_set sum none m ns rows i n s t w e f g
row_set sum none m (x ∷ ns) (Some r ∷ rows) (suc i) n s t w e f g =
    row_set sum none (after_change m (record { key = x; by = sum r })) ns rows i n s t w e f g

-- the sums by transaction after a post for the transaction at a place
pub sums_set : (txns : List TxnNow) (rows : List (Option PostSums)) (i : ℕ) (n : List ℕ) (s : PostSums) (from to : Account) (amount : ℕ)
    → slice_get (tokens txns) i ≡ Some n → option_map row_sums (slice_get rows i) ≡ Some s
    → txn_sums_of txns (set rows i (Some (sums_after from to amount s))) ≡ with_post (txn_sums_of txns rows) (entry.Post from to amount (Some n))
sums_set txns rows i n s from to amount e f =
    let t = sums_after from to amount s in
    let cleared = row_set (λ q. q.cleared) refl nothing_kept (tokens txns) rows i n s t (cleared_by from to amount) e f refl in
    let refunded = row_set (λ q. q.refunded) refl nothing_kept (tokens txns) rows i n s t (refunded_by from to amount) e f refl in
    let paid = row_set (λ q. q.paid) refl nothing_kept (tokens txns) rows i n s t (paid_by from to amount) e f refl in
    λ j. record { cleared = cleared j; refunded = refunded j; paid = paid j }

-- ---- what stands at a name

no_change : (z : ℤ) (b : Bool) (w : ℤ) → b ≡ false → cond b w (pos 0) +ℤ z ≡ z
no_change z true w e = cc
no_change z false w e = omega (arith, ints)

none_of : (sum : PostSums → ℤ) (x : List ℕ) (ns : List (List ℕ)) (rows : List (Option PostSums)) → AllByRecursion (λ y. bytes_eq x y ≡ false) ns → changed_at x (row_changes sum ns rows) ≡ pos 0
none_of sum x [] rows h = refl
none_of sum x (y ∷ ns) [] h = refl
none_of sum x (y ∷ ns) (None ∷ rows) h = none_of sum x ns rows h.1
none_of sum x (y ∷ ns) (Some r ∷ rows) h =
    no_change (changed_at x (row_changes sum ns rows)) (bytes_eq y x) (sum r) (name-sym y x ∙ h.0) ∙ none_of sum x ns rows h.1

all_at : (x : List ℕ) (ns : List (List ℕ)) (i : ℕ) (n : List ℕ) → AllByRecursion (λ y. bytes_eq x y ≡ false) ns → slice_get ns i ≡ Some n → bytes_eq x n ≡ false
all_at x [] i n h e = cc
all_at x (y ∷ ns) zero n h e = ap (λ (k : List ℕ). bytes_eq x k) (sym (same_item e)) ∙ h.0
all_at x (y ∷ ns) (suc i) n h e = all_at x ns i n h.1 e

whole_change : (b : Bool) (w z : ℤ) → b ≡ true → z ≡ pos 0 → cond b w (pos 0) +ℤ z ≡ w
whole_change true w z e f = omega (arith, ints, f)
whole_change false w z e f = cc

-- what all rows come to at the name of one is that one's sum
pub row_at : (sum : PostSums → ℤ) → sum no_sums ≡ pos 0 → (ns : List (List ℕ)) (rows : List (Option PostSums)) (i : ℕ) (n : List ℕ) (s : PostSums) → IsDistinct bytes_eq ns
    → slice_get ns i ≡ Some n → option_map row_sums (slice_get rows i) ≡ Some s → changed_at n (row_changes sum ns rows) ≡ sum s
row_at sum none [] rows i n s d e f = cc
row_at sum none (x ∷ ns) [] i n s d e f = cc
row_at sum none (x ∷ ns) (None ∷ rows) zero n s d e f =
    let nothing : no_sums ≡ s = same_item f in
    ap (λ (k : List ℕ). changed_at k (row_changes sum ns rows)) (sym (same_item e)) ∙ none_of sum x ns rows (IsDistinct-head bytes_eq x ns d) ∙ sym none ∙ ap sum nothing
row_at sum none (x ∷ ns) (Some r ∷ rows) zero n s d e f =
    let same : r ≡ s = same_item f in
    let name : x ≡ n = same_item e in
    whole_change (bytes_eq x n) (sum r) (changed_at n (row_changes sum ns rows)) (ap (λ (k : List ℕ). bytes_eq x k) (sym name) ∙ its_name x)
    (ap (λ (k : List ℕ). changed_at k (row_changes sum ns rows)) (sym name) ∙ none_of sum x ns rows (IsDistinct-head bytes_eq x ns d))
    ∙ ap sum same
row_at sum none (x ∷ ns) (None ∷ rows) (suc i) n s d e f = row_at sum none ns rows i n s (IsDistinct-tail bytes_eq x ns d) e f
row_at sum none (x ∷ ns) (Some r ∷ rows) (suc i) n s d e f =
    no_change (changed_at n (row_changes sum ns rows)) (bytes_eq x n) (sum r) (all_at x ns i n (IsDistinct-head bytes_eq x ns d) e)
    ∙ row_at sum none ns rows i n s (IsDistinct-tail bytes_eq x ns d) e f

-- nothing is kept at first
pub nothing_at : (key : List ℕ) → kept_at nothing_kept key ≡ pos 0
nothing_at key = ap (λ (o : Option ℤ). unwrap_or o (pos 0)) (finite.get-empty (slice_cmp nat_cmp) key)

-- the sum that is kept of a transaction is that of its row
pub row_kept : (sum : PostSums → ℤ) → sum no_sums ≡ pos 0 → (ns : List (List ℕ)) (rows : List (Option PostSums)) (i : ℕ) (n : List ℕ) (s : PostSums) → IsDistinct bytes_eq ns
    → slice_get ns i ≡ Some n → option_map row_sums (slice_get rows i) ≡ Some s → kept_at (after_changes nothing_kept (row_changes sum ns rows)) n ≡ sum s
row_kept sum none ns rows i n s d e f =
    kept_at-after_changes nothing_kept (row_changes sum ns rows) n
    ∙ ap₂ (λ (a b : ℤ). a +ℤ b) (nothing_at n) (row_at sum none ns rows i n s d e f)
    ∙ from_nothing (sum s)

-- the sums of a row are small if all are
pub row_small : (txns : List TxnNow) (rows : List (Option PostSums)) (i : ℕ) (n : List ℕ) (s : PostSums) → IsDistinct bytes_eq (tokens txns)
    → slice_get (tokens txns) i ≡ Some n → option_map row_sums (slice_get rows i) ≡ Some s → AreSumsSmall (txn_sums_of txns rows) → IsSmallRow s
row_small txns rows i n s d e f small =
    record {
      cleared = subst (λ (z : ℤ). IsSmall z) (row_kept (λ q. q.cleared) refl (tokens txns) rows i n s d e f) (small.cleared n);
      refunded = subst (λ (z : ℤ). IsSmall z) (row_kept (λ q. q.refunded) refl (tokens txns) rows i n s d e f) (small.refunded n);
      paid = subst (λ (z : ℤ). IsSmall z) (row_kept (λ q. q.paid) refl (tokens txns) rows i n s d e f) (small.paid n);
    }

its_change : (m : Kept) (n : List ℕ) (a w : ℤ) → kept_at m n ≡ a → kept_at (after_change m (record { key = n; by = w })) n ≡ a +ℤ w
its_change m n a w e =
    kept_at-after_change m (record { key = n; by = w }) n ∙ ap₂ (λ (z : ℤ) (b : Bool). z +ℤ cond b w (pos 0)) e (its_name n)

-- the sums of a row are small after a post if all are then
pub row_small_after : (txns : List TxnNow) (rows : List (Option PostSums)) (i : ℕ) (n : List ℕ) (s : PostSums) (from to : Account) (amount : ℕ) → IsDistinct bytes_eq (tokens txns)
    → slice_get (tokens txns) i ≡ Some n → option_map row_sums (slice_get rows i) ≡ Some s → AreSumsSmall (with_post (txn_sums_of txns rows) (entry.Post from to amount (Some n)))
    → IsSmallRow (sums_after from to amount s)
row_small_after txns rows i n s from to amount d e f small =
    let sums = txn_sums_of txns rows in
    record {
      cleared =
          subst (λ (z : ℤ). IsSmall z) (its_change sums.cleared n s.cleared (cleared_by from to amount) (row_kept (λ q. q.cleared) refl (tokens txns) rows i n s d e f)) (small.cleared n);
      refunded =
          subst (λ (z : ℤ). IsSmall z) (its_change sums.refunded n s.refunded (refunded_by from to amount) (row_kept (λ q. q.refunded) refl (tokens txns) rows i n s d e f)) (small.refunded n);
      paid = subst (λ (z : ℤ). IsSmall z) (its_change sums.paid n s.paid (paid_by from to amount) (row_kept (λ q. q.paid) refl (tokens txns) rows i n s d e f)) (small.paid n);
    }

-- ---- a transaction more, and one that ends

row_more : (sum : PostSums → ℤ) (ns : List (List ℕ)) (n : List ℕ) (rows : List (Option PostSums)) → length rows ≡ length ns → row_changes sum (ns ++ n ∷ []) (rows ++ None ∷ []) ≡ row_changes sum ns rows
row_more sum [] n [] h = refl
row_more sum [] n (r ∷ rows) h = cc
row_more sum (x ∷ ns) n [] h = cc
row_more sum (x ∷ ns) n (None ∷ rows) h = let shorter : length rows ≡ length ns = omega (arith, h) in row_more sum ns n rows shorter
row_more sum (x ∷ ns) n (Some r ∷ rows) h =
    let shorter : length rows ≡ length ns = omega (arith, h) in
    ap (λ (cs : List Change). record { key = x; by = sum r } ∷ cs) (row_more sum ns n rows shorter)

tokens_more : (txns : List TxnNow) (t : TxnNow) → tokens (txns ++ t ∷ []) ≡ tokens txns ++ t.txn.token ∷ []
tokens_more [] t = refl
tokens_more (x ∷ txns) t = ap (λ (ns : List (List ℕ)). x.txn.token ∷ ns) (tokens_more txns t)

tokens_length : (txns : List TxnNow) → length (tokens txns) ≡ length txns
tokens_length [] = refl
tokens_length (x ∷ txns) = ap suc (tokens_length txns)

-- a transaction that begins has made no post
pub sums_more : (txns : List TxnNow) (t : TxnNow) (rows : List (Option PostSums)) → length rows ≡ length txns → txn_sums_of (txns ++ t ∷ []) (rows ++ None ∷ []) ≡ txn_sums_of txns rows
sums_more txns t rows h =
    let paired : length rows ≡ length (tokens txns) = h ∙ sym (tokens_length txns) in
    let changes : (sum : PostSums → ℤ) → row_changes sum (tokens (txns ++ t ∷ [])) (rows ++ None ∷ []) ≡ row_changes sum (tokens txns) rows =
    λ sum. ap (λ (ns : List (List ℕ)). row_changes sum ns (rows ++ None ∷ [])) (tokens_more txns t) ∙ row_more sum (tokens txns) t.txn.token rows paired in
    λ j. record {
      cleared = after_changes nothing_kept (changes (λ q. q.cleared) j);
      refunded = after_changes nothing_kept (changes (λ q. q.refunded) j);
      paid = after_changes nothing_kept (changes (λ q. q.paid) j);
    }

its_token : (k : List ℕ) (t : TxnNow) (b : Bool) → (cond b (record t { live = false }) t).txn.token ≡ t.txn.token
its_token k t true = refl
its_token k t false = refl

tokens_ended : (k : List ℕ) (txns : List TxnNow) → tokens (map (txn_after_end k) txns) ≡ tokens txns
tokens_ended k [] = refl
tokens_ended k (t ∷ txns) = ap₂ (λ (n : List ℕ) (ns : List (List ℕ)). n ∷ ns) (its_token k t (bytes_eq k t.txn.token)) (tokens_ended k txns)

pub ended_length : (k : List ℕ) (txns : List TxnNow) → length (map (txn_after_end k) txns) ≡ length txns
ended_length k [] = refl
ended_length k (t ∷ txns) = ap suc (ended_length k txns)

-- the posts of a transaction stay when it ends
pub sums_ended : (h : Holdings) (k : List ℕ) (rows : List (Option PostSums)) → txn_sums_of (with_end h k).txns rows ≡ txn_sums_of h.txns rows
sums_ended h k rows =
    let same = tokens_ended k h.txns in
    λ j. record {
      cleared = after_changes nothing_kept (row_changes (λ q. q.cleared) (same j) rows);
      refunded = after_changes nothing_kept (row_changes (λ q. q.refunded) (same j) rows);
      paid = after_changes nothing_kept (row_changes (λ q. q.paid) (same j) rows);
    }
