-- Books in which a transaction is taken up again: its row is the last one.
use Rattle.std.proofs.Common.{Vec, Global, ◌≡◌, ℕ, zero, suc, ◌+◌, ◌<◌, ◌^◌, ℤ, pos, ◌+ℤ◌, ◌<ℤ◌, Bool, true, false, cond, List, [], ◌∷◌, ◌++◌, length, refl, sym, ap, ap₂, ◌∙◌, subst, arith}
use Rattle.std.proofs.lemmas.Int.{ints}
use Rattle.std.proofs.lemmas.List.{length-append, length-map}
use Rattle.std.specs.Prelude.{Option, Some, None, unwrap_or}
use Rattle.std.proofs.lemmas.Map.Text.{is_eq-slice_cmp}
use Rattle.std.specs.Cmp.Lexicographic.{nat_list_cmp_total}
use Rattle.std.specs.FinMap as finite
use Rattle.std.specs.Str.{bytes_eq}
use Rattle.iss_model.specs.declared.state.TxnSums.{TxnSums}
use Rattle.iss_model.specs.declared.txn.Txn.{Txn}
use Rattle.iss_model.specs.Sums.{Change, changed_at}
use Rattle.iss_model.specs.rules.Activity.{TxnNow, txn_named}
use Rattle.iss_model.specs.state.Kept.{Kept, IsSmall, AreSmall, nothing_kept, kept_at, after_change, after_changes}
use Rattle.iss_model.specs.state.Cores.{Holdings}
use Rattle.iss_model.proofs.KeptSums.{kept_at-after_changes}
use Rattle.iss_model.proofs.Names.{its_name}
use Rattle.iss_hold.specs.Holdings.{txn_of_hold, tokens}
use Rattle.iss_hold.specs.Restoring.{hold_with, with_carried}
use Rattle.iss_hold.proofs.Beginnings.{map_push}
use Rattle.iss_chain.specs.declared.books.Books.{Books}
use Rattle.iss_chain.specs.declared.sums.PostSums.{PostSums}
use Rattle.iss_chain.specs.Entering.{IsChainSmall}
use Rattle.iss_chain.specs.Restoring.{post_sums, with_restored}
use Rattle.iss_chain.specs.Rows.{row_in, rows_from, rows_in, row_changes, chain_of, AreBooksKept, PutsRow}
use Rattle.iss_chain.specs.Values.{ChainNow}
use Rattle.iss_chain.proofs.Entered.{chain_with}
use Rattle.iss_chain.proofs.RowPlaces.{rows_length}
use Rattle.iss_chain.proofs.RowSums.{from_nothing, nothing_at}

rows_push : (f : ℕ → Option PostSums) (i n j : ℕ) (row : Option PostSums) → j ≡ i + n → f j ≡ row → rows_from f i (suc n) ≡ rows_from f i n ++ row ∷ []
rows_push f i zero j row e own = let same : i ≡ j = omega (arith, e) in ap (λ (o : Option PostSums). o ∷ []) (ap f same ∙ own)
rows_push f i (suc n) j row e own = ap (λ (rs : List (Option PostSums)). f i ∷ rs) (rows_push f (suc i) n j row (omega (arith, e)) own)

-- one more place, with a row
pub rows_with : (f : ℕ → Option PostSums) (n m : ℕ) (row : Option PostSums) → m ≡ n + 1 → f n ≡ row → rows_from f 0 m ≡ rows_from f 0 n ++ row ∷ []
rows_with f n m row e own =
    let next : m ≡ suc n = omega (arith, e) in
    ap (λ (k : ℕ). rows_from f 0 k) next ∙ rows_push f 0 n n row (omega arith) own

-- what the row changes
pub row_last : (sum : PostSums → ℤ) (ns : List (List ℕ)) (n : List ℕ) (rows : List (Option PostSums)) (s : PostSums) → length rows ≡ length ns
    → row_changes sum (ns ++ n ∷ []) (rows ++ Some s ∷ []) ≡ row_changes sum ns rows ++ record { key = n; by = sum s } ∷ []
row_last sum [] n [] s h = refl
row_last sum [] n (r ∷ rows) s h = cc
row_last sum (x ∷ ns) n [] s h = cc
row_last sum (x ∷ ns) n (None ∷ rows) s h = let shorter : length rows ≡ length ns = omega (arith, h) in row_last sum ns n rows s shorter
row_last sum (x ∷ ns) n (Some r ∷ rows) s h =
    let shorter : length rows ≡ length ns = omega (arith, h) in
    ap (λ (cs : List Change). record { key = x; by = sum r } ∷ cs) (row_last sum ns n rows s shorter)

-- a change after others
pub last_change : (m : Kept) (cs : List Change) (c : Change) → after_changes m (cs ++ c ∷ []) ≡ after_change (after_changes m cs) c
last_change m [] c = refl
last_change m (d ∷ cs) c = last_change (after_change m d) cs c

rows_below : (f g : ℕ → Option PostSums) (i n : ℕ) → ((m : ℕ) → m < i + n → g m ≡ f m) → rows_from g i n ≡ rows_from f i n
rows_below f g i zero h = refl
rows_below f g i (suc n) h =
    ap₂ (λ (r : Option PostSums) (rs : List (Option PostSums)). r ∷ rs) (h i (omega arith)) (rows_below f g (suc i) n (λ m le. h m (omega (arith, le))))

-- the rows with that of the transaction that is taken up again
pub rows_restored : (old put : List (Option PostSums)) (n m : ℕ) (s : PostSums) → m ≡ n + 1 → PutsRow old put n s
    → rows_from (row_in put) 0 m ≡ rows_from (row_in old) 0 n ++ Some s ∷ []
rows_restored old put n m s more u =
    rows_with (row_in put) n m (Some s) more (ap (λ (o : Option (Option PostSums)). unwrap_or o None) u.own)
    ∙ ap (λ (rs : List (Option PostSums)). rs ++ Some s ∷ [])
    (rows_below (row_in old) (row_in put) 0 n (λ at h. u.others at (λ same. omega (arith, h, same))))

not_first : (b : Bool) (x : TxnNow) (o : Option TxnNow) → cond b (Some x) o ≡ None → b ≡ false
not_first true x o e = cc
not_first false x o e = refl

not_later : (b : Bool) (x : TxnNow) (o : Option TxnNow) → cond b (Some x) o ≡ None → o ≡ None
not_later true x o e = cc
not_later false x o e = e

no_change : (z w : ℤ) (b : Bool) → b ≡ false → z ≡ pos 0 → cond b w (pos 0) +ℤ z ≡ pos 0
no_change z w true e f = cc
no_change z w false e f = omega (arith, ints, f)

-- no row is of an unknown transaction
none_changed : (sum : PostSums → ℤ) (name : List ℕ) (txns : List TxnNow) (rows : List (Option PostSums)) → txn_named name txns ≡ None → changed_at name (row_changes sum (tokens txns) rows) ≡ pos 0
none_changed sum name [] rows e = refl
none_changed sum name (x ∷ txns) [] e = refl
none_changed sum name (x ∷ txns) (None ∷ rows) e = none_changed sum name txns rows (not_later (bytes_eq x.txn.token name) x (txn_named name txns) e)
none_changed sum name (x ∷ txns) (Some r ∷ rows) e =
    no_change (changed_at name (row_changes sum (tokens txns) rows)) (sum r) (bytes_eq x.txn.token name) (not_first (bytes_eq x.txn.token name) x (txn_named name txns) e)
    (none_changed sum name txns rows (not_later (bytes_eq x.txn.token name) x (txn_named name txns) e))

none_kept : (sum : PostSums → ℤ) (name : List ℕ) (txns : List TxnNow) (rows : List (Option PostSums)) → txn_named name txns ≡ None
    → kept_at (after_changes nothing_kept (row_changes sum (tokens txns) rows)) name ≡ pos 0
none_kept sum name txns rows e =
    kept_at-after_changes nothing_kept (row_changes sum (tokens txns) rows) name
    ∙ ap₂ (λ (a b : ℤ). a +ℤ b) (nothing_at name) (none_changed sum name txns rows e)
    ∙ from_nothing (pos 0)

first_change : (m : Kept) (key : List ℕ) (w : ℤ) → kept_at m key ≡ pos 0 → after_change m (record { key = key; by = w }) ≡ finite.insert m key w
first_change m key w e = ap (λ (z : ℤ). finite.insert m key (z +ℤ w)) e ∙ ap (λ (z : ℤ). finite.insert m key z) (from_nothing w)

-- one of the sums by transaction, with the last one's
pub sum_last : (sum : PostSums → ℤ) (txns : List TxnNow) (x : TxnNow) (rows : List (Option PostSums)) (s : PostSums) → length rows ≡ length txns → txn_named x.txn.token txns ≡ None
    → after_changes nothing_kept (row_changes sum (tokens (txns ++ x ∷ [])) (rows ++ Some s ∷ []))
    ≡ finite.insert (after_changes nothing_kept (row_changes sum (tokens txns) rows)) x.txn.token (sum s)
sum_last sum txns x rows s h none =
    ap (λ (ns : List (List ℕ)). after_changes nothing_kept (row_changes sum ns (rows ++ Some s ∷ []))) (map_push (λ (t : TxnNow). t.txn.token) txns x)
    ∙ ap (λ (cs : List Change). after_changes nothing_kept cs) (row_last sum (tokens txns) x.txn.token rows s (h ∙ sym (length-map txns (λ (t : TxnNow). t.txn.token))))
    ∙ last_change nothing_kept (row_changes sum (tokens txns) rows) (record { key = x.txn.token; by = sum s })
    ∙ first_change (after_changes nothing_kept (row_changes sum (tokens txns) rows)) x.txn.token (sum s) (none_kept sum x.txn.token txns rows none)

its_sum : (m : Kept) (key : List ℕ) (w : ℤ) → kept_at (finite.insert m key w) key ≡ w
its_sum m key w =
    ap (λ (o : Option ℤ). unwrap_or o (pos 0)) (finite.get-insert nat_list_cmp_total m key w key)
    ∙ ap (λ (b : Bool). unwrap_or (cond b (Some w) (finite.get m key)) (pos 0)) (is_eq-slice_cmp key key ∙ its_name key)

below : (a n : ℕ) → pos a <ℤ pos n → a < n
below a n h = omega (arith, ints, h)

-- a sum that is set, and leaves small sums, is below 2^62
pub set_below : (m : Kept) (key : List ℕ) (amount : ℕ) → AreSmall (finite.insert m key (pos amount)) → amount < 2 ^ 62
set_below m key amount small = below amount (2 ^ 62) (subst (λ (z : ℤ). IsSmall z) (its_sum m key (pos amount)) (small key)).high

-- the chain of books in which a transaction was taken up again
pub restored_in : (b : Books) (g : Holdings) (put : Vec (Option PostSums) Global) (t : Txn) (s : TxnSums) (r : PostSums) → txn_named t.token b.holds.txns ≡ None
    → r ≡ post_sums s → g ≡ with_carried b.holds t s → PutsRow b.sums.items put.items (length b.holds.txns) r
    → chain_of (record b { holds = g; sums = put }) ≡ with_restored (chain_of b) t s
restored_in b g put t s r none is e u =
    let n = length b.holds.txns in
    let x = txn_of_hold (hold_with t s) in
    let more : length g.txns ≡ n + 1 = ap (λ (h : Holdings). length h.txns) e ∙ length-append b.holds.txns (x ∷ []) in
    let paired = rows_length (row_in b.sums.items) 0 n in
    let cleared = sum_last (λ q. q.cleared) b.holds.txns x (rows_in b) (post_sums s) paired none in
    let refunded = sum_last (λ q. q.refunded) b.holds.txns x (rows_in b) (post_sums s) paired none in
    let paid = sum_last (λ q. q.paid) b.holds.txns x (rows_in b) (post_sums s) paired none in
    ap (λ (rows : List (Option PostSums)). chain_with b.ledger g rows)
    (rows_restored b.sums.items put.items n (length g.txns) r more u ∙ ap (λ (q : PostSums). rows_in b ++ Some q ∷ []) is)
    ∙ ap (λ (h : Holdings). chain_with b.ledger h (rows_in b ++ Some (post_sums s) ∷ [])) e
    ∙ (λ j. record {
      balances = b.ledger;
      holdings = with_carried b.holds t s;
      txn_sums = record { cleared = cleared j; refunded = refunded j; paid = paid j };
    })

pub restored_kept : (b : Books) (g : Holdings) (put : Vec (Option PostSums) Global) (t : Txn) (s : TxnSums) (r : PostSums) → AreBooksKept b → txn_named t.token b.holds.txns ≡ None
    → IsChainSmall (with_restored (chain_of b) t s) → r ≡ post_sums s → g ≡ with_carried b.holds t s → PutsRow b.sums.items put.items (length b.holds.txns) r
    → AreBooksKept (record b { holds = g; sums = put })
restored_kept b g put t s r kept none small is e u =
    let n = length b.holds.txns in
    let more : length g.txns ≡ n + 1 = ap (λ (h : Holdings). length h.txns) e ∙ length-append b.holds.txns (txn_of_hold (hold_with t s) ∷ []) in
    record {
      none_after = λ at h. u.later at (omega (arith, more, h)) ∙ kept.none_after at (omega (arith, more, h));
      small = subst (λ (x : ChainNow). IsChainSmall x) (sym (restored_in b g put t s r none is e u)) small;
    }
