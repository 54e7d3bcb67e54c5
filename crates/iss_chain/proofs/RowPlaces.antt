-- Rows by their places: what stands there, one more row, and a row that is put there.
use Rattle.std.proofs.Common.{◌≡◌, ℕ, zero, suc, ◌+◌, ◌<◌, ◌≤◌, List, [], ◌∷◌, ◌++◌, length, set, refl, sym, ap, ap₂, ◌∙◌, arith}
use Rattle.std.proofs.lemmas.List.{length-append}
use Rattle.std.specs.Prelude.{Option, Some, None, IsSome, slice_get, unwrap_or}
use Rattle.std.specs.Option.{option_map}
use Rattle.iss_model.specs.declared.txn.Txn.{Txn}
use Rattle.iss_model.specs.state.Cores.{Holdings, with_txn, is_live}
use Rattle.iss_chain.specs.declared.sums.PostSums.{PostSums}
use Rattle.iss_chain.specs.Rows.{row_in, rows_from, row_sums, PutsRow}

-- ---- rows from a place on

rows_apart : (f g : ℕ → Option PostSums) (i n : ℕ) → ((m : ℕ) → i ≤ m → g m ≡ f m) → rows_from g i n ≡ rows_from f i n
rows_apart f g i zero h = refl
rows_apart f g i (suc n) h =
    ap₂ (λ (r : Option PostSums) (rs : List (Option PostSums)). r ∷ rs) (h i (omega arith)) (rows_apart f g (suc i) n (λ m le. h m (omega (arith, le))))

pub rows_same : {f g : ℕ → Option PostSums} (n : ℕ) → ((m : ℕ) → g m ≡ f m) → rows_from g 0 n ≡ rows_from f 0 n
rows_same {f} {g} n h = rows_apart f g 0 n (λ m le. h m)

row_from : (f : ℕ → Option PostSums) (i n k j : ℕ) → j ≡ i + k → k < n → slice_get (rows_from f i n) k ≡ Some (f j)
row_from f i zero k j e h = absurd (omega (arith, h))
row_from f i (suc n) zero j e h = let same : i ≡ j = omega (arith, e) in ap (λ (m : ℕ). Some (f m)) same
row_from f i (suc n) (suc k) j e h = row_from f (suc i) n k j (omega (arith, e)) (omega (arith, h))

-- the row at a place
pub row_there : (f : ℕ → Option PostSums) (n k : ℕ) → k < n → slice_get (rows_from f 0 n) k ≡ Some (f k)
row_there f n k h = row_from f 0 n k k (omega arith) h

rows_push : (f : ℕ → Option PostSums) (i n j : ℕ) → j ≡ i + n → f j ≡ None → rows_from f i (suc n) ≡ rows_from f i n ++ None ∷ []
rows_push f i zero j e none = let same : i ≡ j = omega (arith, e) in ap (λ (o : Option PostSums). o ∷ []) (ap f same ∙ none)
rows_push f i (suc n) j e none = ap (λ (rs : List (Option PostSums)). f i ∷ rs) (rows_push f (suc i) n j (omega (arith, e)) none)

-- one more place, at which nothing stands
pub rows_more : (f : ℕ → Option PostSums) (n m : ℕ) → m ≡ n + 1 → f n ≡ None → rows_from f 0 m ≡ rows_from f 0 n ++ None ∷ []
rows_more f n m e none =
    let next : m ≡ suc n = omega (arith, e) in
    ap (λ (k : ℕ). rows_from f 0 k) next ∙ rows_push f 0 n n (omega arith) none

rows_put : (f g : ℕ → Option PostSums) (i n k j : ℕ) (row : Option PostSums) → j ≡ i + k → k < n → g j ≡ row → ((m : ℕ) → (m ≡ j → ⊥) → g m ≡ f m)
    → rows_from g i n ≡ set (rows_from f i n) k row
rows_put f g i zero k j row e h own others = absurd (omega (arith, h))
rows_put f g i (suc n) zero j row e h own others =
    let same : i ≡ j = omega (arith, e) in
    ap₂ (λ (r : Option PostSums) (rs : List (Option PostSums)). r ∷ rs) (ap g same ∙ own)
    (rows_apart f g (suc i) n (λ m le. others m (λ q. omega (arith, e, le, q))))
rows_put f g i (suc n) (suc k) j row e h own others =
    ap₂ (λ (r : Option PostSums) (rs : List (Option PostSums)). r ∷ rs) (others i (λ q. omega (arith, e, q)))
    (rows_put f g (suc i) n k j row (omega (arith, e)) (omega (arith, h)) own others)

-- a row that is put at a place
pub rows_set : (f g : ℕ → Option PostSums) (n k : ℕ) (row : Option PostSums) → k < n → g k ≡ row → ((m : ℕ) → (m ≡ k → ⊥) → g m ≡ f m) → rows_from g 0 n ≡ set (rows_from f 0 n) k row
rows_set f g n k row h own others = rows_put f g 0 n k k row (omega arith) h own others

pub rows_length : (f : ℕ → Option PostSums) (i n : ℕ) → length (rows_from f i n) ≡ n
rows_length f i zero = refl
rows_length f i (suc n) = ap suc (rows_length f (suc i) n)

-- ---- the list of rows

-- there is room for the row at a place: each row is as it was, and so is what stands after that place
pub record IsRoomed (before after : List (Option PostSums)) (place : ℕ) : Type 0 where
  pub same : (at : ℕ) → row_in after at ≡ row_in before at
  pub later : (at : ℕ) → place < at → slice_get after at ≡ slice_get before at

pub roomed_none : (xs : List (Option PostSums)) (place : ℕ) → IsRoomed xs xs place
roomed_none xs place = record { same = λ at. refl; later = λ at after. refl }

none_more : (xs : List (Option PostSums)) (at : ℕ) → row_in (xs ++ None ∷ []) at ≡ row_in xs at
none_more [] zero = refl
none_more [] (suc at) = refl
none_more (x ∷ xs) zero = refl
none_more (x ∷ xs) (suc at) = none_more xs at

after_more : (xs : List (Option PostSums)) (at : ℕ) → length xs < at → slice_get (xs ++ None ∷ []) at ≡ slice_get xs at
after_more [] zero h = absurd (omega (arith, h))
after_more [] (suc at) h = refl
after_more (x ∷ xs) zero h = absurd (omega (arith, h))
after_more (x ∷ xs) (suc at) h = after_more xs at (omega (arith, h))

-- one place more without a row
pub roomed_more : (xs ys zs : List (Option PostSums)) (place : ℕ) → length ys ≤ place → zs ≡ ys ++ None ∷ [] → IsRoomed xs ys place → IsRoomed xs zs place
roomed_more xs ys zs place h e roomed =
    record {
      same = λ at. ap (λ (rows : List (Option PostSums)). row_in rows at) e ∙ none_more ys at ∙ roomed.same at;
      later = λ at after. ap (λ (rows : List (Option PostSums)). slice_get rows at) e ∙ after_more ys at (omega (arith, h, after)) ∙ roomed.later at after;
    }

-- something stands at each place of a list
pub stands_within : (xs : List (Option PostSums)) (at : ℕ) → at < length xs → IsSome (slice_get xs at)
stands_within [] at h = absurd (omega (arith, h))
stands_within (x ∷ xs) zero h = refl
stands_within (x ∷ xs) (suc at) h = stands_within xs at (omega (arith, h))

pub within_if_stands : (xs : List (Option PostSums)) (at : ℕ) → IsSome (slice_get xs at) → at < length xs
within_if_stands [] at h = cc
within_if_stands (x ∷ xs) zero h = omega arith
within_if_stands (x ∷ xs) (suc at) h = let rest : at < length xs = within_if_stands xs at h in omega (arith, rest)

put_own : (xs : List (Option PostSums)) (place : ℕ) (row : Option PostSums) → IsSome (slice_get xs place) → slice_get (set xs place row) place ≡ Some row
put_own [] place row h = cc
put_own (x ∷ xs) zero row h = refl
put_own (x ∷ xs) (suc place) row h = put_own xs place row h

put_other : (xs : List (Option PostSums)) (place : ℕ) (row : Option PostSums) (at : ℕ) → (at ≡ place → ⊥) → slice_get (set xs place row) at ≡ slice_get xs at
put_other [] place row at apart = refl
put_other (x ∷ xs) zero row zero apart = absurd (apart refl)
put_other (x ∷ xs) zero row (suc at) apart = refl
put_other (x ∷ xs) (suc place) row zero apart = refl
put_other (x ∷ xs) (suc place) row (suc at) apart = put_other xs place row at (λ e. apart (ap suc e))

-- sums that are written at a place where something stands
pub puts_row : (xs ys : List (Option PostSums)) (place : ℕ) (s : PostSums) → IsSome (slice_get xs place) → ys ≡ set xs place (Some s) → PutsRow xs ys place s
puts_row xs ys place s h e =
    record {
      own = ap (λ (rows : List (Option PostSums)). slice_get rows place) e ∙ put_own xs place (Some s) h;
      others = λ at apart.
          ap (λ (rows : List (Option PostSums)). row_in rows at) e
          ∙ ap (λ (o : Option (Option PostSums)). unwrap_or o None) (put_other xs place (Some s) at apart);
      later = λ at after.
          ap (λ (rows : List (Option PostSums)). slice_get rows at) e ∙ put_other xs place (Some s) at (λ same. omega (arith, after, same));
    }

-- sums that are written over room for them
pub puts_over : (xs room ys : List (Option PostSums)) (place : ℕ) (s : PostSums) → ((at : ℕ) → row_in room at ≡ row_in xs at)
    → ((at : ℕ) → place < at → slice_get room at ≡ slice_get xs at) → PutsRow room ys place s → PutsRow xs ys place s
puts_over xs room ys place s same later put =
    record {
      own = put.own;
      others = λ at apart. put.others at apart ∙ same at;
      later = λ at after. put.later at after ∙ later at after;
    }

-- sums that are put at the place of a transaction are its row
pub put_rows : (m n : List (Option PostSums)) (count place : ℕ) (s : PostSums) → place < count → PutsRow m n place s
    → rows_from (row_in n) 0 count ≡ set (rows_from (row_in m) 0 count) place (Some s)
put_rows m n count place s h put =
    rows_set (row_in m) (row_in n) count place (Some s) h (ap (λ (o : Option (Option PostSums)). unwrap_or o None) put.own) put.others

-- the sums at a place are those of its row
pub sums_there : (f : ℕ → Option PostSums) (count place : ℕ) (s : PostSums) → place < count → s ≡ row_sums (f place) → Some s ≡ option_map row_sums (slice_get (rows_from f 0 count) place)
sums_there f count place s h e = ap (λ (x : PostSums). Some x) e ∙ ap (λ (o : Option (Option PostSums)). option_map row_sums o) (sym (row_there f count place h))

-- after one more transaction begins, there is one more
pub one_more : (h g : Holdings) (t : Txn) → g ≡ with_txn h t → length g.txns ≡ length h.txns + 1
one_more h g t e = ap (λ (x : Holdings). length x.txns) e ∙ length-append h.txns (record { txn = t; live = is_live h.txns t.token } ∷ [])
