-- The closing balance of a statement over all that a book posted.
use Rattle.std.proofs.Common.{◌≡◌, ⊎_elim, ℕ, ℤ, pos, ◌+ℤ◌, negsuc, ◌≤◌, ◌/◌, ◌+◌, int_lt, Bool, true, false, not, ◌&&◌, List, [], ◌∷◌, filter, refl, sym, ap, ◌∙◌, arith}
use Rattle.std.proofs.lemmas.Int.{ints}
use Rattle.std.proofs.lemmas.Bool.Decides.{nat_tests}
use Rattle.iss_model.specs.declared.currency.Currency.{Currency}
use Rattle.iss_model.specs.declared.input.Record.{Record}
use Rattle.iss_archive.specs.declared.post.PostRow.{PostRow}
use Rattle.iss_archive.specs.Archived.{rows_of_user}
use Rattle.iss_archive.specs.Postings.{postings_of, book_balance}
use Rattle.iss_archive.specs.Statable.{signed_amount, is_statable, is_statable_from}
use Rattle.iss_archive.specs.Statement.{is_before, is_after, added_by, rows_between, closing_balance}
use Rattle.iss_archive.proofs.BalanceLaws.{postings_balance}
use Rattle.iss_statement.specs.Covered.{is_covered, EndsBy}
use Rattle.iss_statement.proofs.Rows.{either, both, join, kept, passed_over}
use Rattle.iss_statement.proofs.Sums.{shifted, own_add_all}
use Rattle.iss_statement.proofs.Order.{stands, reaches, same_day_on}

-- one row more at the front
one_more : (u : List ℕ) (c : Currency) (row : PostRow) (rows : List PostRow) → added_by u c (row ∷ rows) ≡ signed_amount u c row +ℤ added_by u c rows
one_more u c row rows =
    let later = shifted u c (pos 0 +ℤ signed_amount u c row) rows in omega (arith, ints, later)

left_adds : (s a b x later : ℤ) → a +ℤ b ≡ x → later ≡ s +ℤ a → later +ℤ b ≡ s +ℤ x
left_adds s a b x later e h = omega (arith, ints)

right_adds : (s a b x later : ℤ) → a +ℤ b ≡ x → later ≡ s +ℤ b → a +ℤ later ≡ s +ℤ x
right_adds s a b x later e h = omega (arith, ints)

module _ (u : List ℕ) (c : Currency) (first last : ℤ) where
  -- if no row is of a later day, those of earlier days and those that are shown add all
  splits : (rows : List PostRow) → is_covered last rows ≡ true → added_by u c (filter (is_before first) rows) +ℤ added_by u c (rows_between first last rows) ≡ added_by u c rows
  splits [] h = refl
  splits (row ∷ rows) h =
      let parts = both (not (is_after last row)) (is_covered last rows) h in
      let rest = splits rows parts.1 in
      let s = signed_amount u c row in
      let a = added_by u c (filter (is_before first) rows) in
      let b = added_by u c (rows_between first last rows) in
      let p : PostRow → Bool = λ r. not (is_before first r) && not (is_after last r) in
      ⊎_elim
      (λ (early : is_before first row ≡ true).
      ap (λ (l : List PostRow). added_by u c l +ℤ added_by u c (filter p (row ∷ rows))) (kept (is_before first) row rows early)
      ∙ ap (λ (l : List PostRow). added_by u c (row ∷ filter (is_before first) rows) +ℤ added_by u c l)
      (passed_over p row rows (ap (λ (b : Bool). not b && not (is_after last row)) early))
      ∙ left_adds s a b (added_by u c rows) (added_by u c (row ∷ filter (is_before first) rows)) rest (one_more u c row (filter (is_before first) rows))
      ∙ sym (one_more u c row rows))
      (λ (late : is_before first row ≡ false).
      ap (λ (l : List PostRow). added_by u c l +ℤ added_by u c (filter p (row ∷ rows))) (passed_over (is_before first) row rows late)
      ∙ ap (λ (l : List PostRow). a +ℤ added_by u c l)
      (kept p row rows (ap (λ (b : Bool). not b && not (is_after last row)) late ∙ parts.0))
      ∙ right_adds s a b (added_by u c rows) (added_by u c (row ∷ filter p rows)) rest (one_more u c row (filter p rows))
      ∙ sym (one_more u c row rows))
      (either (is_before first row))

pub closing : (u : List ℕ) (c : Currency) (rs : List Record) (first last : ℤ) → is_covered last (rows_of_user u c (postings_of rs)) ≡ true
    → closing_balance u c first last (rows_of_user u c (postings_of rs)) ≡ book_balance u c rs
closing u c rs first last h = splits u c first last (rows_of_user u c (postings_of rs)) h ∙ own_add_all u c (pos 0) (postings_of rs) ∙ postings_balance u c rs

not_after_before : (d : ℤ) (k n : ℕ) → k ≤ n → not (int_lt d (pos n)) ≡ true → not (int_lt d (pos k)) ≡ true
not_after_before (pos m) k n h e = grind (arith, nat_tests)
not_after_before (negsuc m) k n h e = absurd cc

-- if the last row isn't of a later day, no row is
covers_from : (u : List ℕ) (c : Currency) (least stamp : ℕ) (sum last : ℤ) (rows : List PostRow) → is_statable_from u c least stamp sum rows ≡ true → EndsBy last rows → is_covered last rows ≡ true
covers_from u c least stamp sum last [] h e = refl
covers_from u c least stamp sum last (row ∷ []) h e = join (not (is_after last row)) true (ap not e) refl
covers_from u c least stamp sum last (row ∷ next ∷ rest) h e =
    let s = stands u c least stamp sum row (next ∷ rest) h in
    let after = sum +ℤ signed_amount u c row in
    let t = stands u c (row.seq + 1) row.at after next rest s.next in
    let later = covers_from u c (row.seq + 1) row.at after last (next ∷ rest) s.next e in
    let parts = both (not (is_after last next)) (is_covered last rest) later in
    join (not (is_after last row)) (is_covered last (next ∷ rest))
    (not_after_before last (row.at / 86400000) (next.at / 86400000) (same_day_on row.at next.at (reaches row.at next.at t.later)) parts.0)
    later

pub covers : (u : List ℕ) (c : Currency) (rows : List PostRow) (last : ℤ) → is_statable u c rows ≡ true → EndsBy last rows → is_covered last rows ≡ true
covers u c rows last h e = covers_from u c 0 0 (pos 0) last rows h e
