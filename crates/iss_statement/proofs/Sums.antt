-- What rows add to what a user has.
use Rattle.std.proofs.Common.{◌≡◌, ⊎_elim, ℕ, ℤ, pos, neg_ℤ, ◌+ℤ◌, Bool, true, false, ◌||◌, cond, List, [], ◌∷◌, filter, fold, refl, sym, ap, ◌∙◌, arith}
use Rattle.std.proofs.Math.IntN.{+ℤ_idr}
use Rattle.std.proofs.lemmas.Int.{ints}
use Rattle.iss_model.specs.declared.currency.Currency.{Currency}
use Rattle.iss_archive.specs.declared.post.PostRow.{PostRow}
use Rattle.iss_archive.specs.Archived.{is_users, is_of_user, rows_of_user}
use Rattle.iss_archive.specs.Statable.{signed_amount}
use Rattle.iss_statement.proofs.Rows.{either, kept, passed_over}

-- what the user has after these rows, who had z before them
abbrev pub sum_from : List ℕ → Currency → ℤ → List PostRow → ℤ
sum_from u c z rows = fold (λ sum row. sum +ℤ signed_amount u c row) z rows

neither : (f t : Bool) (n : ℕ) → (f || t) ≡ false → (cond t (pos n) (pos 0)) +ℤ (cond f (neg_ℤ (pos n)) (pos 0)) ≡ pos 0
neither false false n h = refl
neither false true n h = absurd cc
neither true t n h = absurd cc

-- a row of others adds nothing
pub no_part : (u : List ℕ) (c : Currency) (row : PostRow) → is_of_user u c row ≡ false → signed_amount u c row ≡ pos 0
no_part u c row h = neither (is_users u c row.from) (is_users u c row.to) row.amount h

again : (z s t later now : ℤ) → later ≡ (z +ℤ s) +ℤ t → now ≡ (pos 0 +ℤ s) +ℤ t → later ≡ z +ℤ now
again z s t later now p q = omega (arith, ints)

-- what rows add doesn't depend on what the user had
pub shifted : (u : List ℕ) (c : Currency) (z : ℤ) (rows : List PostRow) → sum_from u c z rows ≡ z +ℤ sum_from u c (pos 0) rows
shifted u c z [] = sym (+ℤ_idr z)
shifted u c z (row ∷ rows) =
    let s = signed_amount u c row in
    again z s (sum_from u c (pos 0) rows) (sum_from u c (z +ℤ s) rows) (sum_from u c (pos 0 +ℤ s) rows) (shifted u c (z +ℤ s) rows) (shifted u c (pos 0 +ℤ s) rows)

module _ (u : List ℕ) (c : Currency) where
  -- a row that passes a test counts once, if the user's account is on a side of it
  pub adds_row : (p : PostRow → Bool) (z : ℤ) (row : PostRow) (rest : List PostRow) → p row ≡ true
      → sum_from u c z (filter p (rows_of_user u c (row ∷ rest))) ≡ sum_from u c (z +ℤ signed_amount u c row) (filter p (rows_of_user u c rest))
  adds_row p z row rest passes =
      ⊎_elim
      (λ (own : is_of_user u c row ≡ true).
      ap (λ (l : List PostRow). sum_from u c z (filter p l)) (kept (is_of_user u c) row rest own)
      ∙ ap (sum_from u c z) (kept p row (rows_of_user u c rest) passes))
      (λ (others : is_of_user u c row ≡ false).
      ap (λ (l : List PostRow). sum_from u c z (filter p l)) (passed_over (is_of_user u c) row rest others)
      ∙ ap (λ (n : ℤ). sum_from u c n (filter p (rows_of_user u c rest))) (sym (+ℤ_idr z) ∙ ap (λ (n : ℤ). z +ℤ n) (sym (no_part u c row others))))
      (either (is_of_user u c row))

  -- a row that doesn't pass a test is left out, whose ever it is
  pub leaves_out : (p : PostRow → Bool) (row : PostRow) (rest : List PostRow) → p row ≡ false
      → filter p (rows_of_user u c (row ∷ rest)) ≡ filter p (rows_of_user u c rest)
  leaves_out p row rest fails =
      ⊎_elim
      (λ (own : is_of_user u c row ≡ true). ap (filter p) (kept (is_of_user u c) row rest own) ∙ passed_over p row (rows_of_user u c rest) fails)
      (λ (others : is_of_user u c row ≡ false). ap (filter p) (passed_over (is_of_user u c) row rest others))
      (either (is_of_user u c row))

  -- the user's rows add all that rows add
  pub own_add_all : (z : ℤ) (rows : List PostRow) → sum_from u c z (rows_of_user u c rows) ≡ sum_from u c z rows
  own_add_all z [] = refl
  own_add_all z (row ∷ rest) =
      ⊎_elim
      (λ (own : is_of_user u c row ≡ true). ap (sum_from u c z) (kept (is_of_user u c) row rest own) ∙ own_add_all (z +ℤ signed_amount u c row) rest)
      (λ (others : is_of_user u c row ≡ false).
      ap (sum_from u c z) (passed_over (is_of_user u c) row rest others)
      ∙ own_add_all z rest
      ∙ ap (λ (n : ℤ). sum_from u c n rest) (sym (+ℤ_idr z) ∙ ap (λ (n : ℤ). z +ℤ n) (sym (no_part u c row others))))
      (either (is_of_user u c row))
