-- The steps of the two loops over the rows.
use Rattle.std.proofs.Common.{◌≡◌, ◌≤◌, ◌<◌, ◌+◌, ◌^◌, ⊎_elim, ℕ, ℤ, pos, neg_ℤ, ◌+ℤ◌, ◌<ℤ◌, ◌≤ℤ◌, int_lt, Bool, true, false, not, ◌&&◌, List, [], ◌∷◌, ◌++◌, length, filter, map, drop, get_or, refl, sym, ap, subst, ◌∙◌, append_assoc, codes, arith}
use Rattle.std.proofs.lemmas.Int.{ints}
use Rattle.std.proofs.lemmas.List.{append-nil, drop_more}
use Rattle.std.specs.List.{list_all}
use Rattle.iss_model.specs.declared.currency.Currency.{Currency}
use Rattle.iss_archive.specs.declared.post.PostRow.{PostRow}
use Rattle.iss_archive.specs.Archived.{is_of_user, rows_of_user}
use Rattle.iss_archive.specs.Statable.{signed_amount, is_small, is_statable}
use Rattle.iss_archive.specs.Statement.{is_before, is_after, rows_between, opening_balance, closing_balance, added_by, row_line, balance_line, statement_of}
use Rattle.iss_statement.specs.declared.opening.Opening.{Opening}
use Rattle.iss_statement.specs.Openings.{GoesOn, IsOpening, rows_to}
use Rattle.iss_statement.proofs.Rows.{either, both, all_of_filter, none_kept, both_filters, kept, passed_over}
use Rattle.iss_statement.proofs.Sums.{sum_from, adds_row, leaves_out, shifted}
use Rattle.iss_statement.proofs.Order.{stands, none_before, all_after, goes_on_after}

from_lt : (a b : ℤ) → int_lt a b ≡ true → a <ℤ b
from_lt a b h = grind (arith, ints)

pub to_lt : (a b : ℤ) → a <ℤ b → int_lt a b ≡ true
to_lt a b h = grind (arith, ints)

pub not_lt : (a b : ℤ) → b ≤ℤ a → int_lt a b ≡ false
not_lt a b h = grind (arith, ints)

-- what the user has lies within the bounds of the code
pub small_low : (n : ℤ) → is_small n ≡ true → neg_ℤ (pos (2 ^ 62)) <ℤ n
small_low n h = from_lt (neg_ℤ (pos (2 ^ 62))) n (both (int_lt (neg_ℤ (pos (2 ^ 62))) n) (int_lt n (pos (2 ^ 62))) h).0

pub small_high : (n : ℤ) → is_small n ≡ true → n <ℤ pos (2 ^ 62)
small_high n h = from_lt n (pos (2 ^ 62)) (both (int_lt (neg_ℤ (pos (2 ^ 62))) n) (int_lt n (pos (2 ^ 62))) h).1

-- what lies between two such numbers fits 64 bits
step_low : (sum by : ℤ) → sum <ℤ pos (2 ^ 62) → neg_ℤ (pos (2 ^ 62)) <ℤ (sum +ℤ by) → neg_ℤ (pos (2 ^ 63)) <ℤ by
step_low sum by h k = omega (arith, ints)

step_high : (sum by : ℤ) → neg_ℤ (pos (2 ^ 62)) <ℤ sum → (sum +ℤ by) <ℤ pos (2 ^ 62) → by <ℤ pos (2 ^ 63)
step_high sum by h k = omega (arith, ints)

drop_whole : {X : Type 0} (xs : List X) → drop (length xs) xs ≡ []
drop_whole [] = refl
drop_whole (x ∷ xs) = drop_whole xs

module _ (u : List ℕ) (c : Currency) where
  pub amount_low : (sum : ℤ) (row : PostRow) (rest : List PostRow) → GoesOn u c sum (row ∷ rest) → neg_ℤ (pos (2 ^ 63)) <ℤ signed_amount u c row
  amount_low sum row rest on =
      step_low sum (signed_amount u c row) (small_high sum on.small)
      (small_low (sum +ℤ signed_amount u c row) (stands u c on.least on.stamp sum row rest on.statable).small)

  pub amount_high : (sum : ℤ) (row : PostRow) (rest : List PostRow) → GoesOn u c sum (row ∷ rest) → signed_amount u c row <ℤ pos (2 ^ 63)
  amount_high sum row rest on =
      step_high sum (signed_amount u c row) (small_low sum on.small)
      (small_high (sum +ℤ signed_amount u c row) (stands u c on.least on.stamp sum row rest on.statable).small)

  -- what is left, with its first row
  pub with_first : (P : List PostRow → Type 0) (all : List PostRow) (i : ℕ) (row : PostRow) → i < length all → row ≡ get_or all i row → P (drop i all) → P (row ∷ drop (i + 1) all)
  with_first P all i row within is = subst P (drop_more all i row within ∙ ap (λ (r : PostRow). r ∷ drop (i + 1) all) (sym is))

  pub starts : (rows : List PostRow) → is_statable u c rows ≡ true → GoesOn u c (pos 0) rows
  starts rows h = record { least = 0; stamp = 0; small = refl; statable = h }

  -- what is left of the rows comes to the opening, and shows the same
  pub record Opens (first : ℤ) (all left : List PostRow) (balance : ℤ) : Type 0 where
    pub goes_on : GoesOn u c balance left
    pub comes_to : sum_from u c balance (filter (is_before first) (rows_of_user u c left)) ≡ opening_balance u c first (rows_of_user u c all)
    pub shows : (last : ℤ) → rows_between first last (rows_of_user u c left) ≡ rows_between first last (rows_of_user u c all)

  pub opens_all : (first : ℤ) (all : List PostRow) → is_statable u c all ≡ true → Opens first all all (pos 0)
  opens_all first all h = record { goes_on = starts all h; comes_to = refl; shows = λ last. refl }

  pub opens_next : (first balance : ℤ) (all : List PostRow) (row : PostRow) (rest : List PostRow) → Opens first all (row ∷ rest) balance → is_before first row ≡ true
      → Opens first all rest (balance +ℤ signed_amount u c row)
  opens_next first balance all row rest on earlier =
      record {
        goes_on = goes_on_after u c first balance row rest on.goes_on;
        comes_to = sym (adds_row u c (is_before first) balance row rest earlier) ∙ on.comes_to;
        shows =
            λ last.
            sym (leaves_out u c (λ r. not (is_before first r) && not (is_after last r)) row rest (ap (λ (b : Bool). not b && not (is_after last row)) earlier))
            ∙ on.shows last;
      }

  -- rows none of which is of an earlier day
  module _ (first balance : ℤ) (all left : List PostRow) (on : Opens first all left balance) (late : list_all (λ r. not (is_before first r)) left ≡ true) where
    none_earlier : list_all (λ r. not (is_before first r)) (rows_of_user u c left) ≡ true
    none_earlier = all_of_filter (λ r. not (is_before first r)) (is_of_user u c) left late

    pub opened_with : balance ≡ opening_balance u c first (rows_of_user u c all)
    opened_with = ap (sum_from u c balance) (sym (none_kept (is_before first) (rows_of_user u c left) none_earlier)) ∙ on.comes_to

    pub opened_before : (last : ℤ) → rows_between first last (rows_of_user u c all) ≡ rows_to last (rows_of_user u c left)
    opened_before last =
        sym (on.shows last) ∙ both_filters (λ r. not (is_before first r)) (λ r. not (is_after last r)) (rows_of_user u c left) none_earlier

  pub opening_next : (first balance next : ℤ) (all : List PostRow) (i : ℕ) (row : PostRow) → i < length all → row ≡ get_or all i row → Opens first all (drop i all) balance → is_before first row ≡ true
      → next ≡ balance +ℤ signed_amount u c row → Opens first all (drop (i + 1) all) next
  opening_next first balance next all i row within is on earlier sum =
      subst (Opens first all (drop (i + 1) all)) (sym sum)
      (opens_next first balance all row (drop (i + 1) all) (with_first (λ (l : List PostRow). Opens first all l balance) all i row within is on) earlier)

  opening_from : (first balance : ℤ) (all : List PostRow) (i : ℕ) → i ≤ length all → Opens first all (drop i all) balance → list_all (λ r. not (is_before first r)) (drop i all) ≡ true
      → IsOpening u c first all (record { rows = i; balance = balance })
  opening_from first balance all i within on late =
      record {
        within = within;
        balance_is = opened_with first balance all (drop i all) on late;
        shown = opened_before first balance all (drop i all) on late;
        goes_on = on.goes_on;
      }

  -- the opening, at the first row that isn't of an earlier day
  pub opening_at : (first balance : ℤ) (all : List PostRow) (i : ℕ) (row : PostRow) → i < length all → row ≡ get_or all i row → Opens first all (drop i all) balance → is_before first row ≡ false
      → IsOpening u c first all (record { rows = i; balance = balance })
  opening_at first balance all i row within is on late =
      let cut : row ∷ drop (i + 1) all ≡ drop i all = sym (drop_more all i row within ∙ ap (λ (r : PostRow). r ∷ drop (i + 1) all) (sym is)) in
      opening_from first balance all i (omega arith) on
      (subst (λ (l : List PostRow). list_all (λ r. not (is_before first r)) l ≡ true) cut
      (none_before u c first balance row (drop (i + 1) all) (with_first (GoesOn u c balance) all i row within is on.goes_on) late))

  -- the opening, if all rows are of earlier days
  pub opening_end : (first balance : ℤ) (all : List PostRow) (i : ℕ) → i ≡ length all → Opens first all (drop i all) balance → IsOpening u c first all (record { rows = length all; balance = balance })
  opening_end first balance all i is on =
      opening_from first balance all (length all) (omega arith) (subst (λ (n : ℕ). Opens first all (drop n all) balance) is on)
      (ap (list_all (λ r. not (is_before first r))) (drop_whole all))

  -- what is left of the rows comes to the same lines and the same balance
  pub record Puts (last : ℤ) (all left : List PostRow) (start now : ℤ) (before lines : List (List ℕ)) : Type 0 where
    pub goes_on : GoesOn u c now left
    pub text : lines ++ map (row_line u c) (rows_to last (rows_of_user u c left)) ≡ before ++ map (row_line u c) (rows_to last (rows_of_user u c all))
    pub comes_to : sum_from u c now (rows_to last (rows_of_user u c left)) ≡ sum_from u c start (rows_to last (rows_of_user u c all))

  pub puts_all : (last start : ℤ) (all : List PostRow) (before : List (List ℕ)) → GoesOn u c start all → Puts last all all start start before before
  puts_all last start all before on = record { goes_on = on; text = refl; comes_to = refl }

  -- the line of a row, and the lines of those after it
  first_line : (last : ℤ) (row : PostRow) (rest : List PostRow) → not (is_after last row) ≡ true
      → map (row_line u c) (rows_of_user u c (row ∷ [])) ++ map (row_line u c) (rows_to last (rows_of_user u c rest)) ≡ map (row_line u c) (rows_to last (rows_of_user u c (row ∷ rest)))
  first_line last row rest within =
      let p : PostRow → Bool = λ r. not (is_after last r) in
      let lines : List PostRow → List (List ℕ) = map (row_line u c) in
      ⊎_elim
      (λ (own : is_of_user u c row ≡ true).
      ap (λ (l : List PostRow). lines l ++ lines (rows_to last (rows_of_user u c rest))) (kept (is_of_user u c) row [] own)
      ∙ sym (ap (λ (l : List PostRow). lines (filter p l)) (kept (is_of_user u c) row rest own) ∙ ap lines (kept p row (rows_of_user u c rest) within)))
      (λ (others : is_of_user u c row ≡ false).
      ap (λ (l : List PostRow). lines l ++ lines (rows_to last (rows_of_user u c rest))) (passed_over (is_of_user u c) row [] others)
      ∙ sym (ap (λ (l : List PostRow). lines (filter p l)) (passed_over (is_of_user u c) row rest others)))
      (either (is_of_user u c row))

  pub puts_next : (last start now : ℤ) (all : List PostRow) (row : PostRow) (rest : List PostRow) (before lines more : List (List ℕ)) → Puts last all (row ∷ rest) start now before lines
      → not (is_after last row) ≡ true → more ≡ lines ++ map (row_line u c) (rows_of_user u c (row ∷ [])) → Puts last all rest start (now +ℤ signed_amount u c row) before more
  puts_next last start now all row rest before lines more on within is =
      record {
        goes_on = goes_on_after u c last now row rest on.goes_on;
        text =
            ap (λ (l : List (List ℕ)). l ++ map (row_line u c) (rows_to last (rows_of_user u c rest))) is
            ∙ append_assoc lines (map (row_line u c) (rows_of_user u c (row ∷ []))) (map (row_line u c) (rows_to last (rows_of_user u c rest)))
            ∙ ap (λ (l : List (List ℕ)). lines ++ l) (first_line last row rest within)
            ∙ on.text;
        comes_to = sym (adds_row u c (λ r. not (is_after last r)) now row rest within) ∙ on.comes_to;
      }

  -- rows all of which are of later days
  module _ (last start now : ℤ) (all left : List PostRow) (before lines : List (List ℕ)) (on : Puts last all left start now before lines) (late : list_all (λ r. not (not (is_after last r))) left ≡ true) where
    none_left : rows_to last (rows_of_user u c left) ≡ []
    none_left =
        none_kept (λ r. not (is_after last r)) (rows_of_user u c left)
        (all_of_filter (λ r. not (not (is_after last r))) (is_of_user u c) left late)

    pub all_put : lines ≡ before ++ map (row_line u c) (rows_to last (rows_of_user u c all))
    all_put = sym (append-nil lines) ∙ ap (λ (l : List PostRow). lines ++ map (row_line u c) l) (sym none_left) ∙ on.text

    pub all_added : now ≡ start +ℤ added_by u c (rows_to last (rows_of_user u c all))
    all_added = ap (sum_from u c now) (sym none_left) ∙ on.comes_to ∙ shifted u c start (rows_to last (rows_of_user u c all))

  pub putting_next : (last start now next : ℤ) (all : List PostRow) (i : ℕ) (row : PostRow) (before lines more : List (List ℕ)) → i < length all → row ≡ get_or all i row → Puts last all (drop i all) start now before lines
      → is_after last row ≡ false → more ≡ lines ++ map (row_line u c) (rows_of_user u c (row ∷ [])) → next ≡ now +ℤ signed_amount u c row → Puts last all (drop (i + 1) all) start next before more
  putting_next last start now next all i row before lines more within is on early text sum =
      subst (λ (n : ℤ). Puts last all (drop (i + 1) all) start n before more) (sym sum)
      (puts_next last start now all row (drop (i + 1) all) before lines more (with_first (λ (l : List PostRow). Puts last all l start now before lines) all i row within is on) (ap not early) text)

  -- all that is known where the putting ends
  pub record PutsAll (last : ℤ) (all : List PostRow) (start now : ℤ) (before lines : List (List ℕ)) : Type 0 where
    pub text : lines ≡ before ++ map (row_line u c) (rows_to last (rows_of_user u c all))
    pub sum : now ≡ start +ℤ added_by u c (rows_to last (rows_of_user u c all))
    pub small : is_small now ≡ true

  putting_from : (last start now : ℤ) (all left : List PostRow) (before lines : List (List ℕ)) → Puts last all left start now before lines → list_all (λ r. not (not (is_after last r))) left ≡ true
      → PutsAll last all start now before lines
  putting_from last start now all left before lines on late =
      record { text = all_put last start now all left before lines on late; sum = all_added last start now all left before lines on late; small = on.goes_on.small }

  pub putting_at : (last start now : ℤ) (all : List PostRow) (i : ℕ) (row : PostRow) (before lines : List (List ℕ)) → i < length all → row ≡ get_or all i row → Puts last all (drop i all) start now before lines
      → is_after last row ≡ true → PutsAll last all start now before lines
  putting_at last start now all i row before lines within is on late =
      let here = with_first (λ (l : List PostRow). Puts last all l start now before lines) all i row within is on in
      putting_from last start now all (row ∷ drop (i + 1) all) before lines here (all_after u c last now row (drop (i + 1) all) here.goes_on late)

  pub putting_end : (last start now : ℤ) (all : List PostRow) (i : ℕ) (before lines : List (List ℕ)) → i ≡ length all → Puts last all (drop i all) start now before lines → PutsAll last all start now before lines
  putting_end last start now all i before lines is on =
      putting_from last start now all (drop (length all) all) before lines (subst (λ (n : ℕ). Puts last all (drop n all) start now before lines) is on)
      (ap (list_all (λ r. not (not (is_after last r)))) (drop_whole all))

  -- a row of others puts no line
  pub none_put : (row : PostRow) (before : List (List ℕ)) → is_of_user u c row ≡ false → before ≡ before ++ map (row_line u c) (rows_of_user u c (row ∷ []))
  none_put row before others =
      sym (append-nil before) ∙ ap (λ (l : List PostRow). before ++ map (row_line u c) l) (sym (passed_over (is_of_user u c) row [] others))

  -- a row of the user puts its own
  pub one_put : (row : PostRow) (line : List ℕ) (before after : List (List ℕ)) → is_of_user u c row ≡ true → line ≡ row_line u c row → after ≡ before ++ (line ∷ [])
      → after ≡ before ++ map (row_line u c) (rows_of_user u c (row ∷ []))
  one_put row line before after own is pushed =
      pushed ∙ ap (λ (l : List ℕ). before ++ (l ∷ [])) is ∙ ap (λ (l : List PostRow). before ++ map (row_line u c) l) (sym (kept (is_of_user u c) row [] own))

  -- the opening line, those of the rows, and the closing line are a statement
  pub whole_statement : (first last closing : ℤ) (rows : List PostRow) (o : Opening) (a b : List ℕ) (none one more all : List (List ℕ)) → IsOpening u c first rows o → none ≡ [] → a ≡ balance_line (codes "opening") o.balance c → one ≡ none ++ (a ∷ [])
      → more ≡ one ++ map (row_line u c) (rows_to last (rows_of_user u c (drop o.rows rows))) → closing ≡ o.balance +ℤ added_by u c (rows_to last (rows_of_user u c (drop o.rows rows)))
      → b ≡ balance_line (codes "closing") closing c → all ≡ more ++ (b ∷ []) → all ≡ statement_of u c first last rows
  whole_statement first last closing rows o a b none one more all opens empty opening_line put_one put_more sum closing_line put_last =
      let own = rows_of_user u c rows in
      let shown : rows_to last (rows_of_user u c (drop o.rows rows)) ≡ rows_between first last own = sym (opens.shown last) in
      let ends : closing ≡ closing_balance u c first last own =
      sum ∙ (λ i. opens.balance_is i +ℤ added_by u c (shown i)) in
      put_last
      ∙ (λ i. put_more i ++ (closing_line i ∷ []))
      ∙ (λ i. (put_one i ++ map (row_line u c) (shown i)) ++ (balance_line (codes "closing") (ends i) c ∷ []))
      ∙ (λ i. ((empty i ++ (opening_line i ∷ [])) ++ map (row_line u c) (rows_between first last own)) ++ (balance_line (codes "closing") (closing_balance u c first last own) c ∷ []))
      ∙ ap (λ (n : ℤ). balance_line (codes "opening") n c ∷ (map (row_line u c) (rows_between first last own) ++ (balance_line (codes "closing") (closing_balance u c first last own) c ∷ []))) opens.balance_is
