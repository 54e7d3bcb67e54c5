-- Rows that can be put into a statement are in order of their days.
use Rattle.std.proofs.Common.{◌≡◌, ℕ, ℤ, pos, negsuc, ◌+◌, ◌/◌, ◌≤◌, ◌+ℤ◌, true, false, not, nat_le, int_lt, ◌&&◌, List, [], ◌∷◌, refl, arith}
use Rattle.std.proofs.lemmas.Bool.Decides.{nat_tests}
use Rattle.std.specs.List.{list_all}
use Rattle.iss_model.specs.declared.currency.Currency.{Currency}
use Rattle.iss_archive.specs.declared.post.PostRow.{PostRow}
use Rattle.iss_archive.specs.Statable.{signed_amount, is_user, is_small, is_next_statable, is_statable_from}
use Rattle.iss_archive.specs.Statement.{is_before, is_after}
use Rattle.iss_statement.specs.Openings.{GoesOn}
use Rattle.iss_statement.proofs.Rows.{both, join, all_weaker}

-- what is known of a row that can stand next, and of those after it
pub record Stands (u : List ℕ) (c : Currency) (least stamp : ℕ) (sum : ℤ) (row : PostRow) (rest : List PostRow) : Type 0 where
  pub later : nat_le stamp row.at ≡ true
  pub one_user : not (is_user row.from && is_user row.to) ≡ true
  pub small : is_small (sum +ℤ signed_amount u c row) ≡ true
  pub next : is_statable_from u c (row.seq + 1) row.at (sum +ℤ signed_amount u c row) rest ≡ true

pub stands : (u : List ℕ) (c : Currency) (least stamp : ℕ) (sum : ℤ) (row : PostRow) (rest : List PostRow) → is_statable_from u c least stamp sum (row ∷ rest) ≡ true → Stands u c least stamp sum row rest
stands u c least stamp sum row rest h =
    let after = sum +ℤ signed_amount u c row in
    let whole = both (is_next_statable least stamp row after) (is_statable_from u c (row.seq + 1) row.at after rest) h in
    let three = both (nat_le least row.seq && nat_le stamp row.at && not (is_user row.from && is_user row.to)) (is_small after) whole.0 in
    let two = both (nat_le least row.seq && nat_le stamp row.at) (not (is_user row.from && is_user row.to)) three.0 in
    let one = both (nat_le least row.seq) (nat_le stamp row.at) two.0 in
    record { later = one.1; one_user = two.1; small = three.1; next = whole.1 }

up : (a b c : ℕ) → a ≤ b → nat_le b c ≡ true → nat_le a c ≡ true
up a b c h k = grind (arith, nat_tests)

pub reaches : (a b : ℕ) → nat_le a b ≡ true → a ≤ b
reaches a b h = grind (arith, nat_tests)

-- no stamp falls
pub from_stamp : (u : List ℕ) (c : Currency) (least stamp : ℕ) (sum : ℤ) (k : ℕ) (rows : List PostRow) → k ≤ stamp → is_statable_from u c least stamp sum rows ≡ true → list_all (λ row. nat_le k row.at) rows ≡ true
from_stamp u c least stamp sum k [] low h = refl
from_stamp u c least stamp sum k (row ∷ rest) low h =
    let s = stands u c least stamp sum row rest h in
    let here = up k stamp row.at low s.later in
    join (nat_le k row.at) (list_all (λ row. nat_le k row.at) rest) here (from_stamp u c (row.seq + 1) row.at (sum +ℤ signed_amount u c row) k rest (reaches k row.at here) s.next)

pub same_day_on : (k n : ℕ) → k ≤ n → k / 86400000 ≤ n / 86400000
same_day_on k n h = omega arith

not_before : (d : ℤ) (k n : ℕ) → k ≤ n → int_lt (pos k) d ≡ false → not (int_lt (pos n) d) ≡ true
not_before (pos m) k n h e = grind (arith, nat_tests)
not_before (negsuc m) k n h e = refl

still_after : (d : ℤ) (k n : ℕ) → k ≤ n → int_lt d (pos k) ≡ true → not (not (int_lt d (pos n))) ≡ true
still_after (pos m) k n h e = grind (arith, nat_tests)
still_after (negsuc m) k n h e = refl

module _ (u : List ℕ) (c : Currency) (day sum : ℤ) (row : PostRow) (rest : List PostRow) (on : GoesOn u c sum (row ∷ rest)) where
  pub own_stamp_on : list_all (λ (r : PostRow). nat_le row.at r.at) (row ∷ rest) ≡ true
  own_stamp_on =
      let s = stands u c on.least on.stamp sum row rest on.statable in
      join (nat_le row.at row.at) (list_all (λ (r : PostRow). nat_le row.at r.at) rest) (up row.at row.at row.at (omega arith) (grind (arith, nat_tests)))
      (from_stamp u c (row.seq + 1) row.at (sum +ℤ signed_amount u c row) row.at rest (omega arith) s.next)

  -- if a row isn't of an earlier day, none after it is
  pub none_before : is_before day row ≡ false → list_all (λ r. not (is_before day r)) (row ∷ rest) ≡ true
  none_before h =
      all_weaker (λ (r : PostRow). nat_le row.at r.at) (λ (r : PostRow). not (is_before day r))
      (λ (r : PostRow) le. not_before day (row.at / 86400000) (r.at / 86400000) (same_day_on row.at r.at (reaches row.at r.at le)) h)
      (row ∷ rest) own_stamp_on

  -- if a row is of a later day, all after it are
  pub all_after : is_after day row ≡ true → list_all (λ r. not (not (is_after day r))) (row ∷ rest) ≡ true
  all_after h =
      all_weaker (λ (r : PostRow). nat_le row.at r.at) (λ (r : PostRow). not (not (is_after day r)))
      (λ (r : PostRow) le. still_after day (row.at / 86400000) (r.at / 86400000) (same_day_on row.at r.at (reaches row.at r.at le)) h)
      (row ∷ rest) own_stamp_on

  pub goes_on_after : GoesOn u c (sum +ℤ signed_amount u c row) rest
  goes_on_after =
      let s = stands u c on.least on.stamp sum row rest on.statable in
      record { least = row.seq + 1; stamp = row.at; small = s.small; statable = s.next }
