-- What adding a record's postings makes of the archive.
use Rattle.std.proofs.Common.{◌≡◌, ℕ, ℤ, pos, negsuc, ◌<ℤ◌, ◌+◌, ◌<◌, ◌≤◌, Bool, true, false, T, nat_lt, not, ◌&&◌, List, [], ◌∷◌, ◌++◌, length, map, Some, option_map, refl, sym, ap, subst, append-nil, suc, ◌∙◌, arith}
use Rattle.std.proofs.lemmas.Bool.Decides.{nat_tests}
use Rattle.std.specs.declared.cmp.Ordering.{Ordering}
use Rattle.std.specs.declared.cmp.Ordering.TheVariants.{Less, Equal, Greater}
use Rattle.std.specs.Ordering.{is_gt, int_cmp}
use Rattle.std.specs.List.{list_all}
use Rattle.std.proofs.lemmas.Cmp.{tied_itself, int_ranked}
use Rattle.std.specs.Cmp.{int_cmp_is}
use Rattle.std.proofs.lemmas.List.{append_assoc}
use Rattle.sqlite.specs.declared.types.Value.{Value}
use Rattle.sqlite.specs.declared.types.Value.TheVariants.{Null, Int, Real, Text, Blob}
use Rattle.sqlite.specs.Order.{Row, column, value_cmp}
use Rattle.sqlite.specs.Tree.{Trees, rowid, put_row}
use Rattle.sqlite.specs.Effect.{Database}
use Rattle.sqlite_value.proofs.OrderLemmas.{value_cmp_total, value_cmp-Int}
use Rattle.iss_archive.specs.declared.post.Head.{Head}
use Rattle.iss_archive.specs.declared.post.PostRow.{PostRow}
use Rattle.iss_archive.specs.Archived.{Follows, AreNumberedFrom, posts_in}
use Rattle.iss_tables.specs.declared.adding.PostColumns.{PostColumns}
use Rattle.iss_tables.specs.declared.adding.HeadColumns.{HeadColumns}
use Rattle.iss_tables.specs.Rows.{columns_of, stored}
use Rattle.iss_tables.specs.Steps.{PutsPosts, AddsAll, head_row, is_at_most}
use Rattle.iss_sql_keeper.specs.Numbered.{in_order}
use Rattle.iss_sql_keeper.specs.Decoded.{natural, number_in, posting_in, head_in, head_of, seq_of, archived_in}
use Rattle.iss_sql_keeper.specs.Given.{posting_given}
use Rattle.iss_sql_keeper.specs.Shown.{IsArchive}
use Rattle.iss_sql_keeper.proofs.NumberedLemmas.{AllLow, IsFrom, order_append}

left_of : (a b : Bool) → (a && b) ≡ true → a ≡ true
left_of true b h = refl
left_of false b h = absurd cc

right_of : (a b : Bool) → (a && b) ≡ true → b ≡ true
right_of true b h = h
right_of false b h = absurd cc

both : (a b : Bool) → a ≡ true → b ≡ true → (a && b) ≡ true
both a b p q = rw (p, q) refl

-- ---- numbers as values of SQL

lt_is : (m n : ℕ) → m < n → nat_lt m n ≡ true
lt_is m n lt = grind (arith, nat_tests)

lt_from : (m n : ℕ) → nat_lt m n ≡ true → m < n
lt_from m n e = grind (arith, nat_tests)

so : (t : Bool) → T t → t ≡ true
so true h = refl
so false h = absurd h

less_is : (n k : ℕ) → n < k → value_cmp (Int (pos n)) (Int (pos k)) ≡ Less
less_is n k lt =
    let below : pos n <ℤ pos k = record { lt = subst T (sym (lt_is n k lt)) tt } in
    value_cmp-Int (pos n) (pos k) ∙ sym (int_cmp_is (pos n) (pos k) Less below)

-- what is at most n is less than what is above n
less_than : (n k : ℕ) (v : Value) → n < k → not (is_gt (value_cmp v (Int (pos n)))) ≡ true → value_cmp v (Int (pos k)) ≡ Less
less_than n k v lt h = by (value_cmp v (Int (pos n))) refl
  where
    by : (o : Ordering) → value_cmp v (Int (pos n)) ≡ o → value_cmp v (Int (pos k)) ≡ Less
    by Less e = value_cmp_total.trans v (Int (pos n)) (Int (pos k)) e (less_is n k lt)
    by Equal e = value_cmp_total.congr v (Int (pos n)) (Int (pos k)) e ∙ less_is n k lt
    by Greater e = absurd (let no = rw e at h in cc)

low_number : (n : ℕ) (m : ℤ) (o : Ordering) → o ≡ int_cmp m (pos n) → not (is_gt o) ≡ true → natural m ≤ n
low_number n (negsuc m) o e h = omega arith
low_number n (pos m) Less e h = let below : pos m <ℤ pos n = int_ranked (pos m) (pos n) Less e in omega (arith, lt_from m n (so (nat_lt m n) below.lt))
low_number n (pos m) Equal e h = let same : pos m ≡ pos n = int_ranked (pos m) (pos n) Equal e in omega (arith, ap natural same)
low_number n (pos m) Greater e h = absurd cc

low_value : (n : ℕ) (v : Value) → not (is_gt (value_cmp v (Int (pos n)))) ≡ true → number_in v ≤ n
low_value n (Int m) h = low_number n m (int_cmp m (pos n)) refl (subst (λ o. not (is_gt o) ≡ true) (value_cmp-Int m (pos n)) h)
low_value n Null h = omega arith
low_value n (Real x) h = omega arith
low_value n (Text t) h = omega arith
low_value n (Blob b) h = omega arith

low_rows : (n : ℕ) (rows : List Row) → list_all (is_at_most (pos n)) rows ≡ true → AllLow seq_of n (map posting_in rows)
low_rows n [] h = tt
low_rows n (r ∷ rows) h = (low_value n (column r 0) (left_of (is_at_most (pos n) r) (list_all (is_at_most (pos n)) rows) h), low_rows n rows (right_of (is_at_most (pos n) r) (list_all (is_at_most (pos n)) rows) h))

-- ---- the rows of the table

put_last : (n k : ℕ) (row : Row) (rows : List Row) → n < k → rowid row ≡ Int (pos k) → list_all (is_at_most (pos n)) rows ≡ true → put_row row rows ≡ rows ++ row ∷ []
put_last n k row [] lt key h = refl
put_last n k row (r ∷ rows) lt key h =
    let less : value_cmp (rowid r) (rowid row) ≡ Less = ap (value_cmp (rowid r)) key ∙ less_than n k (rowid r) lt (left_of (is_at_most (pos n) r) (list_all (is_at_most (pos n)) rows) h) in
    rw less (ap (λ (rest : List Row). r ∷ rest) (put_last n k row rows lt key (right_of (is_at_most (pos n) r) (list_all (is_at_most (pos n)) rows) h)))

next_at_most : (n : ℕ) (row : Row) → is_at_most (pos n) row ≡ true → is_at_most (pos (n + 1)) row ≡ true
next_at_most n row h = ap (λ o. not (is_gt o)) (less_than n (n + 1) (rowid row) (omega arith) h)

own_at_most : (n : ℕ) (row : Row) → rowid row ≡ Int (pos n) → is_at_most (pos n) row ≡ true
own_at_most n row key =
    let same : value_cmp (rowid row) (Int (pos n)) ≡ Equal = ap (λ v. value_cmp v (Int (pos n))) key ∙ tied_itself value_cmp_total (Int (pos n)) in
    ap (λ o. not (is_gt o)) same

all_at_most : (n : ℕ) (rows : List Row) (row : Row) → list_all (is_at_most (pos n)) rows ≡ true → rowid row ≡ Int (pos (n + 1)) → list_all (is_at_most (pos (n + 1))) (rows ++ row ∷ []) ≡ true
all_at_most n [] row h key = both (is_at_most (pos (n + 1)) row) true (own_at_most (n + 1) row key) refl
all_at_most n (r ∷ rows) row h key =
    both (is_at_most (pos (n + 1)) r) (list_all (is_at_most (pos (n + 1))) (rows ++ row ∷ [])) (next_at_most n r (left_of (is_at_most (pos n) r) (list_all (is_at_most (pos n)) rows) h)) (all_at_most n rows row (right_of (is_at_most (pos n) r) (list_all (is_at_most (pos n)) rows) h) key)

natural_is : (m : ℤ) (n : ℕ) → natural m ≡ n + 1 → m ≡ pos (n + 1)
natural_is (pos m) n e = ap pos e
natural_is (negsuc m) n e = absurd (omega (arith, e))

-- postings that are numbered on come after the others
record HasAppended (n : ℕ) (ps : List PostColumns) (old new : Database) : Type 0 where
  rows : new.trees 1 ≡ old.trees 1 ++ map (λ p. stored (columns_of p)) ps
  below : list_all (is_at_most (pos (n + length ps))) (new.trees 1) ≡ true

appends : (n : ℕ) (ps : List PostColumns) (old new : Database) → list_all (is_at_most (pos n)) (old.trees 1) ≡ true → AreNumberedFrom (n + 1) (map posting_given ps) → PutsPosts (map columns_of ps) old new
    → HasAppended n ps old new
appends n [] old new low from h =
    let same : new.trees 1 ≡ old.trees 1 = ap (λ (d : Database). d.trees 1) h in
    let count : n + 0 ≡ n = omega arith in
    record { rows = same ∙ sym (append-nil (old.trees 1)); below = subst (λ (m : ℕ). list_all (is_at_most (pos m)) (new.trees 1) ≡ true) (sym count) (subst (λ (l : List Row). list_all (is_at_most (pos n)) l ≡ true) (sym same) low) }
appends n (p ∷ ps) old new low from h =
    let row = stored (columns_of p) in
    let seq : p.seq ≡ pos (n + 1) = natural_is p.seq n from.0 in
    let key : rowid row ≡ Int (pos (n + 1)) = ap Int seq in
    let put : h.0.trees 1 ≡ old.trees 1 ++ row ∷ [] = h.1.rows ∙ put_last n (n + 1) row (old.trees 1) (omega arith) key low in
    let rest : HasAppended (n + 1) ps h.0 new = appends (n + 1) ps h.0 new (subst (λ (l : List Row). list_all (is_at_most (pos (n + 1))) l ≡ true) (sym put) (all_at_most n (old.trees 1) row low key)) from.1 h.2 in
    let count : n + 1 + length ps ≡ n + suc (length ps) = omega arith in
    record {
      rows = rest.rows ∙ ap (λ (l : List Row). l ++ map (λ q. stored (columns_of q)) ps) put ∙ append_assoc (old.trees 1) (row ∷ []) (map (λ q. stored (columns_of q)) ps);
      below = subst (λ (m : ℕ). list_all (is_at_most (pos m)) (new.trees 1) ≡ true) count rest.below;
    }

postings_of : (rows : List Row) (ps : List PostColumns) → map posting_in (rows ++ map (λ p. stored (columns_of p)) ps) ≡ map posting_in rows ++ map posting_given ps
postings_of [] [] = refl
postings_of [] (p ∷ ps) = ap (λ (rest : List PostRow). posting_given p ∷ rest) (postings_of [] ps)
postings_of (r ∷ rows) ps = ap (λ (rest : List PostRow). posting_in r ∷ rest) (postings_of rows ps)

from_is : (n : ℕ) (rows : List PostRow) → AreNumberedFrom n rows → IsFrom seq_of n rows
from_is n [] h = tt
from_is n (r ∷ rows) h = (h.0, from_is (n + 1) rows h.1)

as_many : (ps : List PostColumns) → length (map posting_given ps) ≡ length ps
as_many [] = refl
as_many (p ∷ ps) = ap suc (as_many ps)

-- the archive after a record
pub record IsAdded (head : Head) (rows : List PostRow) (old new : Trees) : Type 0 where
  pub archived : archived_in new ≡ record { head = Some head; rows = (archived_in old).rows ++ rows }
  pub below : IsArchive new

pub adds_record : (old new : Database) (head : Head) (c : HeadColumns) (rows : List PostRow) (ps : List PostColumns) → IsArchive old.trees → Follows (archived_in old.trees) head rows
    → map posting_given ps ≡ rows → head_of c ≡ head → AddsAll (map columns_of ps) c old new → IsAdded head rows old.trees new.trees
adds_record old new head c rows ps low follows given columns all =
    let n = posts_in (archived_in old.trees).head in
    let numbered : AreNumberedFrom (n + 1) (map posting_given ps) = subst (AreNumberedFrom (n + 1)) (sym given) follows.numbered in
    let put = appends n ps old all.mid low numbered all.posts in
    let table : new.trees 1 ≡ old.trees 1 ++ map (λ p. stored (columns_of p)) ps = all.sets.rows ∙ put.rows in
    let postings : map posting_in (new.trees 1) ≡ map posting_in (old.trees 1) ++ rows = ap (map posting_in) table ∙ postings_of (old.trees 1) ps ∙ ap (λ (l : List PostRow). map posting_in (old.trees 1) ++ l) given in
    let ordered : in_order seq_of (map posting_in (new.trees 1)) ≡ in_order seq_of (map posting_in (old.trees 1)) ++ rows =
    ap (in_order seq_of) postings ∙ order_append seq_of n (map posting_in (old.trees 1)) rows (low_rows n (old.trees 1) low) (from_is (n + 1) rows follows.numbered) in
    let top : option_map head_in (head_row (new.trees 0)) ≡ Some head = ap (option_map head_in) all.sets.head ∙ ap Some columns in
    let count : n + length ps ≡ posts_in (archived_in new.trees).head = omega (arith, as_many ps, ap length given, follows.posts, ap posts_in top) in
    record {
      archived = λ i. record { head = top i; rows = ordered i };
      below = subst (λ (m : ℕ). list_all (is_at_most (pos m)) (new.trees 1) ≡ true) count (subst (λ (l : List Row). list_all (is_at_most (pos (n + length ps))) l ≡ true) (sym all.sets.rows) put.below);
    }
