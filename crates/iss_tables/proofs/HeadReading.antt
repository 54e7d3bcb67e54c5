-- The head that is read is the row of the head.
use Rattle.std.proofs.Common.{◌≡◌, ◌≢◌, ◌⊎◌, inl, inr, ℕ, zero, suc, ◌≤◌, ◌<◌, ℤ, pos, cond, length, arith, List, [], ◌∷◌, map, filter, find, Bool, true, false, Option, Some, None, ◌&&◌, refl, sym, ap, subst, ◌∙◌, IsPermutation, Result, Ok, Err, IfOk, IfErr}
use Rattle.sqlite.specs.Values.{IsInt}
use Rattle.sqlite.specs.Reading.{IsReadError}
use Rattle.sqlite.specs.State.{State}
use Rattle.sqlite.specs.declared.error.Error.TheVariants.{SqliteFailure}
use Rattle.sqlite.specs.declared.error.ErrorCode.TheVariants.{OutOfMemory}
use Rattle.std.specs.List.{list_all}
use Rattle.std.specs.Ordering.{is_eq, is_gt}
use Rattle.sqlite.specs.declared.error.Error.{Error}
use Rattle.std.proofs.lemmas.List.Sorted.{length_permutation}
use Rattle.sqlite.specs.declared.types.Value.{Value}
use Rattle.sqlite.specs.declared.types.Value.TheVariants.{Null, Int, Real, Text, Blob}
use Rattle.sqlite.specs.Order.{Row, column, value_cmp}
use Rattle.sqlite.specs.Collation.TheVariants.{Binary}
use Rattle.sqlite.specs.Tree.{has_rowid}
use Rattle.sqlite.specs.Ops.{binary, is_true, from_truth}
use Rattle.sqlite_sql.specs.declared.ops.BinaryOp.TheVariants as by
use Rattle.sqlite_sql.specs.declared.ops.CompareOp.TheVariants.{Eq, Gt}
use Rattle.sqlite.specs.Query.{Output, output}
use Rattle.sqlite.proofs.Callers.{one_permutation}
use Rattle.iss_tables.specs.declared.adding.HeadColumns.{HeadColumns}
use Rattle.iss_tables.specs.Tables.{archive_schema}
use Rattle.iss_tables.specs.Steps.{head_row, IsOneHead, IsHeadRow, AreNoHead, IsNoHead, HasNoNumber, is_at_most}
use Rattle.iss_tables.specs.Causes.{AreHead, HoldsHead, FailsToAsk}
use Rattle.iss_tables.specs.Queries.{head_query, above_query, ShowsTable, passes}

truth_is : (b : Bool) → is_true (from_truth (Some b)) ≡ b
truth_is true = refl
truth_is false = refl

-- a test for equality keeps what is equal, and no NULL
pub equals_is : (v : Value) (n : ℤ) → is_true (binary (by.Compare Eq Binary) v (Int n)) ≡ is_eq (value_cmp v (Int n))
unfolding binary value_cmp
equals_is Null n = refl
equals_is (Int m) n = truth_is _
equals_is (Real x) n = truth_is _
equals_is (Text t) n = truth_is _
equals_is (Blob b) n = truth_is _

and_true : (b : Bool) → (b && true) ≡ b
and_true true = refl
and_true false = refl

head_passes : (row : Row) → passes head_query.filter [] row ≡ has_rowid (pos 1) row
head_passes row = and_true _ ∙ equals_is (column row 0) (pos 1)

-- what is found is what is kept, if that is one row
found_first : (p q : Row → Bool) → ((r : Row) → p r ≡ q r) → (rows : List Row) (row : Row) → filter p rows ≡ row ∷ [] → find q rows ≡ Some row
found_first p q same [] row e = absurd (let h = ap (λ (l : List Row). l) e in cc)
found_first p q same (r ∷ rows) row e = by (found_first p q same rows row) (p r) refl
  where
    by : (filter p rows ≡ row ∷ [] → find q rows ≡ Some row) → (b : Bool) → p r ≡ b → find q (r ∷ rows) ≡ Some row
    by later true h =
        let kept : r ∷ filter p rows ≡ row ∷ [] = rw h at e in
        let own : r ≡ row = cc in
        rw (sym (same r) ∙ h) (ap Some own)
    by later false h =
        let kept : filter p rows ≡ row ∷ [] = rw h at e in
        rw (sym (same r) ∙ h) (later kept)

found_none : (p q : Row → Bool) → ((r : Row) → p r ≡ q r) → (rows : List Row) → filter p rows ≡ [] → find q rows ≡ None
found_none p q same [] e = refl
found_none p q same (r ∷ rows) e = by (found_none p q same rows) (p r) refl
  where
    by : (filter p rows ≡ [] → find q rows ≡ None) → (b : Bool) → p r ≡ b → find q (r ∷ rows) ≡ None
    by later true h = absurd (let kept = rw h at e in cc)
    by later false h = let kept : filter p rows ≡ [] = rw h at e in rw (sym (same r) ∙ h) (later kept)

-- ---- an answer of one row, or of none

-- what the question shows of a row
abbrev shown_of : Row → Output
shown_of r = output head_query ([] ∷ r ∷ [])

no_output : (os : List Output) → ◌≡◌ {A = List Row} [] (map (λ (o : Output). o.1) os) → os ≡ []
no_output [] e = refl
no_output (o ∷ os) e = absurd cc

none_kept : (kept : List Row) (os : List Output) → os ≡ [] → IsPermutation (map shown_of kept) os → kept ≡ []
none_kept [] os e p = refl
none_kept (r ∷ kept) os e p = absurd (omega (arith, length_permutation (map shown_of (r ∷ kept)) os p, ap (λ (l : List Output). length l) e))

one_output : (os : List Output) (row : Row) → row ∷ [] ≡ map (λ (o : Output). o.1) os → (o : Output) × (os ≡ o ∷ []) × (row ≡ o.1)
one_output [] row e = absurd cc
one_output (o ∷ []) row e = (o, refl, let same : row ≡ o.1 = cc in same)
one_output (o ∷ p ∷ os) row e = absurd (omega (arith, ap (λ (l : List Row). length l) e))

first_is : {X : Type 0} (x y : X) → x ∷ [] ≡ y ∷ [] → x ≡ y
first_is x y e = cc

one_kept : (kept : List Row) (o : Output) → IsPermutation (map shown_of kept) (o ∷ []) → (r : Row) × (kept ≡ r ∷ []) × (o ≡ shown_of r)
one_kept [] o p = absurd (omega (arith, length_permutation (map shown_of []) (o ∷ []) p))
one_kept (r ∷ []) o p = (r, refl, first_is o (shown_of r) (one_permutation (shown_of r) (o ∷ []) p))
one_kept (r ∷ s ∷ kept) o p = absurd (omega (arith, length_permutation (map shown_of (r ∷ s ∷ kept)) (o ∷ []) p))

-- the rows of the table that the question keeps
abbrev kept_of : List Row → List Row
kept_of rows = filter (passes head_query.filter []) rows

pub head_found : (table shown : List Row) (head : Option HeadColumns) → ShowsTable head_query (kept_of table) [] shown → IsOneHead head shown → IsHeadRow head (head_row table)
head_found table shown None s one =
    let none : s.ordered ≡ [] = no_output s.ordered (sym one ∙ s.shown) in
    subst (IsHeadRow None) (sym (found_none (passes head_query.filter []) (has_rowid (pos 1)) head_passes table (none_kept (kept_of table) s.ordered none s.same))) tt
head_found table shown (Some head) s one =
    let o = one_output s.ordered one.0 (sym one.1 ∙ s.shown) in
    let r = one_kept (kept_of table) o.0 (subst (IsPermutation (map shown_of (kept_of table))) o.1 s.same) in
    let found : head_row table ≡ Some r.0 = found_first (passes head_query.filter []) (has_rowid (pos 1)) head_passes table r.0 r.1 in
    let row : one.0 ≡ (shown_of r.0).1 = o.2 ∙ ap (λ (x : Output). x.1) r.2 in
    subst (IsHeadRow (Some head)) (sym found)
    (record {
      instance = ap (λ (l : Row). column l 0) (sym row) ∙ one.2.instance;
      records = ap (λ (l : Row). column l 1) (sym row) ∙ one.2.records;
      posts = ap (λ (l : Row). column l 2) (sym row) ∙ one.2.posts;
    })

pub head_read_by : {X : Type 0} (table shown : List Row) (r : Result (Option HeadColumns) Error) → (X → ShowsTable head_query (kept_of table) [] shown) → IfOk r (λ head. IsOneHead head shown)
    → IfOk r (λ head. X → IsHeadRow head (head_row table))
head_read_by table shown (Ok head) s one = λ x. head_found table shown head (s x) one
head_read_by table shown (Err e) s one = tt

-- ---- an answer of numbers above one

-- a test for more keeps what is above, and no NULL
above_passes_value : (v : Value) (n : ℤ) → is_true (binary (by.Compare Gt Binary) v (Int n)) ≡ is_gt (value_cmp v (Int n))
unfolding binary value_cmp
above_passes_value Null n = refl
above_passes_value (Int m) n = truth_is _
above_passes_value (Real x) n = truth_is _
above_passes_value (Text t) n = truth_is _
above_passes_value (Blob b) n = truth_is _

above_passes : (most : ℤ) (row : Row) → passes above_query.filter (Int most ∷ []) row ≡ is_gt (value_cmp (column row 0) (Int most))
above_passes most row = and_true _ ∙ above_passes_value (column row 0) most

none_passes : (most : ℤ) (rows : List Row) → filter (passes above_query.filter (Int most ∷ [])) rows ≡ [] → list_all (is_at_most most) rows ≡ true
none_passes most [] e = refl
none_passes most (r ∷ rows) e = by (none_passes most rows) (passes above_query.filter (Int most ∷ []) r) refl
  where
    by : (filter (passes above_query.filter (Int most ∷ [])) rows ≡ [] → list_all (is_at_most most) rows ≡ true) → (b : Bool) → passes above_query.filter (Int most ∷ []) r ≡ b
        → list_all (is_at_most most) (r ∷ rows) ≡ true
    by later true h = absurd (let kept = rw h at e in cc)
    by later false h = let kept : filter (passes above_query.filter (Int most ∷ [])) rows ≡ [] = rw h at e in rw (sym (above_passes most r) ∙ h) (later kept)

none_shown : (most : ℤ) (kept : List Row) (os : List Output) → os ≡ [] → IsPermutation (map (λ r. output above_query ((Int most ∷ []) ∷ r ∷ [])) kept) os → kept ≡ []
none_shown most [] os e p = refl
none_shown most (r ∷ kept) os e p =
    absurd (omega (arith, length_permutation (map (λ r. output above_query ((Int most ∷ []) ∷ r ∷ [])) (r ∷ kept)) os p, ap (λ (l : List Output). length l) e))

pub none_above_by : (most : ℤ) (table rows : List Row) → ShowsTable above_query (filter (passes above_query.filter (Int most ∷ [])) table) (Int most ∷ []) rows → rows ≡ []
    → list_all (is_at_most most) table ≡ true
none_above_by most table rows s e = none_passes most table (none_shown most _ s.ordered (no_output s.ordered (sym e ∙ s.shown)) s.same)

none_from : (os : List Output) → IsPermutation [] os → os ≡ []
none_from [] p = refl
none_from (o ∷ os) p = absurd (omega (arith, length_permutation [] (o ∷ os) p))

-- if nothing is above, nothing passes, so nothing is shown
nothing_passes : (most : ℤ) (rows : List Row) → list_all (is_at_most most) rows ≡ true → filter (passes above_query.filter (Int most ∷ [])) rows ≡ []
nothing_passes most [] h = refl
nothing_passes most (r ∷ rows) h = by (nothing_passes most rows) (is_gt (value_cmp (column r 0) (Int most))) refl
  where
    by : (list_all (is_at_most most) rows ≡ true → filter (passes above_query.filter (Int most ∷ [])) rows ≡ []) → (b : Bool) → is_gt (value_cmp (column r 0) (Int most)) ≡ b
        → filter (passes above_query.filter (Int most ∷ [])) (r ∷ rows) ≡ []
    by later true above = absurd (let no = rw above at h in cc)
    by later false above = let rest : list_all (is_at_most most) rows ≡ true = rw above at h in rw (above_passes most r ∙ above) (later rest)

pub none_shown_by : (most : ℤ) (table rows : List Row) → ShowsTable above_query (filter (passes above_query.filter (Int most ∷ [])) table) (Int most ∷ []) rows
    → list_all (is_at_most most) table ≡ true → rows ≡ []
none_shown_by most table rows s all =
    let same : IsPermutation (map (λ r. output above_query ((Int most ∷ []) ∷ r ∷ [])) []) s.ordered =
    subst (λ (kept : List Row). IsPermutation (map (λ r. output above_query ((Int most ∷ []) ∷ r ∷ [])) kept) s.ordered) (nothing_passes most table all) s.same in
    s.shown ∙ ap (map (λ (o : Output). o.1)) (none_from s.ordered same)

-- ---- a table that holds no head

pub no_head : (row : Row) → HasNoNumber row 0 ⊎ (HasNoNumber row 1 ⊎ HasNoNumber row 2) → IsNoHead row
no_head row (inl none) head are = none head.instance are.instance
no_head row (inr (inl none)) head are = none head.records are.records
no_head row (inr (inr none)) head are = none head.posts are.posts

-- a column past the end is NULL
past_end : (row : Row) (at : ℕ) → length row ≤ at → column row at ≡ Null
past_end [] at h = refl
past_end (v ∷ row) zero h = absurd (omega (arith, h))
past_end (v ∷ row) (suc at) h = past_end row at (omega (arith, h))

below_or_past : (row : Row) (at : ℕ) → (at < length row) ⊎ (length row ≤ at)
below_or_past [] at = inr (omega arith)
below_or_past (v ∷ row) zero = inl (omega arith)
below_or_past (v ∷ row) (suc at) = elim (below_or_past row at) [ inl below ↦ inl (omega (arith, below)) | inr past ↦ inr (omega (arith, past)) ]

-- why a column has no number
pub number_cause : (row : Row) (at : ℕ) (r : Result ℤ Error) → IfErr r (IsReadError at (column row at))
    → IfErr r (λ e. e ≢ SqliteFailure OutOfMemory → at < length row → ¬ IsInt (column row at))
    → IfErr r (λ e. (e ≡ SqliteFailure OutOfMemory) ⊎ HasNoNumber row at)
number_cause row at (Ok n) named kind = tt
number_cause row at (Err e) named kind = elim named [
  | inl index ↦ inr (other (λ memory. let no = sym index ∙ memory in cc))
  | inr (inl typed) ↦ inr (other (λ memory. let no = sym typed ∙ memory in cc))
  | inr (inr (inl range)) ↦ inr (other (λ memory. let no = sym range ∙ memory in cc))
  | inr (inr (inr (inl text))) ↦ inr (other (λ memory. let no = sym text ∙ memory in cc))
  | inr (inr (inr (inr memory))) ↦ inl memory
]
  where
    other : e ≢ SqliteFailure OutOfMemory → HasNoNumber row at
    other ne n is = elim (below_or_past row at) [
      | inl below ↦ kind ne below (n, is)
      | inr past ↦ let no : Null ≡ Int n = sym (past_end row at past) ∙ is in cc
    ]

same_filter : (rows : List Row) → kept_of rows ≡ filter (has_rowid (pos 1)) rows
same_filter [] = refl
same_filter (r ∷ rows) = rw (head_passes r) (ap (λ (l : List Row). cond (has_rowid (pos 1) r) (r ∷ l) l) (same_filter rows))

-- the rows that were shown are no head, so the table holds none
pub head_unread : (table shown : List Row) → ShowsTable head_query (kept_of table) [] shown → AreNoHead shown → ¬ AreHead (filter (has_rowid (pos 1)) table)
head_unread table shown s none head = by (kept_of table) s (subst AreHead (sym (same_filter table)) head)
  where
    by : (kept : List Row) → ShowsTable head_query kept [] shown → AreHead kept → ⊥
    by [] t are = none None (t.shown ∙ ap (map (λ (o : Output). o.1)) (none_from t.ordered t.same))
    by (row ∷ []) t are =
        let all : shown ≡ (shown_of row).1 ∷ [] = t.shown ∙ ap (map (λ (o : Output). o.1)) (one_permutation (shown_of row) t.ordered t.same) in
        none (Some are.0) ((shown_of row).1, all, record { instance = are.1.instance; records = are.1.records; posts = are.1.posts })
    by (row ∷ more ∷ rows) t are = are

pub head_cause_by : {T : Type 0} (old new : State) (shown : List Row) (r : Result T Error) → (old.now.schema ≡ archive_schema → ShowsTable head_query (kept_of (old.now.trees 0)) [] shown)
    → IfErr r (λ e. (e ≡ SqliteFailure OutOfMemory) ⊎ AreNoHead shown) → old.now.schema ≡ archive_schema → IfErr r (λ e. FailsToAsk old new e ⊎ (¬ HoldsHead old.now.trees))
head_cause_by old new shown (Ok x) s why has = tt
head_cause_by old new shown (Err e) s why has = elim why [ inl memory ↦ inl (inl (inl memory)) | inr none ↦ inr (head_unread (old.now.trees 0) shown (s has) none) ]
