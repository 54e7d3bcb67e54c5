-- Why a database isn't taken for an archive.
use Rattle.std.proofs.Common.{◌≡◌, ◌≢◌, ◌⊎◌, inl, inr, ℕ, ◌<◌, ◌^◌, ℤ, pos, Bool, true, false, List, [], ◌∷◌, filter, Option, Some, None, option_map, Result, Ok, Err, IfOk, IfErr, IfSome, IsSomeAnd, OnOk, IsSome, IsTrue, refl, sym, ap, subst, ◌∙◌, arith}
use Rattle.std.specs.List.{list_all}
use Rattle.sqlite.specs.declared.error.Error.{Error}
use Rattle.sqlite.specs.declared.error.Error.TheVariants.{SqliteFailure}
use Rattle.sqlite.specs.declared.error.ErrorCode.TheVariants as code
use Rattle.sqlite.specs.declared.types.Value.{Value}
use Rattle.sqlite.specs.declared.types.Value.TheVariants.{Int}
use Rattle.sqlite.specs.Order.{Row, column}
use Rattle.sqlite.specs.Tree.{Trees, has_rowid}
use Rattle.sqlite.specs.Effect.{Database}
use Rattle.sqlite.specs.State.{State}
use Rattle.iss_archive.specs.declared.post.Head.{Head}
use Rattle.iss_archive.specs.declared.post.KeepFault.{KeepFault}
use Rattle.iss_archive.specs.declared.post.KeepFault.TheVariants as fault
use Rattle.iss_archive.specs.Archived.{posts_in}
use Rattle.iss_tables.specs.declared.adding.HeadColumns.{HeadColumns}
use Rattle.iss_tables.specs.Calls.{HasNoneAbove, IsOurs}
use Rattle.iss_tables.specs.Steps.{IsHeadRow, IsMadeOf, AreInHead, head_row, is_at_most}
use Rattle.iss_tables.specs.Causes.{CanBeOurs, AreHead, HoldsHead, FailsByStore, FailsToAsk, IsDone, IsAnswered}
use Rattle.iss_sql_keeper.specs.Decoded.{archived_in, head_in, head_of, number_in}
use Rattle.iss_sql_keeper.specs.Shown.{IsArchive, Tells}
use Rattle.iss_sql_keeper.specs.Refused.{IsStoredHead, AreStoredHead, HoldsStoredHead, HoldArchive, IsArchiveIn, CantBeAsked, WhyRefused, IsRefusedFor, NamesFailure, IsFailed, IsOddHead}
use Rattle.iss_sql_keeper.proofs.ShownLemmas.{head_known}

pub never : {X : Type 0} (b : Bool) → IsTrue b → b ≡ false → X
never b is isnt = absurd (let both = sym is ∙ isnt in cc)

-- ---- what a failed call says

by_store : (old new : State) (e : Error) → e ≢ SqliteFailure code.OutOfMemory → FailsByStore old new e → CantBeAsked old new
by_store old new e other (inl memory) = absurd (other memory)
by_store old new e other (inr (inl disk)) = inl disk.counted
by_store old new e other (inr (inr closed)) = inr (inl closed.1)

by_question : (old new : State) (e : Error) → e ≢ SqliteFailure code.OutOfMemory → FailsToAsk old new e → CantBeAsked old new
by_question old new e other (inl store) = by_store old new e other store
by_question old new e other (inr limit) = inr (inr (inl limit.1))

module _ {T : Type 0} (old new : State) where
  -- the cause of an error is that of the failure that it is told as
  failed_for : (P : Error → Type 0) → ((e : Error) → e ≢ SqliteFailure code.OutOfMemory → P e → CantBeAsked old new) → (q : Result T Error) (r : Result T KeepFault) → Tells q r → NamesFailure q r → IfErr q P
      → IfErr r (λ f. IsFailed f → CantBeAsked old new)
  failed_for P goes q (Ok y) same named why = tt
  failed_for P goes q (Err fault.OutOfMemory) same named why = λ none. absurd none
  failed_for P goes (Ok x) (Err fault.Failed) same named why = absurd same
  failed_for P goes (Err e) (Err fault.Failed) same named why = λ _. goes e (named refl) why

  pub unmade_for : (q : Result T Error) (r : Result T KeepFault) → Tells q r → NamesFailure q r → IfErr q (FailsByStore old new) → IfErr r (λ f. IsFailed f → CantBeAsked old new)
  unmade_for q r = failed_for (FailsByStore old new) (by_store old new) q r

  pub unasked_for : (q : Result T Error) (r : Result T KeepFault) → Tells q r → NamesFailure q r → IfErr q (FailsToAsk old new) → IfErr r (λ f. IsFailed f → CantBeAsked old new)
  unasked_for q r = failed_for (FailsToAsk old new) (by_question old new) q r

  pub unread_for : HoldsHead old.now.trees → (q : Result T Error) (r : Result T KeepFault) → Tells q r → NamesFailure q r → IfErr q (λ e. FailsToAsk old new e ⊎ (¬ HoldsHead old.now.trees))
      → IfErr r (λ f. IsFailed f → CantBeAsked old new)
  unread_for holds q r =
      failed_for (λ e. FailsToAsk old new e ⊎ (¬ HoldsHead old.now.trees)) (λ e other why. elim why [ inl asked ↦ by_question old new e other asked | inr odd ↦ absurd (odd holds) ]) q r

-- a call that comes after one that was done can't be asked for the same causes
pub asked_after : (a b c : State) → IsDone a b → CantBeAsked b c → CantBeAsked a c
asked_after a b c done (inl more) = inl (omega (arith, more, done.counted))
asked_after a b c done (inr (inl shut)) = never b.is_open done.is_open shut
asked_after a b c done (inr (inr (inl limit))) = inr (inr (inl (subst IsSome done.limit limit)))
asked_after a b c done (inr (inr (inr inside))) = inr (inr (inr (subst (λ (m : Bool). IsTrue m) done.mode inside)))

module _ (a b c : State) (done : IsDone a b) where
  pub failed_after : {T : Type 0} (r : Result T KeepFault) → IfErr r (λ f. IsFailed f → CantBeAsked b c) → IfErr r (λ f. IsFailed f → CantBeAsked a c)
  failed_after (Ok x) h = tt
  failed_after (Err f) h = λ is. asked_after a b c done (h is)

  pub untaken_after : (r : Result Bool KeepFault) → IfOk r (λ taken. taken ≡ false → CantBeAsked b c) → IfOk r (λ taken. taken ≡ false → CantBeAsked a c)
  untaken_after (Ok taken) h = λ is. asked_after a b c done (h is)
  untaken_after (Err f) h = tt

-- a transaction is under way after the tables were made, so it was before
pub inside_after : {T : Type 0} (a b : State) → IsDone a b → (r : Result T KeepFault) → IfErr r (λ _. IsTrue b.in_transaction) → IfErr r (λ f. IsFailed f → CantBeAsked a b)
inside_after a b done (Ok x) h = tt
inside_after a b done (Err f) h = λ _. inr (inr (inr (subst (λ (m : Bool). IsTrue m) done.mode h)))

pub anyway_ok : {T : Type 0} (r : Result T KeepFault) (Q : Type 0) → Q → OnOk r Q
anyway_ok (Ok x) Q q = q
anyway_ok (Err e) Q q = tt

-- ---- a head as it is stored

are_head : (rows : List Row) → AreStoredHead rows → AreHead rows
are_head [] h = tt
are_head (row ∷ []) h =
    (record { instance = pos h.0.instance; records = pos h.0.records; posts = pos h.0.posts }, record { instance = h.1.instance; records = h.1.records; posts = h.1.posts })
are_head (row ∷ more ∷ rows) h = h

pub holds_head : (trees : Trees) → HoldsStoredHead trees → HoldsHead trees
holds_head trees h = are_head (filter (has_rowid (pos 1)) (trees 0)) h

-- the row of the head is the one that is a head
row_found : (rows : List Row) → AreStoredHead (filter (has_rowid (pos 1)) rows) → IfSome (head_row rows) (λ row. (head : Head) × IsStoredHead head row)
row_found [] h = tt
row_found (row ∷ rows) h = by (row_found rows) (has_rowid (pos 1) row) refl
  where
    first : (kept : List Row) → AreStoredHead (row ∷ kept) → (head : Head) × IsStoredHead head row
    first [] h = h
    first (more ∷ kept) h = absurd h

    by : (AreStoredHead (filter (has_rowid (pos 1)) rows) → IfSome (head_row rows) (λ row. (head : Head) × IsStoredHead head row)) → (b : Bool) → has_rowid (pos 1) row ≡ b
        → IfSome (head_row (row ∷ rows)) (λ row. (head : Head) × IsStoredHead head row)
    by later true is = let it = rw is at h in rw is (first (filter (has_rowid (pos 1)) rows) it)
    by later false is = let it = rw is at h in rw is (later it)

same_int : (v : Value) (a b : ℤ) → v ≡ Int a → v ≡ Int b → a ≡ b
same_int v a b p q = let both : Int a ≡ Int b = sym p ∙ q in cc

-- so its columns are those of a head
never_odd : (columns : HeadColumns) (row : Row) → AreInHead columns row → (head : Head) × IsStoredHead head row → IsOddHead columns → ⊥
never_odd columns row are h odd = odd h.0
    (record { instance = same_int _ _ _ are.instance h.1.instance; records = same_int _ _ _ are.records h.1.records; posts = same_int _ _ _ are.posts h.1.posts })
    h.1.few

columns_odd : (columns : Option HeadColumns) (row : Option Row) → IsHeadRow columns row → IfSome row (λ row. (head : Head) × IsStoredHead head row) → IsSomeAnd columns IsOddHead → ⊥
columns_odd None row h stored odd = absurd odd
columns_odd (Some columns) None h stored odd = h
columns_odd (Some columns) (Some row) h stored odd = never_odd columns row h stored odd

-- a head that is read from a stored one can be read
pub head_is_read : (trees : Trees) (columns : Option HeadColumns) (r : Result (Option Head) KeepFault) (P : KeepFault → Type 0) → HoldsStoredHead trees → IsHeadRow columns (head_row (trees 0))
    → IfErr r (λ _. IsSomeAnd columns IsOddHead) → IfErr r P
head_is_read trees columns (Ok head) P holds row odd = tt
head_is_read trees columns (Err e) P holds row odd = absurd (columns_odd columns (head_row (trees 0)) row (row_found (trees 0) holds) odd)

pub head_was : (trees : Trees) (columns : Option HeadColumns) (r : Result (Option Head) KeepFault) → IfOk r (λ head. head ≡ option_map head_of columns) → IsHeadRow columns (head_row (trees 0))
    → IfOk r (λ head. head ≡ (archived_in trees).head)
head_was trees columns (Ok head) is row = is ∙ head_known columns (head_row (trees 0)) row
head_was trees columns (Err e) is row = tt

number_is : (v : Value) (n : ℕ) → v ≡ Int (pos n) → number_in v ≡ n
number_is v n h = ap number_in h

few_posts : (row : Option Row) → IfSome row (λ row. (head : Head) × IsStoredHead head row) → posts_in (option_map head_in row) < 2 ^ 63
few_posts None h = omega arith
few_posts (Some row) h = subst (λ (n : ℕ). n < 2 ^ 63) (sym (number_is (column row 4) h.0.posts h.1.posts)) h.1.fits

-- the postings of a stored head can be counted
pub posts_fit : (trees : Trees) → HoldsStoredHead trees → posts_in (archived_in trees).head < 2 ^ 63
posts_fit trees holds = few_posts (head_row (trees 0)) (row_found (trees 0) holds)

-- ---- the tables that were made

no_posts : (most : ℤ) (rows : List Row) → rows ≡ [] → list_all (is_at_most most) rows ≡ true
no_posts most rows none = subst (λ (l : List Row). list_all (is_at_most most) l ≡ true) (sym none) refl

with_head : (rows before : List Row) → rows ≡ before → AreStoredHead (filter (has_rowid (pos 1)) before) → AreStoredHead (filter (has_rowid (pos 1)) rows)
with_head rows before same h = subst (λ (l : List Row). AreStoredHead (filter (has_rowid (pos 1)) l)) (sym same) h

-- once the tables are made, both hold an archive
pub made_archive : (old mid : State) → IsMadeOf old.now mid.now → CanBeOurs old → IsArchiveIn old → IsOurs mid × HoldArchive mid.now.trees
made_archive old mid made (inl has) it =
    let same = made.ours has in
    (ap (λ (d : Database). d.schema) same ∙ has, subst (λ (d : Database). HoldArchive d.trees) (sym same) (it.ours has))
made_archive old mid made (inr (inl has)) it =
    let after = made.blank has in
    (after.schema, record { head = with_head (mid.now.trees 0) [] after.head tt; posts = no_posts _ (mid.now.trees 1) after.posts })
made_archive old mid made (inr (inr has)) it =
    let after = made.half has in
    (after.schema, record { head = with_head (mid.now.trees 0) (old.now.trees 0) after.head (it.half has); posts = no_posts _ (mid.now.trees 1) after.posts })

-- ---- what a question for the count comes to

pub miscounted : (P ours above : Type 0) (r : Result Bool KeepFault) → IfOk r (λ none. ours → none ≡ false → ¬ above) → ours → above → IfOk r (λ none. none ≡ false → P)
miscounted P ours above (Ok found) missed has holds = λ is. absurd (missed has is holds)
miscounted P ours above (Err e) missed has holds = tt

-- after an answer the tables are ours still
pub still_ours : (a b : State) → IsAnswered a b → IsOurs a → IsOurs b
still_ours a b answered ours = ap (λ (d : Database). d.schema) answered.now ∙ ours

-- the count of a head that was read can be asked for
pub record IsReady (b : State) (head : Option Head) : Type 0 where
  pub ours : IsOurs b
  pub fits : posts_in head < 2 ^ 63
  pub above : HasNoneAbove (pos (posts_in head)) b.now.trees

pub counted_ready : (a b : State) (head : Option Head) → IsAnswered a b → head ≡ (archived_in a.now.trees).head → HoldsStoredHead a.now.trees → IsArchive a.now.trees → IsOurs a → IsReady b head
counted_ready a b head answered is stored archive ours =
    let now = answered.now in
    let before : HasNoneAbove (pos (posts_in head)) a.now.trees = subst (λ (h : Option Head). HasNoneAbove (pos (posts_in h)) a.now.trees) (sym is) archive in
    record {
      ours = still_ours a b answered ours;
      fits = subst (λ (h : Option Head). posts_in h < 2 ^ 63) (sym is) (posts_fit a.now.trees stored);
      above = subst (λ (d : Database). HasNoneAbove (pos (posts_in head)) d.trees) (sym now) before;
    }

-- ---- a keeper that is made

pub refused_at : {S R : Type 0} (shown : S → State) (conn : Option S) (c d : S) (opened : Result R S) → conn ≡ Some c → opened ≡ Err d → IfErr opened (λ x. WhyRefused (shown c) (shown x))
    → IsRefusedFor shown conn None (Some d)
refused_at {S = S} {R = R} shown conn c d opened is done why =
    let it : WhyRefused (shown c) (shown d) = subst (λ (r : Result R S). IfErr r (λ x. WhyRefused (shown c) (shown x))) done why in
    subst (λ (o : Option S). IsRefusedFor shown o None (Some d)) (sym is) it
