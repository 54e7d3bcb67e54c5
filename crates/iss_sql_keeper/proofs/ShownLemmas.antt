-- What a call's effect on a connection is to what is told.
use Rattle.std.proofs.Common.{◌≡◌, inl, inr, ℕ, ℤ, pos, Bool, true, false, ◌&&◌, cond, List, [], ◌∷◌, map, filter, Option, Some, None, option_map, Result, Ok, Err, IfOk, OnErr, OnOk, Vec, IsTrue, refl, sym, ap, subst, ◌∙◌, arith}
use Rattle.std.specs.List.{list_all}
use Rattle.std.specs.Global.{Global}
use Rattle.sqlite.specs.declared.error.Error.{Error}
use Rattle.sqlite.specs.Order.{Row, column}
use Rattle.sqlite_trees.specs.View.{doubt}
use Rattle.sqlite.specs.Effect.{Database}
use Rattle.sqlite.specs.State.{State, HasCleanDisk}
use Rattle.iss_archive.specs.declared.post.Head.{Head}
use Rattle.iss_archive.specs.declared.post.KeepFault.{KeepFault}
use Rattle.iss_archive.specs.Archived.{Archived, Told, Same, posts_in, is_of_user, rows_of_user}
use Rattle.iss_archive.specs.declared.post.PostRow.{PostRow}
use Rattle.iss_archive.specs.Statable.{is_statable}
use Rattle.iss_model.specs.declared.currency.Currency.{Currency}
use Rattle.iss_model.specs.Currencies.{iso_number}
use Rattle.sqlite.specs.declared.types.Value.TheVariants.{Int, Text}
use Rattle.iss_tables.specs.declared.adding.HeadColumns.{HeadColumns}
use Rattle.iss_tables.specs.declared.asking.UserColumns.{UserColumns}
use Rattle.iss_tables.specs.Calls.{IsOurs, KeepsOurs, SurvivesOurs, IsSettled, ReadsHead, ShowsPosts, FindsNoneAbove}
use Rattle.iss_tables.specs.Steps.{IsHeadRow, head_row, is_at_most}
use Rattle.iss_tables.specs.Rows.{asked_for}
use Rattle.iss_tables.specs.Queries.{posts_query, passes, ShowsTable}
use Rattle.iss_sql_keeper.specs.Decoded.{natural, number_in, head_in, head_of, posting_shown, archived_in}
use Rattle.iss_sql_keeper.proofs.AskedLemmas.{gives, asks_own}
use Rattle.iss_sql_keeper.specs.Shown.{IsArchive, IsKept, Holds, told_in, LeftIn, Stays, Tells, LeavesNothingNew}

clean_is : (b : Bool) → doubt b ≡ 0 → b ≡ true
unfolding doubt
clean_is true h = refl
clean_is false h = absurd cc

pub clean_from : (b : Bool) → b ≡ true → doubt b ≡ 0
unfolding doubt
clean_from b h = rw h refl

told_none : (R : Archived → Archived → Type 0) (was : Option Archived) → Told R was None
told_none R None = tt
told_none R (Some a) = tt

-- what is told of a state that is open and clean
pub told_is : (s : State) → IsTrue s.is_open → HasCleanDisk s → told_in s ≡ Some (archived_in s.committed.trees)
told_is s is_open clean = rw (is_open, clean_is s.is_clean clean) refl

-- two states are related as what is told of them is
pub told_by : (R : Archived → Archived → Type 0) (old new : State)
    → (HasCleanDisk new → IsTrue new.is_open → IsTrue old.is_open × HasCleanDisk old × R (archived_in old.committed.trees) (archived_in new.committed.trees)) → Told R (told_in old) (told_in new)
told_by R old new h = by new.is_open new.is_clean refl refl
  where
    by : (o c : Bool) → new.is_open ≡ o → new.is_clean ≡ c → Told R (told_in old) (cond (o && c) (Some (archived_in new.committed.trees)) None)
    by true true o c =
        let was = h (clean_from new.is_clean c) o in
        subst (λ (t : Option Archived). Told R t (Some (archived_in new.committed.trees))) (sym (told_is old was.0 was.1)) was.2
    by true false o c = told_none R (told_in old)
    by false c o d = told_none R (told_in old)

pub stays_self : (s : State) → Stays s s
stays_self s = record { was_open = λ _ o. o; clean = λ c. c; committed = λ _ _. refl; mode = λ m. m }

pub stays_then : (a b c : State) → Stays a b → Stays b c → Stays a c
stays_then a b c p q = record {
  was_open = λ clean is_open. p.was_open (q.clean clean) (q.was_open clean is_open);
  clean = λ clean. p.clean (q.clean clean);
  committed = λ clean is_open. q.committed clean is_open ∙ p.committed (q.clean clean) (q.was_open clean is_open);
  mode = λ out. q.mode (p.mode out);
}

pub stays_kept : (old new : State) → Stays old new → IsKept old → IsKept new
stays_kept old new s k = record {
  autocommit = s.mode k.autocommit;
  archive = λ clean is_open. subst (λ (d : Database). IsArchive d.trees) (sym (s.committed clean is_open)) (k.archive (s.clean clean) (s.was_open clean is_open));
}

-- what a call that changes nothing leaves the same, and what it gave is what is told
pub stays_told : (P : Archived → Type 0) (old new : State) → Stays old new → (HasCleanDisk new → IsTrue new.is_open → P (archived_in new.committed.trees)) → Told (λ a b. Same a b × P b) (told_in old) (told_in new)
stays_told P old new s p = told_by (λ a b. Same a b × P b) old new (λ clean is_open.
    (s.was_open clean is_open, s.clean clean, (ap (λ (d : Database). archived_in d.trees) (s.committed clean is_open), p clean is_open)))

pub stays_same : (old new : State) → Stays old new → Told Same (told_in old) (told_in new)
stays_same old new s = told_by Same old new (λ clean is_open. (s.was_open clean is_open, s.clean clean, ap (λ (d : Database). archived_in d.trees) (s.committed clean is_open)))

pub left_same : (old new : State) (a : Archived) → (HasCleanDisk new → HasCleanDisk old) → LeavesNothingNew old new → LeftIn new a → LeftIn old a
left_same old new a clean same left = record { clean = clean left.clean; db = left.db; left = same.before left.clean left.db left.left; is = left.is }

pub nothing_new : (s : State) → LeavesNothingNew s s
nothing_new s = record { before = λ _ db may. may }

-- ---- a question

module _ (old new : State) (ours : IsOurs old) (kept : KeepsOurs old new) (mode : old.in_transaction ≡ false → new.in_transaction ≡ false) (survives : SurvivesOurs old new) where
  pub asked_stays : Stays old new
  asked_stays = record {
    was_open = λ clean is_open. (kept clean ours).was_open is_open;
    clean = λ clean. omega (arith, (survives ours).clean, clean);
    committed = λ clean is_open. (kept clean ours).committed is_open;
    mode = mode;
  }

  pub asked_leaves : LeavesNothingNew old new
  asked_leaves = record { before = λ clean db may. elim ((survives ours).crash clean db may) [ inl before ↦ before | inr none ↦ absurd none ] }

  -- what was shown is what is committed
  pub asked_shows : old.in_transaction ≡ false → IsSettled old → HasCleanDisk new → IsTrue new.is_open → new.committed ≡ old.now
  asked_shows is settled clean is_open =
      (kept clean ours).committed is_open ∙ sym (settled is ((kept clean ours).was_open is_open))

  pub head_held : old.in_transaction ≡ false → IsSettled old → (r : Result (Option HeadColumns) Error) → ReadsHead r old new → IfOk r (λ head. Holds new (λ trees. IsHeadRow head (head_row (trees 0))))
  head_held is settled (Ok head) read = record { held = λ clean is_open. subst (λ (d : Database). IsHeadRow head (head_row (d.trees 0))) (sym (asked_shows is settled clean is_open)) (read clean ours) }
  head_held is settled (Err e) read = tt

  pub posts_held : old.in_transaction ≡ false → IsSettled old → (account : UserColumns) (r : Result (Vec Row Global) Error) → ShowsPosts account r old new
      → IfOk r (λ rows. Holds new (λ trees. ShowsTable posts_query (filter (passes posts_query.filter (asked_for account)) (trees 1)) (asked_for account) rows.items))
  posts_held is settled account (Ok rows) shown = record {
    held = λ clean is_open. subst (λ (d : Database). ShowsTable posts_query (filter (passes posts_query.filter (asked_for account)) (d.trees 1)) (asked_for account) rows.items) (sym (asked_shows is settled clean is_open)) (shown clean ours);
  }
  posts_held is settled account (Err e) shown = tt

  pub above_held : old.in_transaction ≡ false → IsSettled old → (most : ℤ) (r : Result Bool Error) → FindsNoneAbove most r old new
      → IfOk r (λ none. IsTrue none → Holds new (λ trees. list_all (is_at_most most) (trees 1) ≡ true))
  above_held is settled most (Ok none) found = λ yes. record {
    held = λ clean is_open. subst (λ (d : Database). list_all (is_at_most most) (d.trees 1) ≡ true) (sym (asked_shows is settled clean is_open)) (found clean ours yes);
  }
  above_held is settled most (Err e) found = tt

-- an archive is found
pub opened_kept : (mid new : State) (head : Option Head) (r : Result Bool KeepFault) → mid.in_transaction ≡ false → Holds mid (λ trees. head ≡ (archived_in trees).head) → Stays mid new
    → IfOk r (λ yes. IsTrue yes → Holds new (λ trees. list_all (is_at_most (pos (posts_in head))) (trees 1) ≡ true)) → IfOk r (λ yes. IsTrue yes → IsKept new)
opened_kept mid new head (Err e) mode held s found = tt
opened_kept mid new head (Ok b) mode held s found = λ yes. record {
  autocommit = s.mode mode;
  archive = λ clean is_open.
      let same = s.committed clean is_open in
      let top : head ≡ (archived_in new.committed.trees).head = held.held (s.clean clean) (s.was_open clean is_open) ∙ ap (λ (d : Database). (archived_in d.trees).head) (sym same) in
      subst (λ (h : Option Head). list_all (is_at_most (pos (posts_in h))) (new.committed.trees 1) ≡ true) top ((found yes).held clean is_open);
}

pub head_known : (c : Option HeadColumns) (o : Option Row) → IsHeadRow c o → option_map head_of c ≡ option_map head_in o
head_known None None h = refl
head_known None (Some r) h = absurd h
head_known (Some c) None h = absurd h
head_known (Some c) (Some r) h =
    let instance : natural c.instance ≡ number_in (column r 2) = sym (ap number_in h.instance) in
    let records : natural c.records ≡ number_in (column r 3) = sym (ap number_in h.records) in
    let posts : natural c.posts ≡ number_in (column r 4) = sym (ap number_in h.posts) in
    λ i. Some (record { instance = instance i; records = records i; posts = posts i })

-- the head that is read is the archive's
pub head_told : (s : State) (columns : Option HeadColumns) (r : Result (Option Head) KeepFault) → IfOk r (λ head. head ≡ option_map head_of columns)
    → Holds s (λ trees. IsHeadRow columns (head_row (trees 0))) → IfOk r (λ head. Holds s (λ trees. head ≡ (archived_in trees).head))
head_told s columns (Ok head) is held = record { held = λ clean is_open. is ∙ head_known columns (head_row (s.committed.trees 0)) (held.held clean is_open) }
head_told s columns (Err e) is held = tt

-- ---- what a call told

module _ {T : Type 0} (old new : State) (r : Result T KeepFault) (P : T → Archived → Type 0) where
  pub read_told : Stays old new → IfOk r (λ x. Holds new (λ trees. P x (archived_in trees))) → IfOk r (λ x. Told (λ a b. Same a b × P x b) (told_in old) (told_in new))
  read_told s h = by r h
    where
      by : (q : Result T KeepFault) → IfOk q (λ x. Holds new (λ trees. P x (archived_in trees))) → IfOk q (λ x. Told (λ a b. Same a b × P x b) (told_in old) (told_in new))
      by (Ok x) h = stays_told (P x) old new s h.held
      by (Err e) h = tt

anyway : {T E : Type 0} (r : Result T E) (Q : Type 0) → Q → OnErr r Q
anyway (Ok x) Q q = tt
anyway (Err e) Q q = q

pub failed_same : {T : Type 0} (old new : State) (r : Result T KeepFault) → Stays old new → OnErr r (Told Same (told_in old) (told_in new))
failed_same old new r s = anyway r _ (stays_same old new s)

pub same_told : (t : Option Archived) → Told Same t t
same_told None = tt
same_told (Some a) = refl

-- what was stated is what is asked for
pub gives_held : (s : State) (account : UserColumns) (user : List ℕ) (currency : Currency) (items shown : List Row) (r : Result (Vec PostRow Global) KeepFault)
    → asked_for account ≡ Text user ∷ Int (pos (iso_number currency)) ∷ [] → shown ≡ items
    → Holds s (λ trees. ShowsTable posts_query (filter (passes posts_query.filter (asked_for account)) (trees 1)) (asked_for account) items)
    → IfOk r (λ rows. rows.items ≡ map posting_shown shown) → IfOk r (λ rows. list_all (is_of_user user currency) rows.items ≡ true) → IfOk r (λ rows. IsTrue (is_statable user currency rows.items))
    → IfOk r (λ rows. Holds s (λ trees. rows.items ≡ rows_of_user user currency (archived_in trees).rows))
gives_held s account user currency items shown (Err e) asked same table read own statable = tt
gives_held s account user currency items shown (Ok rows) asked same table read own statable =
    let params : Row = Text user ∷ Int (pos (iso_number currency)) ∷ [] in record {
      held = λ clean is_open.
          let tree = s.committed.trees 1 in
          let all : ShowsTable posts_query (filter (passes posts_query.filter params) tree) params items =
          subst (λ (ps : Row). ShowsTable posts_query (filter (passes posts_query.filter ps) tree) ps items) asked (table.held clean is_open) in
          gives user currency params tree items rows.items (asks_own user currency) all (read ∙ ap (map posting_shown) same) own statable;
    }

pub told_failed : {T : Type 0} (old new : State) (r : Result T KeepFault) → OnErr r (Stays old new) → OnErr r (Told Same (told_in old) (told_in new))
told_failed old new (Ok x) s = tt
told_failed old new (Err e) s = stays_same old new s

-- ---- what a call on the database came to

module _ {T E F : Type 0} where
  pub if_ok : (P : T → Type 0) (q : Result T E) (r : Result T F) → Tells q r → IfOk q P → IfOk r P
  if_ok P (Ok x) (Ok y) same h = subst P (sym same) h
  if_ok P (Ok x) (Err f) same h = tt
  if_ok P (Err e) (Ok y) same h = absurd same
  if_ok P (Err e) (Err f) same h = tt

  pub on_ok : (P : Type 0) (q : Result T E) (r : Result T F) → Tells q r → OnOk q P → OnOk r P
  on_ok P (Ok x) (Ok y) same h = h
  on_ok P (Ok x) (Err f) same h = tt
  on_ok P (Err e) (Ok y) same h = absurd same
  on_ok P (Err e) (Err f) same h = tt

  pub on_err : (P : Type 0) (q : Result T E) (r : Result T F) → Tells q r → OnErr q P → OnErr r P
  on_err P (Ok x) (Ok y) same h = tt
  on_err P (Ok x) (Err f) same h = absurd same
  on_err P (Err e) (Ok y) same h = tt
  on_err P (Err e) (Err f) same h = h
