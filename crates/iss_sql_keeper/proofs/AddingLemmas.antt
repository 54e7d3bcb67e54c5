-- What adding does to what is told, and to what a stop leaves.
use Rattle.std.proofs.Common.{◌≡◌, ◌⊎◌, inl, inr, false, List, ◌++◌, map, Option, Some, Result, Ok, Err, OnOk, OnErr, IfSome, IsSomeAnd, IsTrue, sym, ap, subst, ◌∙◌}
use Rattle.sqlite.specs.Effect.{Database}
use Rattle.sqlite.specs.declared.error.Error.{Error}
use Rattle.sqlite.specs.State.{State, HasCleanDisk}
use Rattle.iss_archive.specs.declared.post.Head.{Head}
use Rattle.iss_archive.specs.declared.post.KeepFault.{KeepFault}
use Rattle.iss_archive.specs.declared.post.PostRow.{PostRow}
use Rattle.iss_archive.specs.Archived.{Archived, Adds, Follows, Told}
use Rattle.iss_tables.specs.declared.adding.PostColumns.{PostColumns}
use Rattle.iss_tables.specs.declared.adding.HeadColumns.{HeadColumns}
use Rattle.iss_tables.specs.Calls.{IsOurs, IsSettled, HasAdded, IsCommitted, HasUndone, SurvivesAdding}
use Rattle.iss_tables.specs.Rows.{columns_of}
use Rattle.iss_tables.specs.Steps.{AddsAll}
use Rattle.iss_sql_keeper.specs.Decoded.{archived_in, head_of}
use Rattle.iss_sql_keeper.specs.Given.{posting_given}
use Rattle.iss_sql_keeper.specs.Shown.{HasAddedTo, IsKept, LeavesAdded, LeftIn, Stays, told_in}
use Rattle.iss_sql_keeper.proofs.AddedLemmas.{adds_record}
use Rattle.iss_sql_keeper.proofs.ShownLemmas.{told_is, told_by, stays_kept}

module _ (old new : State) (rows : List PostColumns) (head : HeadColumns) where
  pub undone_stays : {U : Type 0} (mode : new.in_transaction ≡ false) (r : Result U Error) → (HasCleanDisk new → HasCleanDisk old) → (HasCleanDisk new → OnErr r (HasUndone old new)) → OnErr r (Stays old new)
  undone_stays mode (Ok u) clean undone = tt
  undone_stays mode (Err e) clean undone = record {
    was_open = λ c o. (undone c).was_open o;
    clean = clean;
    committed = λ c o. (undone c).committed o;
    mode = λ _. mode;
  }

  pub added_to : {U : Type 0} (r : Result U Error) → IsKept old → IsOurs old → IsSettled old → HasAdded rows head r old new → (HasCleanDisk new → OnOk r (IsCommitted old new)) → HasCleanDisk new → OnOk r (HasAddedTo rows head old new)
  added_to (Ok u) kept ours settled added committed clean =
      let done = committed clean in
      let was : old.now ≡ old.committed = settled kept.autocommit done.was_open in
      let all : AddsAll (map columns_of rows) head old.now new.now = added clean ours in
      record {
        was_open = done.was_open;
        adds = subst (λ (d : Database). AddsAll (map columns_of rows) head d new.committed) was (subst (λ (d : Database). AddsAll (map columns_of rows) head old.now d) (sym done.committed) all);
      }
  added_to (Err e) kept ours settled added committed clean = tt

  pub leaves_added : IsKept old → IsOurs old → IsSettled old → SurvivesAdding rows head old new → LeavesAdded rows head old new
  leaves_added kept ours settled survives = record {
    before = λ clean db may. elim ((survives ours).crash clean db may) [
      | inl before ↦ inl before
      | inr made ↦ inr (made.0, made.1, subst (λ (d : Database). AddsAll (map columns_of rows) head d made.1) (settled kept.autocommit made.0) made.2, made.3)
    ];
  }

pub leaves_itself : (s : State) (rows : List PostColumns) (head : HeadColumns) → LeavesAdded rows head s s
leaves_itself s rows head = record { before = λ clean db may. inl may }

module _ (old new : State) (head : Head) (rows : List PostRow) (c : HeadColumns) (ps : List PostColumns) (kept : IsKept old) (next : IfSome (told_in old) (λ a. Follows a head rows))
    (given : map posting_given ps ≡ rows) (columns : head_of c ≡ head) (clean : HasCleanDisk new → HasCleanDisk old) where
  -- if the archive is told, the record is the next one
  follows : IsTrue old.is_open → HasCleanDisk old → Follows (archived_in old.committed.trees) head rows
  follows is_open clean = subst (λ (t : Option Archived). IfSome t (λ a. Follows a head rows)) (told_is old is_open clean) next

  pub kept_added : {U : Type 0} → new.in_transaction ≡ false → (r : Result U KeepFault) → (HasCleanDisk new → OnOk r (HasAddedTo ps c old new)) → OnErr r (Stays old new) → IsKept new
  kept_added mode (Ok u) added undone = record {
    autocommit = mode;
    archive = λ clean_ is_open.
        let done = added clean_ in
        let was = clean clean_ in
        (adds_record old.committed new.committed head c rows ps (kept.archive was done.was_open) (follows done.was_open was) given columns done.adds).below;
  }
  kept_added mode (Err e) added undone = stays_kept old new undone kept

  pub told_added : {U : Type 0} (r : Result U KeepFault) → (HasCleanDisk new → OnOk r (HasAddedTo ps c old new)) → OnOk r (Told (Adds head rows) (told_in old) (told_in new))
  told_added (Ok u) added = told_by (Adds head rows) old new (λ clean_ is_open.
      let done = added clean_ in
      let was = clean clean_ in
      (done.was_open, was, (adds_record old.committed new.committed head c rows ps (kept.archive was done.was_open) (follows done.was_open was) given columns done.adds).archived))
  told_added (Err e) added = tt

  pub left_added : LeavesAdded ps c old new → (a : Archived) → LeftIn new a → LeftIn old a ⊎ IsSomeAnd (told_in old) (λ b. Adds head rows b a)
  left_added leaves a left =
      let was = clean left.clean in
      elim (leaves.before left.clean left.db left.left) [
        | inl before ↦ inl (record { clean = was; db = left.db; left = before; is = left.is })
        | inr made ↦ inr (
            let added = adds_record old.committed made.1 head c rows ps (kept.archive was made.0) (follows made.0 was) given columns made.2 in
            let whole : a ≡ record { head = Some head; rows = (archived_in old.committed.trees).rows ++ rows } = left.is ∙ ap archived_in made.3 ∙ added.archived in
            subst (λ (t : Option Archived). IsSomeAnd t (λ b. Adds head rows b a)) (sym (told_is old made.0 was)) whole)
      ]

pub left_itself : (s : State) (Q : Type 0) (a : Archived) → LeftIn s a → LeftIn s a ⊎ Q
left_itself s Q a left = inl left

-- the same of a record as it is given
pub told_given : {A : Type 0} (P : Head → List PostRow → A → Type 0) (head next : Head) (rows more : List PostRow) (a : A) → next ≡ head → more ≡ rows → P next more a → P head rows a
told_given P head next rows more a h r p = subst (λ (n : Head). P n rows a) h (subst (λ (l : List PostRow). P next l a) r p)
