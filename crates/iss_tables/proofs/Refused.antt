-- Why a posting isn't put.
use Rattle.std.proofs.Common.{◌≡◌, ◌⊎◌, inl, inr, ℕ, ℤ, zero, suc, Bool, true, false, List, [], ◌∷◌, length, length-append, Option, Some, None, Ok, Err, Result, IfErr, refl, sym, ap, subst, ◌∙◌, arith}
use Rattle.std.specs.List.{AllByRecursion, list_all}
use Rattle.sqlite_schema.specs.declared.schema.Constraint.TheVariants as rule
use Rattle.sqlite_schema.specs.declared.schema.Keys.{Keys}
use Rattle.sqlite_schema.specs.declared.schema.Keys.TheVariants.{Enforced}
use Rattle.sqlite_schema.specs.declared.schema.Among.TheVariants.{All}
use Rattle.sqlite_schema.specs.Rules.{passes, Keeps, Refers}
use Rattle.sqlite_rules.specs.Lists.{Has}
use Rattle.sqlite_rules.specs.declared.error.Refusal.{Refusal}
use Rattle.sqlite_rules.specs.declared.error.Refusal.TheVariants as refusal
use Rattle.sqlite_rules.specs.Edit.{Edit, IsRefused, IsOversized, taken_by}
use Rattle.sqlite_rules.specs.Action.{works, Leads, Writes}
use Rattle.sqlite_sql.specs.Ops.{fits_i64}
use Rattle.sqlite_typing.specs.Types.{accepts_terms}
use Rattle.std.proofs.Common.{IsSome, option_map}
use Rattle.sqlite.specs.declared.error.ErrorCode.TheVariants as code
use Rattle.sqlite.specs.declared.error.Error.{Error}
use Rattle.sqlite.specs.declared.error.Error.TheVariants.{SqliteFailure}
use Rattle.sqlite.specs.Order.{Row}
use Rattle.sqlite.specs.Tree.{Trees}
use Rattle.sqlite_trees.specs.Tree.{with_tree}
use Rattle.sqlite.specs.Edit.{edit_of, edited, numbered}
use Rattle.sqlite.specs.Rowids.TheVariants.{Chosen}
use Rattle.sqlite.specs.Source.TheVariants.{Values}
use Rattle.sqlite.specs.Command.TheVariants.{Insert}
use Rattle.sqlite.specs.Effect.{edit_error}
use Rattle.sqlite.specs.Rows.{Edited, Sourced, stamped}
use Rattle.sqlite.specs.Does.{Does}
use Rattle.sqlite.specs.State.{State, ExecutesInside, mode_of}
use Rattle.iss_tables.specs.Tables.{post_table, archive_schema}
use Rattle.iss_tables.specs.Rows.{Columns, given, stored}
use Rattle.std.proofs.Common.{pos, negsuc, ◌^◌, FitsSigned, w64, lt-ltb}
use Rattle.std.proofs.lemmas.Int.{ints}
use Rattle.sqlite.specs.Listing.{understood}
use Rattle.sqlite.proofs.Callers.{statement_of}
use Rattle.iss_tables.specs.Texts.{add_post}
use Rattle.iss_tables.specs.Causes.{IsTooLong, IsTaken, FailsToPut}
use Rattle.iss_tables.proofs.Compiled.{post_terms, add_is, plain, writes_whole}
use Rattle.iss_tables.proofs.PostLemmas.{cast_given}
use Rattle.iss_tables.proofs.Failing.{Stops, by_store, by_store_alone, not_done_inside, write_placed, write_stays}

same_stop : {B E : Type 0} {a b : E} → ◌≡◌ {A = Result B E} (Err a) (Err b) → a ≡ b
same_stop e = cc

pub never_ok : {B E : Type 0} {a : E} {b : B} → ◌≡◌ {A = Result B E} (Err a) (Ok b) → ⊥
never_ok e = cc

-- a part that stopped did so in its first part, or after it
pub ended : {B E R : Type 0} {First : E → Type 0} {stop : E} → ((s : E) × First s × (◌≡◌ {A = Result B E} (Err stop) (Err s))) ⊎ R → First stop ⊎ R
ended {First = First} (inl h) = inl (subst First (sym (same_stop h.2)) h.1)
ended (inr h) = inr h

-- no edit sets off an action, so it ends as its one step does
pub one_refusal : (keys : Keys) (db : Trees) (edit : Edit) (why : Option Refusal) → works archive_schema keys 0 edit.table.tree (taken_by db edit) edit.news ≡ []
    → Writes archive_schema keys db edit (Err why)
    → ((reason : Refusal) × IsRefused archive_schema keys db edit reason × (why ≡ Some reason)) ⊎ ((row : Row) × Has edit.news row × IsOversized archive_schema edit.table row × (why ≡ None))
one_refusal keys db edit why none (inl refused) = inl (refused.0, refused.1, same_stop refused.2)
one_refusal keys db edit why none (inr (inl big)) = inr (big.0, big.1, big.2, same_stop big.3)
one_refusal keys db edit why none (inr (inr went)) = absurd (settled went.2.0 (rw none at went.2.1))
  where
    settled : (n : ℕ) → Leads archive_schema keys n went.0 [] (Err why) → ⊥
    settled zero h = never_ok h.1
    settled (suc n) h = omega (arith, ap length h.2, length-append h.0 (h.1 ∷ []))

pub no_unique : (db : Trees) (rows : List Row) (r : Row → Bool) → ((row : Row) → r row ≡ true) → AllByRecursion (λ row. r row ≡ true) rows
no_unique db [] r all = tt
no_unique db (row ∷ rows) r all = (all row, no_unique db rows r all)

pub keeps_unique : (db : Trees) → Keeps rule.Unique archive_schema db
keeps_unique db = (no_unique db (db 0) (λ _. true) (λ row. refl), (no_unique db (db 1) (λ _. true) (λ row. refl), tt))

-- a posting has the types of its columns, and no NULL if it may have none; and what the statement is given has types
typed : (db : Trees) (c : Columns) (a b d : Option (List ℕ)) → c.from_user ≡ a → c.to_user ≡ b → c.txn ≡ d
    → (list_all (passes rule.Datatype archive_schema db post_table) (stored c ∷ []) ≡ true) × (list_all (passes rule.NotNull archive_schema db post_table) (stored c ∷ []) ≡ true)
    × (accepts_terms post_terms (stamped post_table (given c)) ≡ true)
typed db c None None None x y z = rw (x, y, z) (refl, refl, refl)
typed db c None None (Some t) x y z = rw (x, y, z) (refl, refl, refl)
typed db c None (Some t) None x y z = rw (x, y, z) (refl, refl, refl)
typed db c None (Some t) (Some u) x y z = rw (x, y, z) (refl, refl, refl)
typed db c (Some t) None None x y z = rw (x, y, z) (refl, refl, refl)
typed db c (Some t) None (Some u) x y z = rw (x, y, z) (refl, refl, refl)
typed db c (Some t) (Some u) None x y z = rw (x, y, z) (refl, refl, refl)
typed db c (Some t) (Some u) (Some v) x y z = rw (x, y, z) (refl, refl, refl)

pub false_true : {b : Bool} → b ≡ true → b ≡ false → ⊥
false_true t f = let no = sym t ∙ f in cc

-- what adding a posting edits
abbrev own : Columns → Edit
own c = record { table = post_table; gone = []; news = stored c ∷ [] }

-- a posting isn't put: it is too long, or refused
abbrev NotPut : Option ℕ → Columns → Trees → Option Error → Type 0
NotPut limit c db None = IsTooLong (stored c)
NotPut limit c db (Some e) = IsTaken (stored c ∷ []) db e ⊎ ((e ≡ SqliteFailure code.OperationInterrupted) × IsSome limit)

module _ (limit : Option ℕ) (db : Trees) (c : Columns) (fits : fits_i64 c.seq ≡ true) where
  row_refused : (reason : Refusal) → IsRefused archive_schema Enforced db (own c) reason → IsTaken (stored c ∷ []) db (edit_error reason)
  row_refused (refusal.Violates rule.Datatype) h = absurd (false_true (typed db c c.from_user c.to_user c.txn refl refl refl).0 h)
  row_refused (refusal.Violates rule.NotNull) h = absurd (false_true (typed db c c.from_user c.to_user c.txn refl refl refl).1 h)
  row_refused (refusal.Violates rule.Check) h = absurd (false_true refl h)
  row_refused (refusal.Violates rule.PrimaryKey) h = (refl, h)
  row_refused (refusal.Violates rule.Unique) h = absurd (h (keeps_unique (with_tree db (own c).table.tree (edited db (own c)))))
  row_refused (refusal.Violates rule.ForeignKey) h = absurd h
  row_refused refusal.Mismatch h = absurd (false_true refl h)
  row_refused refusal.NoRowid h = absurd (false_true (rw fits refl) h)
  row_refused refusal.BadReference h = absurd (false_true refl h)
  row_refused refusal.TooDeep h = absurd h

  too_long : (row : Row) → Has (stored c ∷ []) row → IsOversized archive_schema post_table row → IsTooLong (stored c)
  too_long row (inl is) (inl long) = subst IsTooLong is long
  too_long row (inl is) (inr index) = absurd index.1
  too_long row (inr none) big = absurd none

  edit_stopped : (edit : Edit) → edit ≡ own c → (stop : Option Error) → Edited archive_schema Enforced db edit (Err stop) → NotPut limit c db stop
  edit_stopped edit same stop h =
      let it = subst (λ (d : Edit). Edited archive_schema Enforced db d (Err stop)) same h in
      elim (one_refusal Enforced db (own c) it.0 refl it.1) [
        | inl refused ↦ subst (NotPut limit c db) (sym (it.2 ∙ ap (option_map edit_error) refused.2)) (inl (row_refused refused.0 refused.1))
        | inr big ↦ subst (NotPut limit c db) (sym (it.2 ∙ ap (option_map edit_error) big.3)) (too_long big.0 big.1 big.2)
      ]

  unsourced : (stop : Option Error) → Sourced limit (record { schema = archive_schema; trees = db }) (stamped post_table (given c)) (Values post_terms 11) (Err stop) → NotPut limit c db stop
  unsourced None h = absurd h
  unsourced (Some e) (inl kind) = absurd (false_true (typed db c c.from_user c.to_user c.txn refl refl refl).2 kind.1)
  unsourced (Some e) (inr met) = inr met

pub refers : (db : Trees) → Refers All archive_schema db
refers db = (no_unique db (db 0) (λ _. true) (λ row. refl), (no_unique db (db 1) (λ _. true) (λ row. refl), tt))

pub posting_stopped : (old : State) (c : Columns) (text : List ℕ) (stop : Option Error) → old.now.schema ≡ archive_schema → fits_i64 c.seq ≡ true
    → Stops old (Insert 1 (Values post_terms 11)) text (given c) stop → NotPut old.step_limit c old.now.trees stop
posting_stopped old c text stop has fits h =
    let db = old.now.trees in
    let done = ended (subst (λ s. Does old.step_limit (mode_of old) (given c) (record old.now { schema = s }) text None (Insert 1 (Values post_terms 11)) (Err stop)) has h) in
    elim done [
      | inl inserts ↦ elim (ended inserts) [
        | inl source ↦ unsourced old.step_limit db c fits stop source
        | inr sourced ↦ elim (ended sourced.2) [
          | inl counter ↦ absurd (never_ok counter)
          | inr counted ↦ elim (ended counted.2) [
            | inl edit ↦ (
                let news : (edit_of db post_table [] Chosen 0 sourced.0).news ≡ stored c ∷ [] =
                ap (λ all. (edit_of db post_table [] Chosen 0 all).news) sourced.1.1 ∙ ap (λ row. numbered Chosen (db 1) (row ∷ [])) (cast_given c) in
                let same : edit_of db post_table [] Chosen 0 sourced.0 ≡ own c = ap (λ (rows : List Row). record { table = post_table; gone = []; news = rows }) news in
                edit_stopped old.step_limit db c fits (edit_of db post_table [] Chosen 0 sourced.0) same stop edit)
            | inr put ↦ elim (ended put.2) [ inl counts ↦ absurd (never_ok counts) | inr next ↦ absurd (never_ok next.2) ]
          ]
        ]
      ]
      | inr concludes ↦ elim (ended concludes.2) [
        | inl tested ↦ absurd (tested.0 (refers concludes.0.trees))
        | inr after ↦ elim (ended after.2) [ inl shown ↦ absurd (never_ok shown) | inr rows ↦ absurd (never_ok rows.2) ]
      ]
    ]

pub fits_row : (z : ℤ) → FitsSigned w64 z → fits_i64 z ≡ true
fits_row (pos n) h = lt-ltb n (2 ^ 63) (omega (arith, ints, h))
fits_row (negsuc n) h = lt-ltb n (2 ^ 63) (omega (arith, ints, h))

pub post_unput : (old new : State) (c : Columns) (r : Result ℕ Error) → old.now.schema ≡ archive_schema → fits_i64 c.seq ≡ true
    → ExecutesInside 0 add_post (given c) old new r → IfErr r (FailsToPut c old new)
post_unput old new c (Ok count) has fits h = tt
post_unput old new c (Err e) has fits h =
    let command = Insert 1 (Values post_terms 11) in
    let text = statement_of add_post (understood archive_schema add_post) in
    elim (not_done_inside add_post (given c) old new archive_schema has command add_is plain.4 writes_whole.0 writes_whole.1 writes_whole.2
    (λ f. write_placed old command f tt) (write_stays old command tt) e h) [
      | inl failed ↦ inl (inl (by_store_alone old new e failed))
      | inr (inl refused) ↦ elim (posting_stopped old c text (Some e) has fits refused.1) [ inl taken ↦ inr (inr taken) | inr met ↦ inl (inr met) ]
      | inr (inr failed) ↦ elim (by_store old new (Stops old command text (given c) None) e failed) [
        | inl store ↦ inl (inl store)
        | inr big ↦ inr (inl (big.0, posting_stopped old c text None has fits big.1))
      ]
    ]
