-- Why the head isn't set.
use Rattle.std.proofs.Common.{◌≡◌, ◌⊎◌, inl, inr, ℕ, ℤ, pos, Bool, true, false, not, ◌&&◌, ◌||◌, List, [], ◌∷◌, Option, Some, None, Ok, Err, Result, IfErr, IsSome, option_map, refl, sym, ap, subst, ◌∙◌}
use Rattle.std.specs.List.{list_all, list_any}
use Rattle.std.specs.Ordering.{is_eq}
use Rattle.std.proofs.lemmas.Cmp.{tied_itself}
use Rattle.sqlite_value.proofs.OrderLemmas.{value_cmp_total}
use Rattle.std.proofs.Common.{nat_lt, length}
use Rattle.sqlite_typing.specs.Types.{accepts_terms}
use Rattle.sqlite_schema.specs.Rules.{table_reals}
use Rattle.sqlite_trees.specs.View.{is_int, IsStorableRow}
use Rattle.sqlite_trees.specs.Tree.{without_rowid}
use Rattle.sqlite_schema.specs.declared.command.Conflict.TheVariants.{Replace}
use Rattle.sqlite_schema.specs.declared.schema.Constraint.TheVariants as rule
use Rattle.sqlite_schema.specs.declared.schema.Keys.TheVariants.{Enforced}
use Rattle.sqlite_rules.specs.Lists.{Has}
use Rattle.sqlite_value.specs.Keys.{first_key}
use Rattle.sqlite_rules.specs.Keys.{conflicts, AreConflicts}
use Rattle.sqlite_rules.specs.Steps.{IsJudged}
use Rattle.sqlite_rules.specs.Calls.{ids_of}
use Rattle.sqlite_rules.specs.declared.error.Refusal.{Refusal}
use Rattle.sqlite_rules.specs.declared.error.Refusal.TheVariants as refusal
use Rattle.sqlite_rules.specs.Edit.{Edit, IsRefused, IsOversized, without_all, id_in}
use Rattle.sqlite_rules.proofs.ListLemmas.{has_filtered}
use Rattle.sqlite_rules.proofs.TableLemmas.{int_is, without_all_has}
use Rattle.sqlite.specs.declared.types.Value.TheVariants.{Int}
use Rattle.sqlite.specs.declared.error.ErrorCode.TheVariants as code
use Rattle.sqlite.specs.declared.error.Error.{Error}
use Rattle.sqlite.specs.declared.error.Error.TheVariants.{SqliteFailure}
use Rattle.sqlite.specs.Order.{Row, column, value_cmp}
use Rattle.sqlite.specs.Tree.{Trees, rowid, has_rowid}
use Rattle.sqlite.specs.Edit.{edit_of, edited}
use Rattle.sqlite_trees.specs.Tree.{with_tree}
use Rattle.sqlite.specs.Rowids.TheVariants.{Given}
use Rattle.sqlite.specs.Source.TheVariants.{Values}
use Rattle.sqlite.specs.Command.TheVariants.{InsertOr}
use Rattle.sqlite.specs.Effect.{edit_error, value_rows}
use Rattle.sqlite.specs.Rows.{Clears, Puts, Judged, Tries, TriesEach, InsertsOr, Sourced, Edited, stamped, nothing}
use Rattle.sqlite.specs.Does.{Does}
use Rattle.sqlite.specs.Listing.{understood}
use Rattle.sqlite.specs.State.{State, ExecutesInside, mode_of}
use Rattle.sqlite.proofs.Callers.{statement_of, one_step}
use Rattle.iss_tables.specs.declared.adding.HeadColumns.{HeadColumns}
use Rattle.iss_tables.specs.Tables.{head_table, archive_schema}
use Rattle.iss_tables.specs.Rows.{stored_head}
use Rattle.iss_tables.specs.Texts.{set_head}
use Rattle.iss_tables.specs.Causes.{IsLongHead, HasOddKey, FailsToSet}
use Rattle.iss_tables.proofs.Compiled.{head_terms, set_is, plain, writes_whole}
use Rattle.iss_tables.proofs.HeadReading.{equals_is}
use Rattle.iss_tables.proofs.HeadLemmas.{task_of, cast_head, new_is}
use Rattle.iss_tables.proofs.Failing.{Stops, by_store, by_store_alone, not_done_inside, write_placed, write_stays}
use Rattle.iss_tables.proofs.Refused.{ended, never_ok, false_true, one_refusal, keeps_unique, refers}

-- ---- rows with the key of the head

and_true : (b : Bool) → ((b && true) || false) ≡ b
and_true true = refl
and_true false = refl

both : (a b : Bool) → (a && b) ≡ true → (a ≡ true) × (b ≡ true)
both true b h = (refl, h)
both false b h = cc

neither : (a b : Bool) → (a ≡ true → ⊥) → b ≡ false → (a || b) ≡ false
neither true b never h = absurd (never refl)
neither false b never h = h

all_has : (p : Row → Bool) (rows : List Row) (r : Row) → list_all p rows ≡ true → Has rows r → p r ≡ true
all_has p [] r all has = absurd has
all_has p (x ∷ rows) r all (inl is) = ap p is ∙ (both (p x) (list_all p rows) all).0
all_has p (x ∷ rows) r all (inr later) = all_has p rows r (both (p x) (list_all p rows) all).1 later

free_from : (p : Row → Bool) (rows : List Row) → ((r : Row) → Has rows r → p r ≡ true → ⊥) → list_any p rows ≡ false
free_from p [] h = refl
free_from p (r ∷ rows) h = neither (p r) (list_any p rows) (h r (inl refl)) (free_from p rows (λ s has. h s (inr has)))

id_has : (rows : List Row) (x : Row) → Has rows x → Has (ids_of rows) (id_in (rowid x))
id_has [] x has = absurd has
id_has (r ∷ rows) x (inl is) = inl (ap (λ (y : Row). id_in (rowid y)) is)
id_has (r ∷ rows) x (inr later) = inr (id_has rows x later)

not_not : (b : Bool) → not b ≡ true → b ≡ false
not_not true h = absurd cc
not_not false h = refl

-- a row that is left has none of the numbers that were removed
gone_all : (ids : List ℤ) (rows : List Row) (x : Row) → Has (without_all rows ids) x → (id : ℤ) → Has ids id → has_rowid id x ≡ false
gone_all [] rows x h id has = absurd has
gone_all (j ∷ ids) rows x h id (inl is) =
    let here = has_filtered (λ r. not (has_rowid j r)) rows x (without_all_has ids (without_rowid j rows) x h) in
    ap (λ (i : ℤ). has_rowid i x) is ∙ not_not (has_rowid j x) here.1
gone_all (j ∷ ids) rows x h id (inr later) = gone_all ids (without_rowid j rows) x h id later

-- a row conflicts with the head if it has its key
conflict_is : (i r p : ℤ) (row : Row) → conflicts None [] head_table (stored_head i r p) row ≡ has_rowid (pos 1) row
unfolding first_key
conflict_is i r p row = and_true _ ∙ equals_is (column row 0) (pos 1)

-- ---- the statement

-- the head isn't set: it is too long, or refused, or the limit was met
abbrev NotSet : Option ℕ → HeadColumns → Trees → Option Error → Type 0
NotSet limit head db None = IsLongHead head
NotSet limit head db (Some e) =
    ((e ≡ SqliteFailure (code.ConstraintViolation rule.PrimaryKey)) × HasOddKey db) ⊎ ((e ≡ SqliteFailure code.OperationInterrupted) × IsSome limit)

module _ (limit : Option ℕ) (params : Row) (head : HeadColumns) where
  -- the row is refused only if its key is taken
  put_refused : (db : Trees) (reason : Refusal) → IsRefused archive_schema Enforced db (record { table = head_table; gone = []; news = stored_head head.instance head.records head.posts ∷ [] }) reason
      → (edit_error reason ≡ SqliteFailure (code.ConstraintViolation rule.PrimaryKey)) × (list_any (has_rowid (pos 1)) (db 0) ≡ false → ⊥)
  put_refused db (refusal.Violates rule.Datatype) h = absurd (false_true refl h)
  put_refused db (refusal.Violates rule.NotNull) h = absurd (false_true refl h)
  put_refused db (refusal.Violates rule.Check) h = absurd (false_true refl h)
  put_refused db (refusal.Violates rule.PrimaryKey) h = (refl, λ free. false_true (rw free refl) h)
  put_refused db (refusal.Violates rule.Unique) h =
      absurd (h (keeps_unique (with_tree db 0 (edited db (record { table = head_table; gone = []; news = stored_head head.instance head.records head.posts ∷ [] })))))
  put_refused db (refusal.Violates rule.ForeignKey) h = absurd h
  put_refused db refusal.Mismatch h = absurd (false_true refl h)
  put_refused db refusal.NoRowid h = absurd (false_true refl h)
  put_refused db refusal.BadReference h = absurd (false_true refl h)
  put_refused db refusal.TooDeep h = absurd h

  too_long : (r : Row) → Has (stored_head head.instance head.records head.posts ∷ []) r → IsOversized archive_schema head_table r → IsLongHead head
  too_long r (inl is) (inl long) = λ fits. long (subst (λ (x : Row). IsStorableRow (table_reals head_table) x) (sym is) fits)
  too_long r (inl is) (inr index) = absurd index.1
  too_long r (inr none) big = absurd none

  -- what putting the row comes to, if no row that is left has its key, or else not all keys were numbers
  puts_stopped : (was db : Trees) → (list_all (λ r. is_int (rowid r)) (was 0) ≡ true → list_any (has_rowid (pos 1)) (db 0) ≡ false) → (stop : Option Error)
      → Puts (task_of limit Enforced params) (stored_head head.instance head.records head.posts) db (Err stop) → NotSet limit head was stop
  puts_stopped was db free stop h = elim (ended h) [
    | inl put ↦ (
        let own : Edit = record { table = head_table; gone = []; news = stored_head head.instance head.records head.posts ∷ [] } in
        let same : edit_of db head_table [] Given 0 (stored_head head.instance head.records head.posts ∷ []) ≡ own =
        ap (λ (new : Row). record { table = head_table; gone = []; news = new ∷ [] }) (cast_head head.instance head.records head.posts) in
        let it = subst (λ (d : Edit). Edited archive_schema Enforced db d (Err stop)) same put in
        elim (one_refusal Enforced db own it.0 refl it.1) [
          | inl refused ↦ (
              let why = put_refused db refused.0 refused.1 in
              subst (NotSet limit head was) (sym (it.2 ∙ ap (option_map edit_error) refused.2)) (inl (why.0, λ ints. why.1 (free ints))))
          | inr big ↦ subst (NotSet limit head was) (sym (it.2 ∙ ap (option_map edit_error) big.3)) (too_long big.0 big.1 big.2)
        ])
    | inr done ↦ absurd (never_ok done.2)
  ]

  -- a row that has its key is removed, so it is none
  removed : (db mid : Trees) (found : List Row) → AreConflicts None [] head_table (db 0) (stored_head head.instance head.records head.posts) found → mid 0 ≡ without_all (db 0) (ids_of found)
      → list_all (λ r. is_int (rowid r)) (db 0) ≡ true → list_any (has_rowid (pos 1)) (mid 0) ≡ false
  removed db mid found all left ints = free_from (has_rowid (pos 1)) (mid 0) (λ r has own.
      let there : Has (without_all (db 0) (ids_of found)) r = subst (λ (rows : List Row). Has rows r) left has in
      let was : Has (db 0) r = without_all_has (ids_of found) (db 0) r there in
      let among : Has found (rowid r ∷ []) = all.complete r was (conflict_is head.instance head.records head.posts r ∙ own) in
      let key : rowid r ≡ Int (id_in (rowid r)) = int_is (rowid r) (all_has (λ x. is_int (rowid x)) (db 0) r ints was) in
      let gone : has_rowid (id_in (rowid r)) r ≡ false = gone_all (ids_of found) (db 0) r there (id_in (rowid r)) (id_has found (rowid r ∷ []) among) in
      let self : has_rowid (id_in (rowid r)) r ≡ true = ap (λ v. is_eq (value_cmp (rowid r) v)) (sym key) ∙ ap is_eq (tied_itself value_cmp_total (rowid r)) in
      false_true self gone)

  clears_stopped : (db : Trees) (found : List Row) → AreConflicts None [] head_table (db 0) (stored_head head.instance head.records head.posts) found → (stop : Option Error)
      → Clears (task_of limit Enforced params) Replace (stored_head head.instance head.records head.posts) db found (Err stop) → NotSet limit head db stop
  clears_stopped db [] all stop h =
      puts_stopped db db (λ ints. free_from (has_rowid (pos 1)) (db 0) (λ r has own. all.complete r has (conflict_is head.instance head.records head.posts r ∙ own))) stop h
  clears_stopped db (x ∷ more) all stop h = elim (ended h) [
    | inl cleared ↦ elim (one_refusal Enforced db (edit_of db head_table (ids_of (x ∷ more)) Given 0 []) cleared.0 refl cleared.1) [
      | inl refused ↦ absurd (none_refused db (ids_of (x ∷ more)) refused.0 refused.1)
      | inr big ↦ absurd big.1
    ]
    | inr gone ↦ (
        let step = one_step archive_schema Enforced db gone.0 (edit_of db head_table (ids_of (x ∷ more)) Given 0 []) refl gone.1 in
        puts_stopped db gone.0 (removed db gone.0 (x ∷ more) all step.rows) stop gone.2)
  ]
    where
      referred : (b : Bool) → (not b || true) ≡ true
      referred true = refl
      referred false = refl

      none_refused : (d : Trees) (ids : List ℤ) (reason : Refusal) → IsRefused archive_schema Enforced d (record { table = head_table; gone = ids; news = [] }) reason → ⊥
      none_refused d ids (refusal.Violates rule.Datatype) it = false_true refl it
      none_refused d ids (refusal.Violates rule.NotNull) it = false_true refl it
      none_refused d ids (refusal.Violates rule.Check) it = false_true refl it
      none_refused d ids (refusal.Violates rule.PrimaryKey) it = false_true refl it
      none_refused d ids (refusal.Violates rule.Unique) it = it (keeps_unique (with_tree d 0 (edited d (record { table = head_table; gone = ids; news = [] }))))
      none_refused d ids (refusal.Violates rule.ForeignKey) it = it
      none_refused d ids refusal.Mismatch it = false_true refl it
      none_refused d ids refusal.NoRowid it = false_true refl it
      none_refused d ids refusal.BadReference it = false_true (referred (nat_lt 0 (length ids))) it
      none_refused d ids refusal.TooDeep it = it

  judged : (db : Trees) (verdict : Option Refusal) → IsJudged head_table (stored_head head.instance head.records head.posts) verdict → (stop : Option Error)
      → Judged (task_of limit Enforced params) Replace [] (stored_head head.instance head.records head.posts) db verdict (Err stop) → NotSet limit head db stop
  judged db None is stop h = clears_stopped db h.0 h.1 stop h.2
  judged db (Some refusal.Mismatch) is stop h = absurd (false_true refl is)
  judged db (Some refusal.NoRowid) is stop h = absurd is
  judged db (Some refusal.BadReference) is stop h = absurd is
  judged db (Some refusal.TooDeep) is stop h = absurd is
  judged db (Some (refusal.Violates rule.Datatype)) is stop h = absurd (false_true refl is)
  judged db (Some (refusal.Violates rule.NotNull)) is stop h = absurd (false_true refl is)
  judged db (Some (refusal.Violates rule.Check)) is stop h = absurd (false_true refl is)
  judged db (Some (refusal.Violates rule.PrimaryKey)) is stop h = absurd is
  judged db (Some (refusal.Violates rule.Unique)) is stop h = absurd is
  judged db (Some (refusal.Violates rule.ForeignKey)) is stop h = absurd is

  tries_stopped : (db : Trees) (stop : Option Error) → Tries (task_of limit Enforced params) Replace [] (stored_head head.instance head.records head.posts) db (Err stop) → NotSet limit head db stop
  tries_stopped db stop (inl far) = absurd (false_true refl far.0)
  tries_stopped db stop (inr it) = judged db it.0 it.1 stop it.2

  each_stopped : (db : Trees) (rows : List Row) (top : ℤ) (stop : Option Error) → rows ≡ stored_head head.instance head.records head.posts ∷ []
      → TriesEach (task_of limit Enforced params) Replace [] rows top (nothing db) (Err stop) → NotSet limit head db stop
  each_stopped db rows top stop is h =
      elim (ended (subst (λ (all : List Row). TriesEach (task_of limit Enforced params) Replace [] all top (nothing db) (Err stop)) is h)) [
        | inl tried ↦ tries_stopped db stop
            (subst (λ (new : Row). Tries (task_of limit Enforced params) Replace [] new db (Err stop)) (new_is limit Enforced params head.instance head.records head.posts top db) tried)
        | inr one ↦ absurd (never_ok one.2)
      ]

  unsourced : (db : Trees) (stop : Option Error) → params ≡ Int head.instance ∷ Int head.records ∷ Int head.posts ∷ []
      → Sourced limit (record { schema = archive_schema; trees = db }) (stamped head_table params) (Values head_terms 5) (Err stop) → NotSet limit head db stop
  unsourced db None is h = absurd h
  unsourced db (Some e) is (inl kind) = absurd (false_true (ap (λ (ps : Row). accepts_terms head_terms (stamped head_table ps)) is) kind.1)
  unsourced db (Some e) is (inr met) = inr met

  inserts_stopped : (db : Trees) (stop : Option Error) → params ≡ Int head.instance ∷ Int head.records ∷ Int head.posts ∷ []
      → InsertsOr (task_of limit Enforced params) Replace [] (Values head_terms 5) db (Err stop) → NotSet limit head db stop
  inserts_stopped db stop is h = elim (ended h) [
    | inl source ↦ unsourced db stop is source
    | inr sourced ↦ elim (ended sourced.2) [
      | inl counter ↦ absurd (never_ok counter)
      | inr counted ↦ elim (ended counted.2) [
        | inl tried ↦ (
            let rows : sourced.0 ≡ stored_head head.instance head.records head.posts ∷ [] = sourced.1.1 ∙ ap (λ (ps : Row). value_rows (stamped head_table ps) 5 1 head_terms) is in
            each_stopped db sourced.0 _ stop rows tried)
        | inr done ↦ elim (ended done.2) [ inl counts ↦ absurd (never_ok counts) | inr next ↦ absurd (never_ok next.2) ]
      ]
    ]
  ]

pub head_stopped : (old : State) (head : HeadColumns) (text : List ℕ) (stop : Option Error) → old.now.schema ≡ archive_schema
    → Stops old (InsertOr 0 Replace (Values head_terms 5) []) text (Int head.instance ∷ Int head.records ∷ Int head.posts ∷ []) stop → NotSet old.step_limit head old.now.trees stop
head_stopped old head text stop has h =
    let params = Int head.instance ∷ Int head.records ∷ Int head.posts ∷ [] in
    let command = InsertOr 0 Replace (Values head_terms 5) [] in
    elim (ended (subst (λ s. Does old.step_limit (mode_of old) params (record old.now { schema = s }) text None command (Err stop)) has h)) [
      | inl inserts ↦ inserts_stopped old.step_limit params head old.now.trees stop refl inserts
      | inr concludes ↦ elim (ended concludes.2) [
        | inl tested ↦ absurd (tested.0 (refers concludes.0.trees))
        | inr after ↦ elim (ended after.2) [ inl shown ↦ absurd (never_ok shown) | inr rows ↦ absurd (never_ok rows.2) ]
      ]
    ]

pub head_unset : (old new : State) (head : HeadColumns) (r : Result ℕ Error) → old.now.schema ≡ archive_schema
    → ExecutesInside 0 set_head (Int head.instance ∷ Int head.records ∷ Int head.posts ∷ []) old new r → IfErr r (FailsToSet head old new)
head_unset old new head (Ok count) has h = tt
head_unset old new head (Err e) has h =
    let params = Int head.instance ∷ Int head.records ∷ Int head.posts ∷ [] in
    let command = InsertOr 0 Replace (Values head_terms 5) [] in
    let text = statement_of set_head (understood archive_schema set_head) in
    elim (not_done_inside set_head params old new archive_schema has command set_is plain.5 writes_whole.3 writes_whole.4 writes_whole.5
    (λ f. write_placed old command f tt) (write_stays old command tt) e h) [
      | inl failed ↦ inl (inl (by_store_alone old new e failed))
      | inr (inl refused) ↦ elim (head_stopped old head text (Some e) has refused.1) [ inl taken ↦ inr (inr taken) | inr met ↦ inl (inr met) ]
      | inr (inr failed) ↦ elim (by_store old new (Stops old command text params None) e failed) [
        | inl store ↦ inl (inl store)
        | inr big ↦ inr (inl (big.0, head_stopped old head text None has big.1))
      ]
    ]
