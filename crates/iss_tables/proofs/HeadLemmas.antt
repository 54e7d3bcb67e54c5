-- What setting the head does.
use Rattle.std.proofs.Common.{◌≡◌, inl, inr, ℕ, ℤ, pos, List, [], ◌∷◌, true, Option, Some, None, Ok, Err, Result, OnOk, refl, ap, subst, ◌∙◌}
use Rattle.std.specs.declared.cmp.Ordering.{Ordering}
use Rattle.std.specs.declared.cmp.Ordering.TheVariants.{Less, Equal, Greater}
use Rattle.std.specs.Ordering.{is_eq}
use Rattle.sqlite.specs.declared.types.Value.TheVariants.{Int}
use Rattle.sqlite.specs.Order.{Row, value_cmp}
use Rattle.sqlite.specs.Source.TheVariants.{Values}
use Rattle.sqlite.specs.Command.TheVariants.{InsertOr}
use Rattle.sqlite_schema.specs.declared.command.Conflict.TheVariants.{Replace}
use Rattle.sqlite_schema.specs.declared.schema.Keys.{Keys}
use Rattle.sqlite_rules.specs.declared.error.Refusal.{Refusal}
use Rattle.sqlite_rules.specs.Calls.{ids_of}
use Rattle.sqlite.specs.Edit.{edit_of, edited, with_rowid}
use Rattle.sqlite.specs.Cast.{cast_row}
use Rattle.sqlite.specs.Rowids.TheVariants.{Given, Chosen}
use Rattle.sqlite.specs.Does.{Tally, Does}
use Rattle.sqlite.specs.Rows.{Written, Task, Clears, Puts, Judged, Tries, TriesEach, InsertsOr, rowids_for, mended, stamped, nothing}
use Rattle.sqlite.specs.Tree.{Trees, put_row, rowid}
use Rattle.sqlite.specs.declared.error.Error.{Error}
use Rattle.sqlite.specs.Listing.{understood}
use Rattle.sqlite.specs.Effect.{Database, value_rows}
use Rattle.sqlite.specs.State.{State, mode_of, Executes, ExecutesInside}
use Rattle.sqlite.proofs.Callers.{statement_of, runs_as, one_step}
use Rattle.iss_tables.specs.Tables.{head_table, archive_schema}
use Rattle.iss_tables.specs.Steps.{PutsHead, head_row, row_of_head}
use Rattle.iss_tables.specs.declared.adding.HeadColumns.{HeadColumns}
use Rattle.iss_tables.specs.Rows.{stored_head}
use Rattle.iss_tables.specs.Texts.{set_head}
use Rattle.iss_tables.proofs.Compiled.{head_terms, set_is, plain}
use Rattle.iss_tables.proofs.PostLemmas.{cast_int, cast_null, went, same_value}

same_one : is_eq (value_cmp (Int (pos 1)) (Int (pos 1))) ≡ true
unfolding value_cmp lib.Ieee.is_nan lib.Ieee.lt
same_one = refl

-- a row that was put is found
pub put_found : (instance records posts : ℤ) (rows : List Row) → head_row (put_row (stored_head instance records posts) rows) ≡ Some (stored_head instance records posts)
put_found i r p [] = rw same_one refl
put_found i r p (row ∷ rows) = by (put_found i r p rows) (value_cmp (rowid row) (Int (pos 1))) refl
  where
    by : head_row (put_row (stored_head i r p) rows) ≡ Some (stored_head i r p) → (o : Ordering) → value_cmp (rowid row) (Int (pos 1)) ≡ o
        → head_row (put_row (stored_head i r p) (row ∷ rows)) ≡ Some (stored_head i r p)
    by later Less e = rw (e, e) later
    by later Equal e = rw (e, same_one) refl
    by later Greater e = rw (e, same_one) refl

pub cast_head : (i r p : ℤ) → cast_row head_table (stored_head i r p) ≡ stored_head i r p
cast_head i r p = rw (cast_int (pos 1), cast_null, cast_int i, cast_int r, cast_int p) refl

-- the row was put into what was left of the table
pub record Put (row : Row) (db next : Trees) : Type 0 where
  pub head : head_row (next 0) ≡ Some row
  pub rows : next 1 ≡ db 1

one_not_zero : ◌≡◌ {A = ℕ} 1 0 → ⊥
one_not_zero e = cc

never : {B E : Type 0} {b : B} {e : E} → ◌≡◌ {A = Result B E} (Ok b) (Err e) → ⊥
never h = cc

-- the part of the statement that reads the schema
abbrev pub task_of : Option ℕ → Keys → Row → Task
task_of limit keys params = record { limit = limit; keys = keys; schema = archive_schema; table = head_table; params = params }

module _ (limit : Option ℕ) (keys : Keys) (params : Row) (i r p : ℤ) where
  puts : (db : Trees) (one : Written) → Puts (task_of limit keys params) (stored_head i r p) db (Ok one) → Put (stored_head i r p) db one.trees
  puts db one h =
      let put = went h in
      let edit = edit_of db head_table [] Given 0 (stored_head i r p ∷ []) in
      let step = one_step archive_schema keys db put.0 edit refl put.1 in
      let row : edited db edit ≡ put_row (stored_head i r p) (db 0) = ap (λ (new : Row). edited db (record { table = head_table; gone = []; news = new ∷ [] })) (cast_head i r p) in
      let trees : one.trees ≡ put.0 = ap (λ (w : Written). w.trees) (same_value put.2) in
      record {
        head = ap (λ (t : Trees). head_row (t 0)) trees ∙ ap head_row (step.rows ∙ row) ∙ put_found i r p (db 0);
        rows = ap (λ (t : Trees). t 1) trees ∙ step.others 1 one_not_zero tt;
      }

  clears : (db : Trees) (found : List Row) (one : Written) → Clears (task_of limit keys params) Replace (stored_head i r p) db found (Ok one) → Put (stored_head i r p) db one.trees
  clears db [] one h = puts db one h
  clears db (x ∷ more) one h =
      let gone = went h in
      let step = one_step archive_schema keys db gone.0 (edit_of db head_table (ids_of (x ∷ more)) Given 0 []) refl gone.1 in
      let put = puts gone.0 one gone.2 in
      record { head = put.head; rows = put.rows ∙ step.others 1 one_not_zero tt }

  judges : (db : Trees) (verdict : Option Refusal) (one : Written) → Judged (task_of limit keys params) Replace [] (stored_head i r p) db verdict (Ok one)
      → Put (stored_head i r p) db one.trees
  judges db None one h = clears db h.0 one h.2
  judges db (Some why) one h = absurd (never h)

  tries : (db : Trees) (one : Written) → Tries (task_of limit keys params) Replace [] (stored_head i r p) db (Ok one) → Put (stored_head i r p) db one.trees
  tries db one (inl refused) = absurd (let e = refused.1 in cc)
  tries db one (inr judged) = judges db judged.0 one judged.2

  pub new_is : (top : ℤ) (db : Trees) → with_rowid (rowids_for head_table top) (db 0) (cast_row head_table (mended Replace head_table (stored_head i r p))) ≡ stored_head i r p
  new_is top db = ap (with_rowid Chosen (db 0)) (cast_head i r p)

  tries_each : (db : Trees) (rows : List Row) (top : ℤ) (done : Written × ℤ) → rows ≡ stored_head i r p ∷ []
      → TriesEach (task_of limit keys params) Replace [] rows top (nothing db) (Ok done) → Put (stored_head i r p) db done.0.trees
  tries_each db rows top done is h =
      let tried = went (subst (λ (all : List Row). TriesEach (task_of limit keys params) Replace [] all top (nothing db) (Ok done)) is h) in
      let put = tries db tried.0 (subst (λ (new : Row). Tries (task_of limit keys params) Replace [] new db (Ok tried.0)) (new_is top db) tried.1) in
      let trees : done.0.trees ≡ tried.0.trees = ap (λ (d : Written × ℤ). d.0.trees) (same_value tried.2) in
      record { head = ap (λ (t : Trees). head_row (t 0)) trees ∙ put.head; rows = ap (λ (t : Trees). t 1) trees ∙ put.rows }

  -- all that the statement does to the trees
  inserts : (db : Trees) (w : Written) → InsertsOr (task_of limit keys params) Replace [] (Values head_terms 5) db (Ok w) → params ≡ Int i ∷ Int r ∷ Int p ∷ []
      → Put (stored_head i r p) db w.trees
  inserts db w h given =
      let source = went h in
      let counter = went source.2 in
      let tried = went counter.2 in
      let counted = went tried.2 in
      let rows : source.0 ≡ stored_head i r p ∷ [] = source.1.1 ∙ ap (λ (ps : Row). value_rows (stamped head_table ps) 5 1 head_terms) given in
      let put = tries_each db source.0 _ tried.0 rows tried.1 in
      let trees : w.trees ≡ tried.0.0.trees = ap (λ (it : Written). it.trees) (same_value counted.2) ∙ same_value counted.1 in
      record { head = ap (λ (t : Trees). head_row (t 0)) trees ∙ put.head; rows = ap (λ (t : Trees). t 1) trees ∙ put.rows }

pub sets : (old new : State) (i r p : ℤ) (count : ℕ) → old.now.schema ≡ archive_schema → Executes set_head (Int i ∷ Int r ∷ Int p ∷ []) old new (Ok count) → PutsHead (stored_head i r p) old.now new.now
sets old new i r p count has h =
    let params = Int i ∷ Int r ∷ Int p ∷ [] in
    let command = InsertOr 0 Replace (Values head_terms 5) [] in
    let w = runs_as set_head params old new archive_schema has command set_is plain.5 count h in
    let text = statement_of set_head (understood archive_schema set_head) in
    let done = went (subst (λ s. Does old.step_limit (mode_of old) params (record old.now { schema = s }) text None command (Ok (w.tally, new.now))) has w.changed) in
    let now = ap (λ (t : Tally × Database). t.1) (same_value (went (went done.2).2).2) in
    let put = inserts old.step_limit (mode_of old).keys params i r p old.now.trees done.0 done.1 refl in
    record {
      schema = ap (λ (d : Database). d.schema) now;
      head = ap (λ (d : Database). head_row (d.trees 0)) now ∙ put.head;
      rows = ap (λ (d : Database). d.trees 1) now ∙ put.rows;
    }

pub sets_inside : (old new : State) (head : HeadColumns) (r : Result ℕ Error) → ExecutesInside 0 set_head (Int head.instance ∷ Int head.records ∷ Int head.posts ∷ []) old new r
    → OnOk r (old.now.schema ≡ archive_schema → PutsHead (row_of_head head) old.now new.now)
sets_inside old new head (Ok count) h = λ has. sets old new head.instance head.records head.posts count has h.0
sets_inside old new head (Err e) h = tt
