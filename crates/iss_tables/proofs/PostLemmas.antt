-- What adding a posting does.
use Rattle.sqlite.specs.Values.{bound_value, or_null}
use Rattle.std.proofs.Common.{Bor, IsTrue, option_map, ◌≡◌, ◌⊎◌, inl, inr, ℕ, ℤ, List, [], ◌∷◌, map, Bool, true, false, cond, Option, Some, None, Ok, Err, Result, OnOk, refl, sym, ap, subst, ◌∙◌}
use Rattle.sqlite.specs.declared.types.Value.{Value}
use Rattle.sqlite.specs.declared.types.Value.TheVariants.{Null, Int, Text}
use Rattle.sqlite.specs.Order.{Row}
use Rattle.sqlite.specs.Ops.{unary}
use Rattle.sqlite.specs.Kind.TheVariants.{Integer, Text as Words}
use Rattle.sqlite.specs.Source.TheVariants.{Values}
use Rattle.sqlite.specs.Command.TheVariants.{Insert}
use Rattle.sqlite.specs.Edit.{edit_of, edited, are_fresh, numbered}
use Rattle.sqlite.specs.Cast.{cast, cast_row}
use Rattle.sqlite.specs.Rowids.TheVariants.{Chosen}
use Rattle.sqlite.specs.Does.{Tally, Does}
use Rattle.sqlite.specs.Rows.{Written}
use Rattle.sqlite.specs.Tree.{Trees}
use Rattle.sqlite.specs.declared.error.Error.{Error}
use Rattle.sqlite.specs.Listing.{understood}
use Rattle.sqlite.specs.Effect.{Database}
use Rattle.sqlite.specs.State.{State, mode_of, Executes, ExecutesInside, KeepsCommit}
use Rattle.sqlite.proofs.Callers.{statement_of, runs_as, one_step}
use Rattle.iss_tables.specs.Tables.{post_table, archive_schema}
use Rattle.std.proofs.Common.{◌<◌, ◌+◌, length, get_or, drop}
use Rattle.std.proofs.lemmas.List.{drop_more}
use Rattle.iss_tables.specs.declared.adding.PostColumns.{PostColumns}
use Rattle.iss_tables.specs.Steps.{PutsPost, PutsPosts}
use Rattle.iss_tables.specs.Rows.{Columns, columns_of, text_or_null, given, stored}
use Rattle.iss_tables.specs.Texts.{add_post}
use Rattle.iss_tables.proofs.Compiled.{post_terms, add_is, plain}

either : (b : Bool) (x : Value) → cond b x x ≡ x
either true x = refl
either false x = refl

pub cast_int : (n : ℤ) → cast Integer (Int n) ≡ Int n
unfolding unary
cast_int n = either _ (Int n)

pub cast_null : cast Integer Null ≡ Null
unfolding unary
cast_null = either _ Null

pub cast_text : (o : Option (List ℕ)) → cast Words (text_or_null o) ≡ text_or_null o
cast_text None = refl
cast_text (Some t) = refl

-- a part that gave a value did not stop on the way
pub went : {B E R : Type 0} {b : B} {Stops : E → Type 0} → ((stop : E) × Stops stop × (Ok b ≡ Err stop)) ⊎ R → R
went (inl stopped) = absurd (let e = stopped.2 in cc)
went (inr on) = on

pub same_value : {B E : Type 0} {a b : B} → ◌≡◌ {A = Result B E} (Ok a) (Ok b) → a ≡ b
same_value e = cc

-- the new row of the edit
pub cast_given : (c : Columns) → cast_row post_table (Int c.seq ∷ Null ∷ Int c.record_ ∷ Int c.at ∷ Int c.from_kind ∷ text_or_null c.from_user ∷ Int c.to_kind ∷ text_or_null c.to_user ∷ Int c.currency ∷ Int c.amount ∷ text_or_null c.txn ∷ []) ≡ stored c
cast_given c =
    rw (cast_int c.seq, cast_null, cast_int c.record_, cast_int c.at, cast_int c.from_kind, cast_text c.from_user, cast_int c.to_kind, cast_text c.to_user, cast_int c.currency, cast_int c.amount, cast_text c.txn) refl

pub zero_not_one : ◌≡◌ {A = ℕ} 0 1 → ⊥
zero_not_one e = cc

pub adds : (old new : State) (c : Columns) (count : ℕ) → old.now.schema ≡ archive_schema → Executes add_post (given c) old new (Ok count) → PutsPost c old.now new.now
adds old new c count has h =
    let params = given c in
    let db = old.now.trees in
    let command = Insert 1 (Values post_terms 11) in
    let w = runs_as add_post params old new archive_schema has command add_is plain.4 count h in
    let text = statement_of add_post (understood archive_schema add_post) in
    let done = went (subst (λ s. Does old.step_limit (mode_of old) params (record old.now { schema = s }) text None command (Ok (w.tally, new.now))) has w.changed) in
    let now = ap (λ (p : Tally × Database). p.1) (same_value (went (went done.2).2).2) in
    let source = went done.1 in
    let written = went (went source.2).2 in
    let counted = went written.2 in
    let trees : done.0.trees ≡ written.0 = ap (λ (it : Written). it.trees) (same_value counted.2) ∙ same_value counted.1 in
    let news : (edit_of db post_table [] Chosen 0 source.0).news ≡ stored c ∷ [] = ap (λ all. (edit_of db post_table [] Chosen 0 all).news) source.1.1 ∙ ap (λ row. numbered Chosen (db 1) (row ∷ [])) (cast_given c) in
    let step = one_step archive_schema _ db written.0 (edit_of db post_table [] Chosen 0 source.0) refl written.1 in
    record {
      schema = ap (λ (d : Database). d.schema) now;
      rows = ap (λ (d : Database). d.trees 1) now ∙ ap (λ (t : Trees). t 1) trees ∙ step.rows ∙ ap (λ all. edited db (record { table = post_table; gone = []; news = all })) news;
      head = ap (λ (d : Database). d.trees 0) now ∙ ap (λ (t : Trees). t 0) trees ∙ step.others 0 zero_not_one tt;
      fresh = ap (λ all. are_fresh (db 1) all) (sym news) ∙ step.fresh;
    }

-- a text that is handed over, or NULL
pub bound_text : (o : Option (Bor (List ℕ))) → bound_value (or_null (λ s. Text s.now) o) ≡ text_or_null (option_map (λ s. s.now) o)
bound_text None = refl
bound_text (Some t) = refl

-- what holds of a statement in a transaction, whatever it came to: nothing was committed
pub keeps : (sql : List ℕ) (params : Row) (old new : State) (r : Result ℕ Error) → ExecutesInside 0 sql params old new r → KeepsCommit old new
keeps sql params old new (Ok count) h = record { was_open = λ _. h.1.was_open; committed = λ _. h.1.committed_is }
keeps sql params old new (Err e) (inl (ran)) = elim ran.1 [
  | inl same ↦ record { was_open = λ _. same.0.was_open; committed = λ _. same.0.committed_is }
  | inr back ↦ record { was_open = back.was_open; committed = λ is_open. (back.undone is_open).1 }
]
keeps sql params old new (Err e) (inr ends) = record { was_open = λ _. ends.2.0.was_open; committed = λ _. ends.2.0.committed_is }

-- a statement that did what it is to do stays in the transaction
pub stays : (sql : List ℕ) (params : Row) (old new : State) (r : Result ℕ Error) → ExecutesInside 0 sql params old new r → OnOk r (IsTrue new.in_transaction)
stays sql params old new (Ok count) h = rw h.1.mode
stays sql params old new (Err e) h = tt

pub puts_inside : (old new : State) (c : Columns) (r : Result ℕ Error) → ExecutesInside 0 add_post (given c) old new r → OnOk r (old.now.schema ≡ archive_schema → PutsPost c old.now new.now)
puts_inside old new c (Ok count) h = λ has. adds old new c count has h.0
puts_inside old new c (Err e) h = tt

pub keeps_self : (s : State) → KeepsCommit s s
keeps_self s = record { was_open = λ o. o; committed = λ o. refl }

pub keeps_then : (a b c : State) → KeepsCommit a b → KeepsCommit b c → KeepsCommit a c
keeps_then a b c p q = record { was_open = λ o. p.was_open (q.was_open o); committed = λ o. q.committed o ∙ p.committed (q.was_open o) }

-- a connection is in a transaction, or isn't
pub inside_or : {X : Type 0} (b : Bool) → (b ≡ false → X) → (IsTrue b → X) → X
inside_or true out within = within refl
inside_or false out within = out refl

-- one of the postings is put, and then the others
pub puts_step : (rows : List PostColumns) (i : ℕ) (d : PostColumns) (a b z : Database) → i < length rows → PutsPost (columns_of (get_or rows i d)) a b
    → PutsPosts (map columns_of (drop (i + 1) rows)) b z → PutsPosts (map columns_of (drop i rows)) a z
puts_step rows i d a b z lt put rest = subst (λ (all : List PostColumns). PutsPosts (map columns_of all) a z) (sym (drop_more rows i d lt)) (b, put, rest)

-- the tables are the same after postings
pub puts_schema : (cs : List Columns) (a b : Database) → a.schema ≡ archive_schema → PutsPosts cs a b → b.schema ≡ archive_schema
puts_schema [] a b has h = ap (λ (d : Database). d.schema) h ∙ has
puts_schema (c ∷ cs) a b has h = puts_schema cs h.0 b h.1.schema h.2

-- what follows where a call did what it is to do
pub on_ok : {X E A B : Type 0} (r : Result X E) → OnOk r A → (A → B) → OnOk r B
on_ok (Ok x) a f = f a
on_ok (Err e) a f = tt
