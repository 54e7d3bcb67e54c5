-- Why a table isn't made.
use Rattle.std.specs.List.{list_all}
use Rattle.std.proofs.lemmas.Str.{IsUtf8-from_ascii}
use Rattle.std.proofs.lemmas.Bool.Decides.{nat_tests}
use Rattle.sqlite_trees.specs.Sound as sound
use Rattle.sqlite_trees.specs.Sound.{fits_kind, is_free_name, begins}
use Rattle.sqlite.specs.Order.{value_cmp}
use Rattle.std.proofs.Common.{zero, suc, ◌&&◌, nat_lt, IsAscii, ◌≡◌, ◌⊎◌, inl, inr, ℕ, ◌+◌, ◌*◌, ◌≤◌, Bool, true, false, List, [], ◌∷◌, codes, length, Option, Some, None, Ok, Err, Result, IfErr, IsUtf8, refl, sym, ap, subst, ◌∙◌, arith}
use Rattle.sqlite.specs.Table.{Table}
use Rattle.sqlite.specs.Schema.{Schema}
use Rattle.sqlite_schema.specs.Rules.{table_reals}
use Rattle.sqlite_rules.specs.Lists.{Has}
use Rattle.sqlite_catalog.specs.declared.error.Refusal.{Refusal}
use Rattle.sqlite_catalog.specs.declared.error.Refusal.TheVariants as why
use Rattle.sqlite_catalog.specs.Calls.{RefusesTable}
use Rattle.sqlite_catalog.specs.Change.{is_used, is_reserved, automatics}
use Rattle.sqlite_catalog.specs.Listing.{is_fit, is_formed}
use Rattle.sqlite.specs.Change.{created, next_tree}
use Rattle.sqlite.specs.Compile.{table_defined_by}
use Rattle.sqlite_tied.specs.Compute.{everything}
use Rattle.sqlite.specs.declared.types.Value.TheVariants.{Text}
use Rattle.sqlite.specs.declared.error.Error.{Error}
use Rattle.sqlite.specs.Command.TheVariants.{CreateTable, Nothing}
use Rattle.sqlite.specs.Does.{MakesTable, lacks_sequence}
use Rattle.sqlite.specs.Effect.{Database}
use Rattle.sqlite.specs.Listing.{understood}
use Rattle.sqlite.specs.State.{State, Executes}
use Rattle.sqlite.proofs.Callers.{IsPlain, command_of, statement_of}
use Rattle.iss_tables.specs.Tables.{head_table, post_table_at, no_schema, head_schema, archive_schema}
use Rattle.iss_tables.specs.Texts.{make_head, make_post}
use Rattle.iss_tables.specs.Calls.{IsOurs}
use Rattle.iss_tables.specs.Causes.{FailsByStore, CanBeOurs}
use Rattle.iss_tables.proofs.Compiled.{head_made, post_made, head_creates, post_creates, head_stands, head_stands_alone, post_stands, texts_are, plain, head_whole, post_whole}
use Rattle.iss_tables.proofs.PostLemmas.{same_value}
use Rattle.iss_tables.proofs.Failing.{Stops, tail_of, names_of, shows_of, by_store, by_store_alone, not_done, write_placed, nothing_placed}
use Rattle.iss_tables.proofs.Refused.{ended, never_ok, false_true}

both : (a b : Bool) → (a && b) ≡ true → (a ≡ true) × (b ≡ true)
both true b h = (refl, h)
both false b h = cc

-- a text that can make its table over this schema
pub record CanMake (schema : Schema) (text : List ℕ) (table : Table) : Type 0 where
  pub defined : table_defined_by text ≡ Ok table
  pub readable : IsUtf8 text
  pub named : IsUtf8 table.name
  pub free : is_used schema table.name ≡ false
  pub own : is_reserved table.name ≡ false
  pub bare : table.uniques ≡ []
  pub room : next_tree schema ≤ 1
  pub reals : table_reals table ≡ 0
  pub formed : is_formed table ≡ true
  pub fit : is_fit (Text (codes "table")) (Text table.name) (Text table.name) (Text text) ≡ true
  pub short : 2 * length table.name + length text ≤ 1000

-- no rule of a table that is made refuses it
module _ (schema : Schema) (text : List ℕ) (table : Table) (can : CanMake schema text table) where
  same : (t : Table) → table_defined_by text ≡ Ok t → t ≡ table
  same t defined = let both : Ok t ≡ Ok table = sym defined ∙ can.defined in same_value both

  refuses : (reason : Refusal) → RefusesTable schema text reason → ⊥
  refuses (why.Invalid e) h = never_ok (sym h ∙ can.defined)
  refuses why.NameTaken h =
      let is = same h.0 h.1 in
      elim h.2 [
        | inl used ↦ false_true used (ap (λ (t : Table). is_used schema t.name) is ∙ can.free)
        | inr index ↦ subst (λ (l : List (List ℕ)). Has (automatics h.0 0 0 l) index.0 → ⊥) (sym (ap (λ (t : Table). t.uniques) is ∙ can.bare)) (λ none. none) index.1
      ]
  refuses why.BadName h =
      let is = same h.0 h.1 in
      elim h.2 [
        | inl bytes ↦ bytes (subst (λ (t : Table). IsUtf8 t.name) (sym is) can.named)
        | inr reserved ↦ false_true reserved.0 (ap (λ (t : Table). is_reserved t.name) is ∙ can.own)
      ]
  refuses why.TooBig h =
      let is = same h.0 h.1 in
      let none : h.0.uniques ≡ [] = ap (λ (t : Table). t.uniques) is ∙ can.bare in
      elim h.2 [
        | inl trees ↦ omega (arith, trees, can.room, ap (λ (l : List (List ℕ)). length l) none)
        | inr (inl wide) ↦ omega (arith, wide, ap table_reals is, can.reals)
        | inr (inr key) ↦ subst (λ (l : List (List ℕ)). Has l key.0 → ⊥) (sym none) (λ no. no) key.1
      ]
  refuses why.BadKey h = false_true (ap is_formed (same h.0 h.1) ∙ can.formed) h.2
  refuses why.BadText h = false_true (ap (λ (t : Table). is_fit (Text (codes "table")) (Text t.name) (Text t.name) (Text text)) (same h.0 h.1) ∙ can.fit) h.2
  refuses (why.Violates rule) h = h

  not_made : (db : Database) → db.schema ≡ schema → (stop : Option Error) → MakesTable text db (Err stop) → ⊥
  not_made db has None h = omega (arith, h.2, ap (λ (t : Table). length t.name) (same h.0 h.1), can.short)
  not_made db has (Some e) (inl bytes) = bytes.0 can.readable
  not_made db has (Some e) (inr refused) = refuses refused.0 (subst (λ s. RefusesTable s text refused.0) has refused.1)

  -- a statement that makes a table without a sequence doesn't stop
  pub makes : (old : State) → old.now.schema ≡ schema → lacks_sequence (created schema table) ≡ false → (stop : Option Error) → Stops old CreateTable text [] stop → ⊥
  makes old has lacks stop h = elim (ended h) [
    | inl making ↦ elim (ended making) [
      | inl made ↦ not_made old.now has stop made
      | inr first ↦
          let is : first.0.schema ≡ created schema table = first.1.is ∙ ap (λ s. created s first.1.table) has ∙ ap (created schema) (same first.1.table first.1.defined) in
          let none : lacks_sequence first.0.schema ≡ false = ap lacks_sequence is ∙ lacks in
          never_ok (rw none at first.2)
    ]
    | inr done ↦ never_ok done.2
  ]

small : (bs : List ℕ) → list_all (λ b. nat_lt b 128) bs ≡ true → IsAscii bs
small [] h i = omega arith
small (b ∷ bs) h zero = grind (arith, nat_tests, both (nat_lt b 128) (list_all (λ c. nat_lt c 128) bs) h)
small (b ∷ bs) h (suc i) = small bs (both (nat_lt b 128) (list_all (λ c. nat_lt c 128) bs) h).1 i

-- a text is kept in the schema as that of a table of this name
head_fit : is_fit (Text (codes "table")) (Text (codes "head")) (Text (codes "head")) (Text make_head) ≡ true
unfolding fits_kind is_free_name sound.same_name begins value_cmp lib.Ieee.is_nan lib.Ieee.lt
head_fit = refl

post_fit : is_fit (Text (codes "table")) (Text (codes "post")) (Text (codes "post")) (Text make_post) ≡ true
unfolding fits_kind is_free_name sound.same_name begins value_cmp lib.Ieee.is_nan lib.Ieee.lt
post_fit = refl

head_can : CanMake no_schema make_head head_table
unfolding understood everything
head_can = record {
  defined = head_made;
  readable = IsUtf8-from_ascii make_head (small make_head refl);
  named = IsUtf8-from_ascii (codes "head") (small (codes "head") refl);
  free = refl;
  own = refl;
  bare = refl;
  room = omega arith;
  reals = refl;
  formed = refl;
  fit = head_fit;
  short = omega arith;
}

post_can : CanMake head_schema make_post (post_table_at 0)
unfolding understood everything
post_can = record {
  defined = post_made;
  readable = IsUtf8-from_ascii make_post (small make_post refl);
  named = IsUtf8-from_ascii (codes "post") (small (codes "post") refl);
  free = refl;
  own = refl;
  bare = refl;
  room = omega arith;
  reals = refl;
  formed = refl;
  fit = post_fit;
  short = omega arith;
}

module _ (old new : State) where
  -- a text that stands does nothing, so only the store fails
  stands_still : (sql : List ℕ) (schema : Schema) → old.now.schema ≡ schema → command_of (understood schema sql) ≡ Nothing → IsPlain (understood schema sql)
      → tail_of (understood schema sql) ≡ length sql → names_of (understood schema sql) ≡ 0 → shows_of (understood schema sql) ≡ false
      → (e : Error) → Executes sql [] old new (Err e) → FailsByStore old new e
  stands_still sql schema has is bare tail names shows e h =
      elim (not_done sql [] old new schema has Nothing is bare tail names shows (λ f. nothing_placed old Nothing f refl) e h) [
        | inl failed ↦ by_store_alone old new e failed
        | inr (inl refused) ↦ absurd refused.0
        | inr (inr failed) ↦ elim (by_store old new _ e failed) [ inl store ↦ store | inr big ↦ absurd (let no = big.1 in cc) ]
      ]

  -- a text that makes a table isn't refused, so only the store fails
  makes_alone : (sql : List ℕ) (schema : Schema) (table : Table) → CanMake schema sql table → lacks_sequence (created schema table) ≡ false
      → statement_of sql (understood schema sql) ≡ sql → old.now.schema ≡ schema → command_of (understood schema sql) ≡ CreateTable → IsPlain (understood schema sql)
      → tail_of (understood schema sql) ≡ length sql → names_of (understood schema sql) ≡ 0 → shows_of (understood schema sql) ≡ false
      → (e : Error) → Executes sql [] old new (Err e) → FailsByStore old new e
  makes_alone sql schema table can lacks own has is bare tail names shows e h =
      elim (not_done sql [] old new schema has CreateTable is bare tail names shows (λ f. write_placed old CreateTable f tt) e h) [
        | inl failed ↦ by_store_alone old new e failed
        | inr (inl refused) ↦ absurd (makes schema sql table can old has lacks (Some e) (subst (λ t. Stops old CreateTable t [] (Some e)) own refused.1))
        | inr (inr failed) ↦ elim (by_store old new _ e failed) [
          | inl store ↦ store
          | inr big ↦ absurd (makes schema sql table can old has lacks None (subst (λ t. Stops old CreateTable t [] None) own big.1))
        ]
      ]

  pub head_unmade : (r : Result ℕ Error) → CanBeOurs old → Executes make_head [] old new r → IfErr r (FailsByStore old new)
  head_unmade (Ok count) can h = tt
  head_unmade (Err e) (inl has) h = stands_still make_head archive_schema has head_stands plain.2 head_whole.6 head_whole.7 head_whole.8 e h
  head_unmade (Err e) (inr (inl has)) h = makes_alone make_head no_schema head_table head_can refl texts_are.0 has head_creates plain.0 head_whole.0 head_whole.1 head_whole.2 e h
  head_unmade (Err e) (inr (inr has)) h = stands_still make_head head_schema has head_stands_alone head_whole.9 head_whole.3 head_whole.4 head_whole.5 e h

  pub post_unmade : (r : Result ℕ Error) → IsOurs old ⊎ (old.now.schema ≡ head_schema) → Executes make_post [] old new r → IfErr r (FailsByStore old new)
  post_unmade (Ok count) can h = tt
  post_unmade (Err e) (inl has) h = stands_still make_post archive_schema has post_stands plain.3 post_whole.3 post_whole.4 post_whole.5 e h
  post_unmade (Err e) (inr has) h = makes_alone make_post head_schema (post_table_at 0) post_can refl texts_are.1 has post_creates plain.1 post_whole.0 post_whole.1 post_whole.2 e h
