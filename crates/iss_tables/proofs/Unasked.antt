-- Why a question to our tables has no answer.
use Rattle.std.proofs.Common.{◌≡◌, ◌⊎◌, inl, inr, codes, ℕ, ℤ, true, List, [], ◌∷◌, Ok, Err, Result, IfErr, Vec, refl, sym, subst, ◌∙◌}
use Rattle.std.specs.Global.{Global}
use Rattle.sqlite_sql.specs.Program.{ProgramOverflows}
use Rattle.sqlite_typing.specs.Types.{accepts_program}
use Rattle.sqlite.specs.declared.types.Value.TheVariants.{Int, Text}
use Rattle.sqlite.specs.declared.error.Error.{Error}
use Rattle.sqlite.specs.Order.{Row}
use Rattle.sqlite.specs.Query.{Query}
use Rattle.sqlite.specs.Tree.{Trees}
use Rattle.sqlite.specs.Command.TheVariants.{Select}
use Rattle.sqlite.specs.Effect.{RefusesQuery}
use Rattle.sqlite.specs.State.{State, Fails, FailsToQuery}
use Rattle.iss_tables.specs.Tables.{archive_schema}
use Rattle.iss_tables.specs.Texts.{get_head, get_posts, get_above}
use Rattle.iss_tables.specs.Queries.{head_query, posts_query, above_query}
use Rattle.iss_tables.specs.Causes.{FailsToAsk, MeetsLimit}
use Rattle.iss_tables.proofs.Compiled.{get_is, posts_is, above_is, above_plain, plain, unlisted, asks_whole}
use Rattle.iss_tables.proofs.Failing.{by_store_alone, not_shown}

accepts_head : accepts_program archive_schema [] head_query [] ≡ true
accepts_head = refl

accepts_posts : (user : List ℕ) (currency : ℤ) → accepts_program archive_schema [] posts_query (Text user ∷ Int currency ∷ []) ≡ true
accepts_posts user currency = refl

accepts_above : (most : ℤ) → accepts_program archive_schema [] above_query (Int most ∷ []) ≡ true
accepts_above most = refl

-- a query over one table sums up nothing
plain_head : (db : Trees) → ¬ ProgramOverflows db [] [] [] head_query
plain_head db (inl none) = none
plain_head db (inr h) = h.4

plain_posts : (db : Trees) (params : Row) → ¬ ProgramOverflows db params [] [] posts_query
plain_posts db params (inl none) = none
plain_posts db params (inr h) = h.4

plain_above : (db : Trees) (params : Row) → ¬ ProgramOverflows db params [] [] above_query
plain_above db params (inl none) = none
plain_above db params (inr h) = h.4

-- the types fit, and no sum is made, so only the limit is left
unread : (s : State) (q : Query) (params : Row) (e : Error) → accepts_program s.now.schema [] q params ≡ true → ¬ ProgramOverflows s.now.trees params [] [] q
    → RefusesQuery s.step_limit s.now (record { lets = []; body = q }) params e → MeetsLimit s e
unread s q params e accepts sums (inl kind) = absurd (let no = sym accepts ∙ kind.1 in cc)
unread s q params e accepts sums (inr (inl over)) = absurd (sums over.1)
unread s q params e accepts sums (inr (inr met)) = met

module _ (old new : State) (has : old.now.schema ≡ archive_schema) where
  either : {A : Type 0} (e : Error) → (A → MeetsLimit old e) → Fails old new ⊥ e ⊎ A → FailsToAsk old new e
  either e limit (inl failed) = inl (by_store_alone old new e failed)
  either e limit (inr met) = inr (limit met)

  pub head_unasked : (r : Result (Vec Row Global) Error) → IfErr r (FailsToQuery get_head [] old new) → IfErr r (FailsToAsk old new)
  head_unasked (Ok rows) h = tt
  head_unasked (Err e) h =
      either e (unread old head_query [] e (subst (λ s. accepts_program s [] head_query [] ≡ true) (sym has) accepts_head) (plain_head old.now.trees))
      (not_shown get_head [] old new archive_schema has
      (Select (record { lets = []; body = head_query }) (codes "instance" ∷ codes "records" ∷ codes "posts" ∷ [])) get_is plain.6 asks_whole.0 asks_whole.1 unlisted.0 e h)

  pub posts_unasked : (user : List ℕ) (currency : ℤ) (r : Result (Vec Row Global) Error) → IfErr r (FailsToQuery get_posts (Text user ∷ Int currency ∷ []) old new) → IfErr r (FailsToAsk old new)
  posts_unasked user currency (Ok rows) h = tt
  posts_unasked user currency (Err e) h =
      either e (unread old posts_query (Text user ∷ Int currency ∷ []) e (subst (λ s. accepts_program s [] posts_query (Text user ∷ Int currency ∷ []) ≡ true) (sym has) (accepts_posts user currency)) (plain_posts old.now.trees (Text user ∷ Int currency ∷ [])))
      (not_shown get_posts (Text user ∷ Int currency ∷ []) old new archive_schema has
      (Select (record { lets = []; body = posts_query }) (codes "seq" ∷ codes "record" ∷ codes "at" ∷ codes "from_kind" ∷ codes "from_user" ∷ codes "to_kind" ∷ codes "to_user" ∷ codes "currency" ∷ codes "amount" ∷ codes "txn" ∷ []))
      posts_is plain.7 asks_whole.2 asks_whole.3 unlisted.1 e h)

  pub above_unasked : (most : ℤ) (r : Result (Vec Row Global) Error) → IfErr r (FailsToQuery get_above (Int most ∷ []) old new) → IfErr r (FailsToAsk old new)
  above_unasked most (Ok rows) h = tt
  above_unasked most (Err e) h =
      either e (unread old above_query (Int most ∷ []) e (subst (λ s. accepts_program s [] above_query (Int most ∷ []) ≡ true) (sym has) (accepts_above most)) (plain_above old.now.trees (Int most ∷ [])))
      (not_shown get_above (Int most ∷ []) old new archive_schema has
      (Select (record { lets = []; body = above_query }) (codes "seq" ∷ [])) above_is above_plain.0 asks_whole.4 asks_whole.5 above_plain.1 e h)
