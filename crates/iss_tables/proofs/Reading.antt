-- What a query over one table shows.
use Rattle.std.proofs.Common.{◌≡◌, ℕ, ℤ, List, [], ◌∷◌, ◌++◌, map, filter, flat_map, Bool, true, false, cond, codes, refl, ap, subst, ◌∙◌, IsPermutation, Result, Ok, Err, IfOk, Vec}
use Rattle.std.specs.Global.{Global}
use Rattle.sqlite.specs.declared.error.Error.{Error}
use Rattle.sqlite.specs.declared.types.Value.TheVariants.{Null, Int, Text}
use Rattle.sqlite.specs.Order.{Row}
use Rattle.sqlite.specs.Tree.{Trees}
use Rattle.sqlite.specs.Term.{Term, Env}
use Rattle.sqlite_value.specs.declared.keys.Key.{Key}
use Rattle.sqlite.specs.Query.{IsAnswerAs, Output, output}
use Rattle.sqlite.specs.Command.TheVariants.{Select}
use Rattle.sqlite.specs.State.{State, Shown}
use Rattle.sqlite.proofs.Callers.{reads_as}
use Rattle.iss_tables.specs.Tables.{archive_schema}
use Rattle.iss_tables.specs.Texts.{get_head, get_posts, get_above}
use Rattle.iss_tables.specs.Queries.{simple, passes, ShowsTable, head_query, posts_query, above_query}
use Rattle.iss_tables.proofs.Compiled.{get_is, posts_is, above_is, above_plain, plain, unlisted}

matched : (where_ : List Term) (params : Row) (rows : List Row)
    → flat_map (λ r. cond (passes where_ params r) ((params ∷ r ∷ []) ∷ []) []) rows ≡ map (λ r. params ∷ r ∷ []) (filter (passes where_ params) rows)
matched where_ params [] = refl
matched where_ params (r ∷ rows) = by (matched where_ params rows) (passes where_ params r)
  where
    by : flat_map (λ r. cond (passes where_ params r) ((params ∷ r ∷ []) ∷ []) []) rows ≡ map (λ r. params ∷ r ∷ []) (filter (passes where_ params) rows)
        → (b : Bool) → cond b ((params ∷ r ∷ []) ∷ []) [] ++ flat_map (λ r. cond (passes where_ params r) ((params ∷ r ∷ []) ∷ []) []) rows
        ≡ map (λ r. params ∷ r ∷ []) (cond b (r ∷ filter (passes where_ params) rows) (filter (passes where_ params) rows))
    by later true = ap (λ (all : List Env). (params ∷ r ∷ []) ∷ all) later
    by later false = later

map_twice : {A B C : Type 0} (f : A → B) (g : B → C) (xs : List A) → map g (map f xs) ≡ map (λ x. g (f x)) xs
map_twice f g [] = refl
map_twice f g (x ∷ xs) = ap (λ rest. g (f x) ∷ rest) (map_twice f g xs)

pub answered : (table : ℕ) (where_ project : List Term) (order : List (Term × Key)) (db : Trees) (params : Row) (rows : List Row) → IsAnswerAs Null (simple table where_ project order) db params rows
    → ShowsTable (simple table where_ project order) (filter (passes where_ params) (db table)) params rows
answered table where_ project order db params rows a =
    let q = simple table where_ project order in
    let staged : a.staged ≡ map (λ r. params ∷ r ∷ []) (filter (passes where_ params) (db table)) = a.grouped ∙ matched where_ params (db table) in
    let kept : a.kept ≡ map (λ r. output q (params ∷ r ∷ [])) (filter (passes where_ params) (db table)) =
    a.distinct ∙ ap (map (output q)) staged ∙ map_twice (λ r. params ∷ r ∷ []) (output q) (filter (passes where_ params) (db table)) in
    record { ordered = a.ordered; same = subst (λ (all : List Output). IsPermutation all a.ordered) kept a.same; sorted = a.sorted; shown = a.shown }

-- what the reading of the head shows
pub gets_head : (old new : State) (rows : List Row) → old.now.schema ≡ archive_schema → Shown get_head [] old new rows
    → ShowsTable head_query (filter (passes head_query.filter []) (old.now.trees 0)) [] rows
gets_head old new rows has h =
    answered 0 head_query.filter head_query.project head_query.order _ [] rows
    ((reads_as get_head [] old new archive_schema has (Select (record { lets = []; body = head_query }) (codes "instance" ∷ codes "records" ∷ codes "posts" ∷ [])) get_is plain.6 unlisted.0 rows h).answer Null)

-- what the reading of a user's rows shows
pub gets_posts : (old new : State) (user : List ℕ) (currency : ℤ) (rows : List Row) → old.now.schema ≡ archive_schema → Shown get_posts (Text user ∷ Int currency ∷ []) old new rows
    → ShowsTable posts_query (filter (passes posts_query.filter (Text user ∷ Int currency ∷ [])) (old.now.trees 1)) (Text user ∷ Int currency ∷ []) rows
gets_posts old new user currency rows has h =
    answered 1 posts_query.filter posts_query.project posts_query.order _ (Text user ∷ Int currency ∷ []) rows
    ((reads_as get_posts (Text user ∷ Int currency ∷ []) old new archive_schema has
    (Select (record { lets = []; body = posts_query }) (codes "seq" ∷ codes "record" ∷ codes "at" ∷ codes "from_kind" ∷ codes "from_user" ∷ codes "to_kind" ∷ codes "to_user" ∷ codes "currency" ∷ codes "amount" ∷ codes "txn" ∷ []))
    posts_is plain.7 unlisted.1 rows h).answer Null)

-- what the reading of the numbers above one shows
pub gets_above : (old new : State) (most : ℤ) (rows : List Row) → old.now.schema ≡ archive_schema → Shown get_above (Int most ∷ []) old new rows
    → ShowsTable above_query (filter (passes above_query.filter (Int most ∷ [])) (old.now.trees 1)) (Int most ∷ []) rows
gets_above old new most rows has h =
    answered 1 above_query.filter above_query.project above_query.order _ (Int most ∷ []) rows
    ((reads_as get_above (Int most ∷ []) old new archive_schema has (Select (record { lets = []; body = above_query }) (codes "seq" ∷ [])) above_is above_plain.0 above_plain.1 rows h).answer Null)

-- what each question comes to
pub above_answer : (old new : State) (most : ℤ) (r : Result (Vec Row Global) Error) → IfOk r (λ rows. Shown get_above (Int most ∷ []) old new rows.items)
    → IfOk r (λ rows. old.now.schema ≡ archive_schema → ShowsTable above_query (filter (passes above_query.filter (Int most ∷ [])) (old.now.trees 1)) (Int most ∷ []) rows.items)
above_answer old new most (Ok rows) h = λ has. gets_above old new most rows.items has h
above_answer old new most (Err e) h = tt

pub head_answer : (old new : State) (r : Result (Vec Row Global) Error) → IfOk r (λ rows. Shown get_head [] old new rows.items)
    → IfOk r (λ rows. old.now.schema ≡ archive_schema → ShowsTable head_query (filter (passes head_query.filter []) (old.now.trees 0)) [] rows.items)
head_answer old new (Ok rows) h = λ has. gets_head old new rows.items has h
head_answer old new (Err e) h = tt

pub posts_answer : (old new : State) (user : List ℕ) (currency : ℤ) (r : Result (Vec Row Global) Error) → IfOk r (λ rows. Shown get_posts (Text user ∷ Int currency ∷ []) old new rows.items)
    → IfOk r (λ rows. old.now.schema ≡ archive_schema → ShowsTable posts_query (filter (passes posts_query.filter (Text user ∷ Int currency ∷ [])) (old.now.trees 1)) (Text user ∷ Int currency ∷ []) rows.items)
posts_answer old new user currency (Ok rows) h = λ has. gets_posts old new user currency rows.items has h
posts_answer old new user currency (Err e) h = tt
