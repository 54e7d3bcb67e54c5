-- What making the tables does.
use Rattle.std.proofs.Common.{◌≡◌, ◌⊎◌, inl, inr, ℕ, ◌≤◌, arith, [], false, None, Ok, Err, Result, OnOk, IsTrue, sym, ap, subst, ◌∙◌}
use Rattle.sqlite.specs.Command.TheVariants.{CreateTable, Nothing}
use Rattle.sqlite.specs.Change.{created, next_tree}
use Rattle.sqlite_catalog.specs.Change.{KeepsRows}
use Rattle.sqlite.specs.Does.{Tally, lacks_sequence}
use Rattle.sqlite.specs.Effect.{Database}
use Rattle.sqlite.specs.State.{State, Shows, Writes, Executes, IsUnchanged}
use Rattle.sqlite.proofs.Callers.{runs_as}
use Rattle.iss_tables.specs.Tables.{head_table, post_table_at, no_schema, head_schema, archive_schema}
use Rattle.iss_tables.specs.Texts.{make_head, make_post}
use Rattle.iss_tables.proofs.Compiled.{head_made, post_made, head_creates, post_creates, head_stands, head_stands_alone, post_stands, texts_are, plain, head_whole}
use Rattle.sqlite.specs.declared.error.Error.{Error}
use Rattle.iss_tables.specs.Steps.{HasHeadAlone, AddsPosts, IsMadeOf}
use Rattle.iss_tables.specs.Causes.{CanBeOurs, IsDone}
use Rattle.iss_tables.proofs.PostLemmas.{went, same_value}

-- the table of the head is made, with no row
pub makes_head : (old new : State) (count : ℕ) → old.now.schema ≡ no_schema → Executes make_head [] old new (Ok count) → (new.now.schema ≡ head_schema) × (new.now.trees 0 ≡ [])
makes_head old new count has h =
    let w = subst (λ t. Writes old new None CreateTable t [] count) texts_are.0 (runs_as make_head [] old new no_schema has CreateTable head_creates plain.0 count h) in
    let all = went w.changed in
    let first = went all.1 in
    let made = first.1 in
    let both : Ok made.table ≡ Ok head_table = sym made.defined ∙ head_made in
    let same : made.table ≡ head_table = same_value both in
    let schema : first.0.schema ≡ head_schema = made.is ∙ ap (λ s. created s made.table) has ∙ ap (created no_schema) same in
    let plain : lacks_sequence first.0.schema ≡ false = ap lacks_sequence schema in
    let now : new.now ≡ first.0 = ap (λ (p : Tally × Database). p.1) (same_value all.2) ∙ same_value (rw plain at first.2) in
    (ap (λ (d : Database). d.schema) now ∙ schema, ap (λ (d : Database). d.trees 0) now ∙ subst (λ s. first.0.trees (next_tree s) ≡ []) has made.empty)

-- the table of the postings is made, with no row
pub makes_post : (old new : State) (count : ℕ) → old.now.schema ≡ head_schema → Executes make_post [] old new (Ok count) → (new.now.schema ≡ archive_schema) × (new.now.trees 1 ≡ []) × (new.now.trees 0 ≡ old.now.trees 0)
makes_post old new count has h =
    let w = subst (λ t. Writes old new None CreateTable t [] count) texts_are.1 (runs_as make_post [] old new head_schema has CreateTable post_creates plain.1 count h) in
    let all = went w.changed in
    let first = went all.1 in
    let made = first.1 in
    let both : Ok made.table ≡ Ok (post_table_at 0) = sym made.defined ∙ post_made in
    let same : made.table ≡ post_table_at 0 = same_value both in
    let schema : first.0.schema ≡ archive_schema = made.is ∙ ap (λ s. created s made.table) has ∙ ap (created head_schema) same in
    let plain : lacks_sequence first.0.schema ≡ false = ap lacks_sequence schema in
    let now : new.now ≡ first.0 = ap (λ (p : Tally × Database). p.1) (same_value all.2) ∙ same_value (rw plain at first.2) in
    let kept : KeepsRows head_schema.tables old.now.trees first.0.trees = subst (λ s. KeepsRows s.tables old.now.trees first.0.trees) has made.others in (
      ap (λ (d : Database). d.schema) now ∙ schema,
      ap (λ (d : Database). d.trees 1) now ∙ subst (λ s. first.0.trees (next_tree s) ≡ []) has made.empty,
      ap (λ (d : Database). d.trees 0) now ∙ kept.0,
    )

-- if the tables stand, nothing is done
pub head_is_there : (old new : State) (count : ℕ) → old.now.schema ≡ archive_schema → Executes make_head [] old new (Ok count) → IsUnchanged old new
head_is_there old new count has h = (runs_as make_head [] old new archive_schema has Nothing head_stands plain.2 count h).0

head_is_alone : (old new : State) (count : ℕ) → old.now.schema ≡ head_schema → Executes make_head [] old new (Ok count) → IsUnchanged old new
head_is_alone old new count has h = (runs_as make_head [] old new head_schema has Nothing head_stands_alone head_whole.9 count h).0

post_is_there : (old new : State) (count : ℕ) → old.now.schema ≡ archive_schema → Executes make_post [] old new (Ok count) → IsUnchanged old new
post_is_there old new count has h = (runs_as make_post [] old new archive_schema has Nothing post_stands plain.3 count h).0

-- what each statement comes to
pub head_made_by : (old new : State) (r : Result ℕ Error) → Executes make_head [] old new r → OnOk r (old.now.schema ≡ no_schema → HasHeadAlone new.now)
head_made_by old new (Ok count) h = λ has. makes_head old new count has h
head_made_by old new (Err e) h = tt

pub head_left_by : (old new : State) (r : Result ℕ Error) → Executes make_head [] old new r → OnOk r (old.now.schema ≡ archive_schema → new.now ≡ old.now)
head_left_by old new (Ok count) h = λ has. (head_is_there old new count has h).0.now_is
head_left_by old new (Err e) h = tt

pub post_made_by : (old new : State) (r : Result ℕ Error) → Executes make_post [] old new r → OnOk r (old.now.schema ≡ head_schema → AddsPosts old.now new.now)
post_made_by old new (Ok count) h = λ has. let made = makes_post old new count has h in record { schema = made.0; head = made.2; posts = made.1 }
post_made_by old new (Err e) h = tt

pub post_left_by : (old new : State) (r : Result ℕ Error) → Executes make_post [] old new r → OnOk r (old.now.schema ≡ archive_schema → new.now ≡ old.now)
post_left_by old new (Ok count) h = λ has. (post_is_there old new count has h).0.now_is
post_left_by old new (Err e) h = tt

pub head_alone_by : (old new : State) (r : Result ℕ Error) → Executes make_head [] old new r → OnOk r (old.now.schema ≡ head_schema → new.now ≡ old.now)
head_alone_by old new (Ok count) h = λ has. (head_is_alone old new count has h).0.now_is
head_alone_by old new (Err e) h = tt

-- a call after which the connection shows something in its mode was done
done_shown : (old new : State) (now committed : Database) → Shows old new now committed old.in_transaction → old.faults ≤ new.faults → new.step_limit ≡ old.step_limit → IsDone old new
done_shown old new now committed s counted limit = record { is_open = s.is_open; counted = counted; limit = limit; mode = s.mode }

pub head_done_by : (old new : State) (r : Result ℕ Error) → CanBeOurs old → Executes make_head [] old new r → old.faults ≤ new.faults → new.step_limit ≡ old.step_limit → OnOk r (IsDone old new)
head_done_by old new (Ok count) (inl has) h counted limit = done_shown old new _ _ (head_is_there old new count has h).0 counted limit
head_done_by old new (Ok count) (inr (inl has)) h counted limit = done_shown old new _ _ (runs_as make_head [] old new no_schema has CreateTable head_creates plain.0 count h).shown counted limit
head_done_by old new (Ok count) (inr (inr has)) h counted limit = done_shown old new _ _ (head_is_alone old new count has h).0 counted limit
head_done_by old new (Err e) can h counted limit = tt

pub post_done_by : (old new : State) (r : Result ℕ Error) → (old.now.schema ≡ archive_schema) ⊎ (old.now.schema ≡ head_schema) → Executes make_post [] old new r → old.faults ≤ new.faults
    → new.step_limit ≡ old.step_limit → OnOk r (IsDone old new)
post_done_by old new (Ok count) (inl has) h counted limit = done_shown old new _ _ (post_is_there old new count has h).0 counted limit
post_done_by old new (Ok count) (inr has) h counted limit = done_shown old new _ _ (runs_as make_post [] old new head_schema has CreateTable post_creates plain.1 count h).shown counted limit
post_done_by old new (Err e) can h counted limit = tt

pub done_then : (a b c : State) → IsDone a b → IsDone b c → IsDone a c
done_then a b c p q = record { is_open = q.is_open; counted = omega (arith, p.counted, q.counted); limit = q.limit ∙ p.limit; mode = q.mode ∙ p.mode }

-- what making both comes to
pub both_made : (old mid new : Database) → (old.schema ≡ no_schema → HasHeadAlone mid) → (old.schema ≡ head_schema → mid ≡ old) → (old.schema ≡ archive_schema → mid ≡ old)
    → (mid.schema ≡ head_schema → AddsPosts mid new) → (mid.schema ≡ archive_schema → new ≡ mid) → IsMadeOf old new
both_made old mid new blank alone stands beside kept = record {
  blank = λ has. let first = blank has in let after = beside first.0 in record { schema = after.schema; head = after.head ∙ first.1; posts = after.posts };
  half = λ has. let same = alone has in let after = beside (ap (λ (d : Database). d.schema) same ∙ has) in record { schema = after.schema; head = after.head ∙ ap (λ (d : Database). d.trees 0) same; posts = after.posts };
  ours = λ has. let same = stands has in kept (ap (λ (d : Database). d.schema) same ∙ has) ∙ same;
}

-- what is there once the table of the head was made or left
pub then_ready : (old mid : State) → (old.now.schema ≡ no_schema → HasHeadAlone mid.now) → (old.now.schema ≡ head_schema → mid.now ≡ old.now) → (old.now.schema ≡ archive_schema → mid.now ≡ old.now)
    → CanBeOurs old → (mid.now.schema ≡ archive_schema) ⊎ (mid.now.schema ≡ head_schema)
then_ready old mid blank alone stands (inl has) = inl (ap (λ (d : Database). d.schema) (stands has) ∙ has)
then_ready old mid blank alone stands (inr (inl has)) = inr (blank has).0
then_ready old mid blank alone stands (inr (inr has)) = inr (ap (λ (d : Database). d.schema) (alone has) ∙ has)
