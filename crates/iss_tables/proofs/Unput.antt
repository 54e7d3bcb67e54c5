-- How far postings were put, and why the next one wasn't.
use Rattle.std.proofs.Common.{◌≡◌, inl, inr, ℕ, zero, suc, ◌+◌, ◌<◌, Bool, true, false, not, ◌&&◌, List, [], ◌∷◌, map, length, get_or, drop, IsSome, IsTrue, refl, sym, ap, subst, ◌∙◌, arith}
use Rattle.std.proofs.lemmas.List.{drop_more}
use Rattle.sqlite_rules.specs.Lists.{Has}
use Rattle.sqlite.specs.declared.error.Error.{Error}
use Rattle.sqlite.specs.Edit.{are_fresh}
use Rattle.sqlite.specs.Effect.{Database}
use Rattle.sqlite.specs.Order.{Row}
use Rattle.std.proofs.Common.{◌≤◌}
use Rattle.std.specs.List.{list_all}
use Rattle.sqlite_trees.specs.View.{is_int}
use Rattle.sqlite.specs.Tree.{put_row, rowid}
use Rattle.sqlite.specs.State.{State, Survives}
use Rattle.sqlite_rules.specs.Edit.{is_taken}
use Rattle.iss_tables.specs.declared.adding.PostColumns.{PostColumns}
use Rattle.iss_tables.specs.declared.adding.HeadColumns.{HeadColumns}
use Rattle.iss_tables.specs.Tables.{archive_schema}
use Rattle.iss_tables.specs.Rows.{Columns, columns_of, stored}
use Rattle.iss_tables.specs.Steps.{PutsPost, PutsPosts}
use Rattle.iss_tables.specs.Causes.{FailsToAsk, FailsToPut, FailsToPutAll, FailsToSet, rows_of}
use Rattle.iss_tables.proofs.PostLemmas.{puts_step}
use Rattle.iss_tables.proofs.Failing.{carried, open_not_shut}

-- some were put, and the others are still to be put
pub record HasPut (all rest : List Columns) (old now : State) : Type 0 where
  pub schema : now.now.schema ≡ archive_schema
  pub onward : (end : Database) → PutsPosts rest now.now end → PutsPosts all old.now end
  -- the connection isn't shut by it
  pub shut : now.is_open ≡ false → old.is_open ≡ false
  -- none of their numbers was taken
  pub fresh : are_fresh (old.now.trees 1) (map stored all) ≡ are_fresh (now.now.trees 1) (map stored rest)

and_left : (b : Bool) → (b && true) ≡ true → b ≡ true
and_left true h = refl
and_left false h = h

not_both : (b c : Bool) → (b && true) ≡ false → (b && c) ≡ false
not_both true c h = absurd (let no = h in cc)
not_both false c h = refl

-- one more was put
pub puts_more : (rows : List PostColumns) (i : ℕ) (d : PostColumns) (old mid new : State) → i < length rows
    → HasPut (map columns_of rows) (map columns_of (drop i rows)) old mid → PutsPost (columns_of (get_or rows i d)) mid.now new.now → IsTrue new.is_open
    → HasPut (map columns_of rows) (map columns_of (drop (i + 1) rows)) old new
puts_more rows i d old mid new lt was put opened =
    let row = stored (columns_of (get_or rows i d)) in
    let own : not (is_taken (mid.now.trees 1) row) ≡ true = and_left (not (is_taken (mid.now.trees 1) row)) put.fresh in
    let rest = map stored (map columns_of (drop (i + 1) rows)) in
    let step : are_fresh (mid.now.trees 1) (row ∷ rest) ≡ are_fresh (new.now.trees 1) rest =
    ap (λ (b : Bool). b && are_fresh (put_row row (mid.now.trees 1)) rest) own ∙ ap (λ (l : List Row). are_fresh l rest) (sym put.rows) in
    let cut : map stored (map columns_of (drop i rows)) ≡ row ∷ rest = ap (λ (l : List PostColumns). map stored (map columns_of l)) (drop_more rows i d lt) in
    record {
      schema = put.schema;
      onward = λ end later. was.onward end (puts_step rows i d mid.now new.now end lt put later);
      shut = open_not_shut new.is_open opened;
      fresh = was.fresh ∙ ap (are_fresh (mid.now.trees 1)) cut ∙ step;
    }

has_at : (rows : List PostColumns) (i : ℕ) (d : PostColumns) → i < length rows → Has (rows_of rows) (stored (columns_of (get_or rows i d)))
has_at [] i d lt = absurd (omega (arith, lt))
has_at (r ∷ rows) zero d lt = inl refl
has_at (r ∷ rows) (suc i) d lt = inr (has_at rows i d (omega (arith, lt)))

-- a question's failure after calls that left the connection open
pub asked_later : (old mid new : State) (e : Error) → Survives old mid (λ _. ⊥) → (mid.is_open ≡ false → old.is_open ≡ false) → FailsToAsk mid new e → FailsToAsk old new e
asked_later old mid new e s shut (inl store) = inl (carried old mid new e s.counts shut store)
asked_later old mid new e s shut (inr limit) = inr (limit.0, subst IsSome s.limit limit.1)

-- why the next posting wasn't put is why they weren't all put
pub put_failed : (rows : List PostColumns) (i : ℕ) (d : PostColumns) (old mid new : State) (e : Error) → i < length rows → Survives old mid (λ _. ⊥)
    → HasPut (map columns_of rows) (map columns_of (drop i rows)) old mid → FailsToPut (columns_of (get_or rows i d)) mid new e → FailsToPutAll rows old new e
put_failed rows i d old mid new e lt s was (inl asked) = inl (asked_later old mid new e s was.shut asked)
put_failed rows i d old mid new e lt s was (inr (inl big)) = inr (inl (big.0, (stored (columns_of (get_or rows i d)), has_at rows i d lt, big.1)))
put_failed rows i d old mid new e lt s was (inr (inr taken)) =
    let row = stored (columns_of (get_or rows i d)) in
    let rest = map stored (map columns_of (drop (i + 1) rows)) in
    let cut : map stored (map columns_of (drop i rows)) ≡ row ∷ rest = ap (λ (l : List PostColumns). map stored (map columns_of l)) (drop_more rows i d lt) in
    let own : are_fresh (mid.now.trees 1) (row ∷ rest) ≡ false = not_both (not (is_taken (mid.now.trees 1) row)) (are_fresh (put_row row (mid.now.trees 1)) rest) taken.1 in
    inr (inr (taken.0, was.fresh ∙ ap (are_fresh (mid.now.trees 1)) cut ∙ own))

-- postings leave the table of the head as it was
head_left : (cs : List Columns) (old new : Database) → PutsPosts cs old new → new.trees 0 ≡ old.trees 0
head_left [] old new h = ap (λ (d : Database). d.trees 0) h
head_left (c ∷ cs) old new h = head_left cs h.0 new h.2 ∙ h.1.head

-- why the head wasn't set after the postings is why the record wasn't added
pub set_failed : (cs : List Columns) (head : HeadColumns) (old mid new : State) (e : Error) → Survives old mid (λ _. ⊥) → (mid.is_open ≡ false → old.is_open ≡ false)
    → PutsPosts cs old.now mid.now → FailsToSet head mid new e → FailsToSet head old new e
set_failed cs head old mid new e s shut puts (inl asked) = inl (asked_later old mid new e s shut asked)
set_failed cs head old mid new e s shut puts (inr (inl big)) = inr (inl big)
set_failed cs head old mid new e s shut puts (inr (inr odd)) =
    inr (inr (odd.0, subst (λ (rows : List Row). ¬ (list_all (λ r. is_int (rowid r)) rows ≡ true)) (head_left cs old.now mid.now puts) odd.1))

-- a failure is one of a longer stretch, too
pub asked_before : (old mid new : State) (e : Error) → mid.faults ≤ new.faults → FailsToAsk old mid e → FailsToAsk old new e
asked_before old mid new e more (inl (inl memory)) = inl (inl memory)
asked_before old mid new e more (inl (inr (inl disk))) = inl (inr (inl (record { named = disk.named; counted = omega (arith, disk.counted, more) })))
asked_before old mid new e more (inl (inr (inr closed))) = inl (inr (inr closed))
asked_before old mid new e more (inr limit) = inr limit

pub put_before : (rows : List PostColumns) (old mid new : State) (e : Error) → mid.faults ≤ new.faults → FailsToPutAll rows old mid e → FailsToPutAll rows old new e
put_before rows old mid new e more (inl asked) = inl (asked_before old mid new e more asked)
put_before rows old mid new e more (inr why) = inr why

pub set_before : (head : HeadColumns) (old mid new : State) (e : Error) → mid.faults ≤ new.faults → FailsToSet head old mid e → FailsToSet head old new e
set_before head old mid new e more (inl asked) = inl (asked_before old mid new e more asked)
set_before head old mid new e more (inr why) = inr why
